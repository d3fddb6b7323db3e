use Rattle.std.proofs.Common.{List, refl}
use Rattle.vpg_trail.specs.Page.{Literal}
use Rattle.vpg_texts.specs.Text.{choice_text, choices_text}
use Rattle.vpg_texts.proofs.Pieces.{all_written, piece_more}
use Rattle.vpg_texts.proofs.text.assumed.Goals as goal

pub loop-l-preserved : goal.loop-l-preserved
loop-l-preserved c =
    let names = c.args.names.now in
    piece_more (λ (ls : List Literal). choices_text names ls) (λ (l : Literal). choice_text names l) refl (λ l ls. refl) c.args.ls.now c.loop-l.l-index _
    c.args.out.now.items c.loop-l.out.items c.choice.new.out.items c.loop-l-test.true c.loop-l.invariant c.in_ok-choice.ensures

pub returns : goal.returns
returns c = all_written (λ (ls : List Literal). choices_text c.args.names.now ls) c.args.ls.now c.loop-l.l-index c.args.out.now.items c.loop-l.out.items c.loop-l-test.false c.loop-l.invariant
