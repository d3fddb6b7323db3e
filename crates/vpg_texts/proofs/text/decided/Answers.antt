use Rattle.std.proofs.Common.{◌++◌, List, map, refl, ap, ◌∙◌}
use Rattle.vpg_trail.specs.Page.{Decision, Literal, literal_of}
use Rattle.vpg_texts.specs.Text.{choice_text, choices_text}
use Rattle.vpg_texts.proofs.Pieces.{all_written, piece_more}
use Rattle.vpg_texts.proofs.text.decided.Goals as goal

pub loop-d-preserved : goal.loop-d-preserved
loop-d-preserved c =
    let names = c.args.names.now in
    piece_more (λ (ds : List Decision). choices_text names (map literal_of ds)) (λ (d : Decision). choice_text names (literal_of d)) refl (λ d ds. refl) c.args.ds.now c.loop-d.d-index _
    c.args.out.now.items c.loop-d.out.items c.choice.new.out.items c.loop-d-test.true c.loop-d.invariant
    (c.in_ok-choice.ensures ∙ ap (λ (l : Literal). c.loop-d.out.items ++ choice_text names l) c.literal.ensures)

pub returns : goal.returns
returns c = all_written (λ (ds : List Decision). choices_text c.args.names.now (map literal_of ds)) c.args.ds.now c.loop-d.d-index c.args.out.now.items c.loop-d.out.items c.loop-d-test.false c.loop-d.invariant
