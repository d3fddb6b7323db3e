use Rattle.std.proofs.Common.{◌≡◌, ◌+◌, List, [], ◌∷◌, ◌++◌, take, sym, ap, ◌∙◌, subst, arith}
use Rattle.std.proofs.lemmas.List.{take_all, take_more}
use Rattle.vpg_partial.specs.TableLaws.{AreChoicesOf}
use Rattle.vpg_texts.specs.Scene.{scene_of}
use Rattle.vpg_why.specs.Explained.{choices}
use Rattle.vpg_winners.specs.Numbered.{HasItsNumber}
use Rattle.vpg_winners.specs.Winners.{views}
use Rattle.vpg_winners.specs.declared.parts.Part.{Part}
use Rattle.vpg_looks.specs.Answers.{Appends, TellsPartLines}
use Rattle.vpg_looks.proofs.Parting.{told_line, told_no_lines}
use Rattle.vpg_looks.proofs.winners.each.Goals as goal

pub loop-part-init : goal.loop-part-init
loop-part-init c =
    told_no_lines (scene_of c.args.labels.now.names c.args.order.now.game c.args.order.now.diagram) c.args.looks c.args.vertex (choices c.args.order.now.decisions) c.args.out.now.items

pub loop-part-preserved : goal.loop-part-preserved
loop-part-preserved c =
    let parts = c.args.parts.now in
    let i = c.loop-part.part-index in
    let part = c.part-item.result in
    let all : take (i + 1) parts ≡ take i parts ++ part ∷ [] =
    take_more parts i part c.loop-part-test.true ∙ ap (λ (p : Part). take i parts ++ p ∷ []) (sym c.part-item.is) in
    told_line (scene_of c.args.labels.now.names c.args.order.now.game c.args.order.now.diagram) c.args.looks c.args.vertex (choices c.args.order.now.decisions)
    (take i parts) (take (i + 1) parts) part c.args.out.now.items c.loop-part.out.items c.counted.new.out.items all c.loop-part.invariant c.in_ok-counted.ensures

pub counted-requires-clause-named : goal.counted-requires-clause-named
counted-requires-clause-named c =
    subst (λ (p : Part). AreChoicesOf c.args.order.now.diagram.lines p.literals.items) (sym c.part-item.is)
    (c.requires.named c.loop-part.part-index c.part-item.result c.loop-part-test.true)

pub counted-requires-clause-number : goal.counted-requires-clause-number
counted-requires-clause-number c =
    subst (HasItsNumber c.args.order.now.diagram.lines (choices c.args.order.now.decisions)) (sym c.part-item.is)
    (c.requires.numbers c.loop-part.part-index c.part-item.result c.loop-part-test.true)

pub returns : goal.returns
returns c =
    let parts = c.args.parts.now in
    let order = c.args.order.now in
    subst
    (λ (ps : List Part). Appends (TellsPartLines (scene_of c.args.labels.now.names order.game order.diagram) c.args.looks c.args.vertex (choices order.decisions) (views ps)) c.args.out.now.items c.loop-part.out.items)
    (take_all c.loop-part.part-index parts (omega (arith, c.loop-part-test.false))) c.loop-part.invariant
