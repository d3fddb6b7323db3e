use Rattle.std.proofs.Common.{◌<◌, ◌∙◌, ℕ, All, inl, inr, refl, subst}
use Rattle.std.specs.Prelude.{IfSome}
use Rattle.vpg_game.proofs.Graphs.{same_count}
use Rattle.vpg_texts.specs.Scene.{scene_of}
use Rattle.vpg_looks.specs.Answers.{TellsWinning}
use Rattle.vpg_looks.proofs.Told.{appends}
use Rattle.vpg_looks.proofs.winning.winning.Goals as goal

pub tell-requires-clause-count : goal.tell-requires-clause-count
tell-requires-clause-count c =
    let are = rw c.in-Winning.is at c.in_ok-moves.ensures.found in
    rw c.deref.ensures.value (are.count ∙ same_count c.args.order.now.game)

pub tell-requires-clause-inside : goal.tell-requires-clause-inside
tell-requires-clause-inside c =
    let are = rw c.in-Winning.is at c.in_ok-moves.ensures.found in
    rw c.deref.ensures.value
    (subst (λ (n : ℕ). All (λ m. IfSome m (λ w. w < n)) c.in-Winning.moves.items) (same_count c.args.order.now.game) are.inside)

pub returns-in-Winning : goal.returns-in-Winning
returns-in-Winning c =
    let order = c.args.order.now in
    appends (TellsWinning (scene_of c.args.labels.now.names order.game order.diagram) c.args.limits c.args.mover c.args.vertex order.decisions) _
    (inl (c.in-Winning.moves.items, rw c.in-Winning.is at c.in_ok-moves.ensures.found, refl))
    c.tell.result c.args.out.now.items c.tell.new.out.items (rw (c.word_of-word.ensures, c.deref.ensures.value) at c.tell.ensures)

pub unreachable-requires : goal.unreachable-requires
unreachable-requires c = c.in_ok-moves.ensures.verdict c.requires.verdict c.in-Nothing.is

pub returns-in-Unsettled : goal.returns-in-Unsettled
returns-in-Unsettled c =
    let order = c.args.order.now in
    appends (TellsWinning (scene_of c.args.labels.now.names order.game order.diagram) c.args.limits c.args.mover c.args.vertex order.decisions) _
    (inr (λ settles. c.in_ok-moves.ensures.settled settles c.in-Unsettled.is, refl))
    c.unsettled.result c.args.out.now.items c.unsettled.new.out.items c.unsettled.ensures
