use Rattle.std.proofs.Common.{List, Option, ℕ, ◌+◌, false, arith, sym, subst, ◌∙◌, ap}
use Rattle.vpg_features.proofs.Noted.{any_default}
use Rattle.vpg_hope.specs.Games.{owner_of}
use Rattle.vpg_why.specs.Played.{move_if}
use Rattle.vpg_measure.specs.Views.{strategy_of}
use Rattle.vpg_why.proofs.Plays.{ArePlayedBelow, played_none, played_next, played_all}
use Rattle.vpg_why.proofs.reaching.played.Goals as goal

pub loop-v-init : goal.loop-v-init
loop-v-init c = subst (λ (xs : List (Option ℕ)). ArePlayedBelow c.args.arena.now c.args.moves.now c.in_ok-marks.marks.items 0 xs) (sym c.new-played.ensures.items)
    (played_none c.args.arena.now c.args.moves.now c.in_ok-marks.marks.items)

pub loop-v-preserved : goal.loop-v-preserved
loop-v-preserved c = subst (λ (xs : List (Option ℕ)). ArePlayedBelow c.args.arena.now c.args.moves.now c.in_ok-marks.marks.items (c.loop-v.v + 1) xs) (sym c.in_ok-push.ensures.items)
    (played_next c.args.arena.now c.args.moves.now c.in_ok-marks.marks.items c.loop-v.v c.loop-v.played.items c.move_at.result c.loop-v.invariant
    (c.move_at.ensures
    ∙ ap (λ b. move_if (owner_of c.args.arena.now c.loop-v.v) b (strategy_of c.args.moves.now c.loop-v.v))
    (c.index.ensures ∙ any_default c.in_ok-marks.marks.items c.loop-v.v c.index.result.now false (omega (arith, c.loop-v-test.true, c.vertices-v-end.ensures, c.in_ok-marks.ensures.0)))))

pub returns : goal.returns
returns c =
    played_all c.args.arena.now c.args.moves.now c.in_ok-marks.marks.items c.args.first c.loop-v.v c.loop-v.played.items
    (omega (arith, c.loop-v-test.false, c.loop-v.auto.v-end, c.vertices-v-end.ensures)) c.in_ok-marks.ensures c.loop-v.invariant
