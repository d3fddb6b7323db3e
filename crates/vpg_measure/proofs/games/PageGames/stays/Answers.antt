use Rattle.std.proofs.Common.{ℕ, ◌<◌, ◌≤◌, length, slice_index, refl, arith, ap}
use Rattle.vpg_hope.specs.Arena.{vertex_at}
use Rattle.vpg_measure.specs.Games.{games_levels, games_arena}
use Rattle.vpg_measure.specs.Lifts.{lift_of}
use Rattle.vpg_measure.proofs.Rounds.{progress_from, progress_at}
use Rattle.std.proofs.lemmas.Bool.{false≢true}
use Rattle.vpg_measure.proofs.games.PageGames.stays.Goals as goal

pub returns : goal.returns
returns c = (
  λ t. progress_from (games_levels c.args.which c.args.self.now) (games_arena c.args.which c.args.self.now) c.args.table.now c.requires.table
      (coe 0 1 (k. (u : ℕ) → u < length (c.arena-arena.ensures k) → lift_of (c.shape-shape.ensures k) c.args.table.now (vertex_at (c.arena-arena.ensures k) u) ≤ slice_index c.args.table.now u)
      (λ u less. c.loop-v.invariant u (omega (arith, c.vertices-v-end.ensures)))),
  λ h. refl,
)

pub returns-then-get-lift : goal.returns-then-get-lift
returns-then-get-lift c =
    let levels = games_levels c.args.which c.args.self.now in
    let arena = games_arena c.args.which c.args.self.now in
    let lift = rw (c.shape-shape.ensures, c.arena-arena.ensures) at c.lift.ensures.lift in
    let less : c.loop-v.v < length arena = omega (arith, c.vertices-v-end.ensures, c.loop-v-test.true, ap length c.arena-arena.ensures) in (
      λ t. absurd (false≢true t),
      λ h. absurd (omega (arith, progress_at levels arena c.args.table.now c.requires.table h c.loop-v.v less, lift, c.get.ensures, c.if-get-lift.true)),
    )
