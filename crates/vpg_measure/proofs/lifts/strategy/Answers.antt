use Rattle.std.proofs.Common.{◌<◌, length, All, refl, arith, slice_index, below_more}
use Rattle.std.proofs.lemmas.List.Elements.{All-from_get_or}
use Rattle.vpg_hope.specs.Arena.{Vertex, vertex_at, IsClosed}
use Rattle.vpg_hope.specs.Games.{isolated}
use Rattle.vpg_measure.specs.Lifts.{AreChoices, choice_of}
use Rattle.vpg_measure.proofs.NumberVerdicts.{choices_win}
use Rattle.std.proofs.lemmas.List.{length_push}
use Rattle.vpg_measure.proofs.Steps.{pushed_more}
use Rattle.vpg_measure.proofs.lifts.strategy.Goals as goal

all_chosen : (c : goal.After-loop-v) → AreChoices c.args.shape.now c.args.arena.now c.args.table.now c.loop-v.choices.items
all_chosen c = (
  omega (arith, c.loop-v.invariant.len, c.vertices-v-end.ensures),
  λ v less. c.loop-v.invariant.each v (omega (arith, c.vertices-v-end.ensures)),
)

all_closed : (c : goal.After-loop-v) → IsClosed c.args.arena.now
all_closed c = All-from_get_or (λ (x : Vertex). All (λ w. w < length c.args.arena.now) x.successors) c.args.arena.now isolated
    (λ v less. c.loop-v.invariant.closed v (omega (arith, c.vertices-v-end.ensures)))

pub returns-clause-wins : goal.returns-clause-wins
returns-clause-wins c = λ v less below.
    choices_win c.args.shape.now c.args.arena.now c.args.table.now c.loop-v.choices.items c.requires (c.if-not-is_progress.ensures.0 refl) (all_chosen c) (all_closed c) v less below

pub returns-clause-settled : goal.returns-clause-settled
returns-clause-settled c = c.if-not-is_progress.ensures.0 refl

pub loop-v-preserved : goal.loop-v-preserved
loop-v-preserved c =
    let choices = c.loop-v.choices.items in
    let v = c.loop-v.v in
    let i = c.loop-v.invariant in
    rw (rw c.if-is_err.ensures.negation at c.push.ensures.items) (record {
      len = omega (arith, i.len, length_push choices c.choice.result);
      each = pushed_more (λ u. choice_of c.args.shape.now c.args.table.now (vertex_at c.args.arena.now u) (slice_index c.args.table.now u))
          choices c.choice.result v i.len i.each c.choice.ensures.choice;
      closed = below_more _ _ i.closed c.choice.ensures.closed;
    })
