use Rattle.std.proofs.Common.{get_or, ℕ, Option, ◌∙◌, ap, reverse, ◌≡◌, ◌+◌, ◌-◌, ◌<◌, ◌≤◌, length, arith, suc}
use Rattle.std.proofs.lemmas.List.{get_or_default}
use Rattle.vpg_parts.specs.declared.symbol.Symbol.TheVariants.{True}
use Rattle.vpg_normal.specs.Ranks.{noted}
use Rattle.vpg_normal.proofs.Nearest.{named_turn}
use Rattle.vpg_normal.proofs.Sizes.{size_fits}
use Rattle.vpg_normal.proofs.Passes.{priorities_turn, low_turn, priority_low}
use Rattle.vpg_normal.proofs.rank.priorities.Goals as goal

pub priority-priority-requires-clause-fits : goal.priority-priority-requires-clause-fits
priority-priority-requires-clause-fits c =
    omega (arith, size_fits c.args.symbols.now c.args.sizes.now (c.loop-place.place - 1 + 1) c.requires.sizes, c.requires.few, c.requires.fixpoints, c.loop-place.auto.place, c.loop-place-test.true)

pub priority-priority-requires-clause-variables : goal.priority-priority-requires-clause-variables
priority-priority-requires-clause-variables c =
    let next : c.loop-place.place ≡ c.loop-place.place - 1 + 1 = omega (arith, c.loop-place-test.true) in
    rw (c.deref-in-loop-place.ensures.value, ← next, c.requires.fixpoints) c.loop-place.invariant.variables

pub loop-place-preserved : goal.loop-place-preserved
loop-place-preserved c =
    let l = c.loop-place in
    let place = l.place - 1 in
    let next : l.place ≡ place + 1 = omega (arith, c.loop-place-test.true) in
    let inside : place < length c.args.symbols.now = omega (arith, l.auto.place, c.loop-place-test.true) in
    let value = rw c.deref.ensures.value at c.priority-priority.ensures in
    let low : c.priority-priority.result ≤ suc (length c.args.symbols.now - l.place) = rw value (priority_low c.args.scopes.now c.args.fixpoints.now l.priorities.items (length c.args.symbols.now - l.place) l.invariant.low c.args.sizes.now place _) in record {
      are = priorities_turn c.args.symbols.now c.args.sizes.now c.args.scopes.now c.args.fixpoints.now l.priorities.items l.place place c.priority-priority.result (get_or c.args.symbols.now place True) l.invariant.are next inside (get_or_default c.args.symbols.now place True (get_or c.args.symbols.now place True) inside) value;
      low = low_turn l.priorities.items l.place place c.priority-priority.result (length c.args.symbols.now) l.invariant.low next inside low l.invariant.are.count;
      variables = named_turn c.args.fixpoints.now l.place place (length c.args.symbols.now) (reverse l.variables.items) (reverse c.note.new.variables.items) next inside l.invariant.variables
          (c.in_ok-note.ensures ∙ ap (λ (o : Option ℕ). noted o place (reverse l.variables.items)) c.link_at.ensures);
    }
