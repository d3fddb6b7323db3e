use Rattle.std.proofs.Common.{ℕ, ap₂, ◌∙◌}
use Rattle.vpg_model.specs.Pairs.{pair_at}
use Rattle.vpg_trace.specs.Taking.{taken_from}
use Rattle.vpg_trace.proofs.Fitting.{told_if}
use Rattle.vpg_trace.proofs.taking.step_between.Goals as goal

pub returns-clause-taken : goal.returns-clause-taken
returns-clause-taken c =
    told_if c.args.known.now c.args.source.now.states.items c.args.source.now.sets.items c.args.source.now.parts.items (pair_at c.args.pairs.now.keys c.args.from) (pair_at c.args.pairs.now.keys c.args.to)
    c.step_from.result
    (c.step_from.ensures
    ∙ ap₂ (λ (p q : ℕ × ℕ). taken_from c.args.known.now c.args.source.now.states.items c.args.source.now.sets.items c.args.source.now.parts.items p q) c.pair_of.ensures c.pair_of-2.ensures)
