use Rattle.std.proofs.Common.{ℕ, sym, ap, ◌∙◌}
use Rattle.vpg_system_draw.specs.Traced.{takes, leaving}
use Rattle.vpg_system_draw.proofs.Marked.{none_takes}
use Rattle.vpg_system_draw.proofs.marks.is_taken.Goals as goal

pub returns-then-not-leaves : goal.returns-then-not-leaves
returns-then-not-leaves c =
    sym (ap (λ (s : ℕ). takes c.args.steps.now s (leaving c.args.system.now.transitions s c.args.n)) (sym c.source_at-source.ensures)
    ∙ none_takes c.args.steps.now c.source_at-source.result (leaving c.args.system.now.transitions c.source_at-source.result c.args.n) (sym c.leaves.ensures ∙ c.if-not-leaves.true))
