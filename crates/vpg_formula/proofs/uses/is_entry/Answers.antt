use Rattle.std.proofs.Common.{sym, ◌∙◌, ap, List, ℕ}
use Rattle.std.specs.Prelude.{bytes_eq}
use Rattle.vpg_formula.proofs.EntryCode.{among_goes}
use Rattle.vpg_formula.proofs.uses.is_entry.Goals as goal

pub returns-then-is_same : goal.returns-then-is_same
returns-then-is_same c =
    sym (c.loop-entry.invariant ∙ among_goes c.args.entries.now c.loop-entry.entry-index c.entry-item.result c.args.name.now _ c.loop-entry-test.true c.entry-item.is
    (ap (λ (s : List ℕ). bytes_eq s c.args.name.now) (sym c.as_bytes.ensures) ∙ sym c.is_same.ensures ∙ c.if-is_same.true))

pub loop-entry-preserved : goal.loop-entry-preserved
loop-entry-preserved c =
    c.loop-entry.invariant ∙ among_goes c.args.entries.now c.loop-entry.entry-index c.entry-item.result c.args.name.now _ c.loop-entry-test.true c.entry-item.is
    (ap (λ (s : List ℕ). bytes_eq s c.args.name.now) (sym c.as_bytes.ensures) ∙ sym c.is_same.ensures ∙ c.if-is_same.false)
