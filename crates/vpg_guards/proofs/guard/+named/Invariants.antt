use Rattle.std.proofs.Common.{◌≡◌, ◌++◌, drop}
use Rattle.vpg_guards.specs.Formula.{named_by}
use Rattle.vpg_guards.specs.View.{parts_in, formulas_of}
use Rattle.vpg_guards.proofs.guard.+named.Given as goal

-- what is added and what is still to add is the whole
abbrev pub invariant-Guards::push_features-loop-part : goal.invariant-Guards::push_features-loop-part
invariant-Guards::push_features-loop-part l =
    l.features.items ++ named_by (formulas_of (drop l.part-index l.part-items)) ≡ l.fn.features.items ++ named_by (parts_in l.self)
