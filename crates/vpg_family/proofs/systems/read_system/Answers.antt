use Rattle.std.proofs.Common.{ℕ, List, length, ap, subst, ◌∙◌}
use Rattle.vpg_system.specs.SystemText.{IsTextOf}
use Rattle.vpg_system.specs.TextFaults.{IsFirstFault}
use Rattle.vpg_family.proofs.systems.read_system.Goals as goal

pub returns-in-Ok-clause-found : goal.returns-in-Ok-clause-found
returns-in-Ok-clause-found c =
    subst (λ (names : List (List ℕ)). IsTextOf names c.args.text.now c.in-Ok.system) c.names.ensures.names c.in-Ok.ensures.found

pub returns-in-Ok-clause-features : goal.returns-in-Ok-clause-features
returns-in-Ok-clause-features c = c.in-Ok.ensures.found.features_are ∙ ap length c.names.ensures.names ∙ c.names.ensures.diagram.each_named

pub returns-in_default-clause-refused : goal.returns-in_default-clause-refused
returns-in_default-clause-refused c =
    (c.in_default.not-Memory, subst (λ (names : List (List ℕ)). IsFirstFault names c.args.text.now c.in-Err.fault) c.names.ensures.names c.in-Err.ensures.fault)
