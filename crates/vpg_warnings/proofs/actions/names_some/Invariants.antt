use Rattle.std.proofs.Common.{◌≡◌, drop}
use Rattle.std.specs.List.{list_any}
use Rattle.vpg_meaning.specs.Labels.{is_named}
use Rattle.vpg_warnings.proofs.actions.names_some.Given as goal

abbrev pub invariant-loop-action : goal.invariant-loop-action
invariant-loop-action l = list_any (is_named l.label) (drop l.action l.system.actions) ≡ list_any (is_named l.label) l.system.actions
