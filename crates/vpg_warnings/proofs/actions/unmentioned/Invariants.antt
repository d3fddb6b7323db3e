use Rattle.std.proofs.Common.{◌≡◌, map, take}
use Rattle.std.specs.Prelude.{not}
use Rattle.vpg_formula.specs.ActionWords.{placed_words}
use Rattle.vpg_warnings.specs.Actions.{is_mentioned}
use Rattle.vpg_warnings.proofs.actions.unmentioned.Given as goal

abbrev pub invariant-loop-action : goal.invariant-loop-action
invariant-loop-action l = l.marks.items ≡ map (λ name. not (is_mentioned (placed_words l.words) name)) (take l.action l.system.actions)
