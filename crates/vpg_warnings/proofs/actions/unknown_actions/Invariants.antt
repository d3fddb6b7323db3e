use Rattle.std.proofs.Common.{◌≡◌, ◌++◌, drop}
use Rattle.std.specs.Prelude.{filter}
use Rattle.vpg_formula.specs.ActionWords.{placed_words}
use Rattle.vpg_warnings.specs.Actions.{names_none, action_label, unknown_actions}
use Rattle.vpg_warnings.proofs.actions.unknown_actions.Given as goal

abbrev pub invariant-loop-word : goal.invariant-loop-word
invariant-loop-word l =
    placed_words l.found.items ++ filter (λ w. names_none l.system.actions (action_label w.1)) (placed_words (drop l.word-index l.word-items))
    ≡ unknown_actions l.system.actions l.text
