use Rattle.std.proofs.Common.{◌≡◌, drop}
use Rattle.vpg_formula.specs.ActionWords.{placed_words}
use Rattle.vpg_warnings.specs.Actions.{is_mentioned}
use Rattle.vpg_warnings.proofs.actions.is_mentioned.Given as goal

abbrev pub invariant-loop-word : goal.invariant-loop-word
invariant-loop-word l = is_mentioned (placed_words (drop l.word-index l.words)) l.name ≡ is_mentioned (placed_words l.words) l.name
