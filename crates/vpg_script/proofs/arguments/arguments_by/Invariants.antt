use Rattle.std.proofs.Common.{◌≡◌, map, drop}
use Rattle.vpg_script.specs.Script.{arguments_by}
use Rattle.vpg_script.specs.View.{argument_shown, texts}
use Rattle.vpg_script.proofs.Commands.{after}
use Rattle.vpg_script.proofs.arguments.arguments_by.Given as goal

abbrev pub invariant-loop-word : goal.invariant-loop-word
invariant-loop-word l =
    arguments_by l.parameters l.rest (texts l.words)
    ≡ after (map argument_shown l.arguments.items) (arguments_by l.left l.rest (texts (drop l.word-index l.words)))
