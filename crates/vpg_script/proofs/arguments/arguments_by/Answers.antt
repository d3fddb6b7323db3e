use Rattle.std.proofs.Common.{map, sym, ◌∙◌}
use Rattle.vpg_script.specs.View.{argument_shown}
use Rattle.vpg_script.proofs.Commands.{begun, one_word, read_all, read_none, shown_none}
use Rattle.vpg_script.proofs.arguments.arguments_by.Goals as goal

pub loop-word-init : goal.loop-word-init
loop-word-init c = begun _ c.new-arguments.ensures.items _

pub loop-word-preserved : goal.loop-word-preserved
loop-word-preserved c =
    c.loop-word.invariant
    ∙ one_word c.loop-word.left.now c.later-left.result.now c.args.rest c.args.words.now c.loop-word.word-index _ c.loop-word.arguments.items c.push.new.self.items c.in-Some.argument
    c.loop-word-test.true c.in-Some.ensures c.in_ok-push.ensures.items c.later-left.ensures

pub returns-in_default : goal.returns-in_default
returns-in_default c =
    sym (c.loop-word.invariant
    ∙ read_none c.loop-word.left.now c.args.rest c.args.words.now c.loop-word.word-index _ (map argument_shown c.loop-word.arguments.items) c.loop-word-test.true
    (sym (shown_none argument_shown _ _ c.in_default.is c.next_argument.ensures)))

pub returns : goal.returns
returns c =
    sym (c.loop-word.invariant
    ∙ read_all c.loop-word.left.now c.args.rest c.args.words.now c.loop-word.word-index (map argument_shown c.loop-word.arguments.items) c.loop-word-test.false)
