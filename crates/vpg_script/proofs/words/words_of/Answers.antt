use Rattle.std.proofs.Common.{ℕ, List, ◌++◌, length, ap, arith}
use Rattle.std.specs.Borrow.{Bor}
use Rattle.vpg_script.specs.View.{texts}
use Rattle.vpg_script.specs.Script.{words}
use Rattle.vpg_script.proofs.OneByOne.{all_read, one_read}
use Rattle.vpg_script.proofs.words.words_of.Goals as goal

pub loop-word-init : goal.loop-word-init
loop-word-init c = record {
  most = length c.args.line.now;
  enough = omega arith;
  are = ap (λ (ws : List (Bor (List ℕ))). texts ws ++ words c.args.line.now) c.new-words.ensures.items;
}

pub loop-word-preserved : goal.loop-word-preserved
loop-word-preserved c =
    one_read c.loop-word.words.items c.push.new.self.items c.in-Some.word c.loop-word.rest.now c.in-Some.behind.now (words c.args.line.now)
    c.in_ok-push.ensures.items c.in-Some.ensures.shorter c.in-Some.ensures.some c.loop-word.invariant

pub returns : goal.returns
returns c = all_read c.loop-word.words.items c.loop-word.rest.now (words c.args.line.now) c.in_default.ensures.none c.loop-word.invariant
