use Rattle.std.proofs.Common.{◌+◌, ◌∙◌, sym, ap, map, take, drop}
use Rattle.vpg_trail.specs.Page.{literal_of, stands}
use Rattle.vpg_desk.proofs.Missing.{stands_here, split_decisions}
use Rattle.vpg_desk.proofs.commit.is_made.Goals as goal

pub returns-then-decision-one-2 : goal.returns-then-decision-one-2
returns-then-decision-one-2 c =
    sym (ap (λ l. stands l (literal_of c.args.decision)) (split_decisions c.args.made.now c.loop-one.one-index _ c.loop-one-test.true)
    ∙ stands_here (literal_of c.args.decision) (map literal_of (take c.loop-one.one-index c.args.made.now)) _ (map literal_of (drop (c.loop-one.one-index + 1) c.args.made.now))
    c.if-decision-one.true c.if-decision-one-2.true)
