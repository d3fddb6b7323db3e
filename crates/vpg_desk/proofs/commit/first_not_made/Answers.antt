use Rattle.std.proofs.Common.{◌+◌, ◌∙◌, sym, ap, map, take, drop}
use Rattle.std.proofs.lemmas.List.{map_more}
use Rattle.vpg_trail.specs.Page.{literal_of}
use Rattle.vpg_desk.specs.Book.{first_missing}
use Rattle.vpg_desk.proofs.Missing.{missing_here, missing_more, split_decisions}
use Rattle.vpg_desk.proofs.commit.first_not_made.Goals as goal

pub returns-then-not-is_made : goal.returns-then-not-is_made
returns-then-not-is_made c =
    sym (ap (first_missing (map literal_of c.args.made.now)) (split_decisions c.args.decisions.now c.loop-decision.decision-index _ c.loop-decision-test.true)
    ∙ missing_here (map literal_of c.args.made.now) (map literal_of (take c.loop-decision.decision-index c.args.decisions.now)) _ (map literal_of (drop (c.loop-decision.decision-index + 1) c.args.decisions.now)) c.loop-decision.invariant
    (sym c.is_made.ensures ∙ c.if-not-is_made.true))

pub loop-decision-preserved : goal.loop-decision-preserved
loop-decision-preserved c =
    ap (first_missing (map literal_of c.args.made.now)) (map_more literal_of c.args.decisions.now c.loop-decision.decision-index _ c.loop-decision-test.true)
    ∙ missing_more (map literal_of c.args.made.now) (map literal_of (take c.loop-decision.decision-index c.args.decisions.now)) _ c.loop-decision.invariant
    (sym c.is_made.ensures ∙ c.if-not-is_made.false)
