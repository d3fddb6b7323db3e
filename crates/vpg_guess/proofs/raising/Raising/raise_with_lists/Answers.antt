use Rattle.vpg_guess.proofs.Kept.{kept_then}
use Rattle.vpg_guess.proofs.raising.Raising.raise_with_lists.Goals as goal

pub returns-in_err-lifts-clause-raised : goal.returns-in_err-lifts-clause-raised
returns-in_err-lifts-clause-raised c =
    kept_then c.args.self.now c.lift_each.new.self c.raise_parts.new.self c.lift_each.ensures c.raise_parts.ensures

pub returns-then-not-branch-clause-raised : goal.returns-then-not-branch-clause-raised
returns-then-not-branch-clause-raised c =
    kept_then c.args.self.now c.raise_parts.new.self c.raise_rest.new.self
    (kept_then c.args.self.now c.lift_each.new.self c.raise_parts.new.self c.lift_each.ensures c.raise_parts.ensures)
    c.raise_rest.ensures.raised
