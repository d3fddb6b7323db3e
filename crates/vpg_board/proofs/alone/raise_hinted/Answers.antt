use Rattle.vpg_board.proofs.Lone.{rises_none, rises_trans, less_still}
use Rattle.std.proofs.Common.{ℕ, ◌<◌, subst}
use Rattle.vpg_board.proofs.alone.raise_hinted.Goals as goal

pub hinted-init : goal.hinted-init
hinted-init g c = record { rises = rises_none c.args.harvest.now c.requires.harvest }

pub hinted-preserved : goal.hinted-preserved
hinted-preserved g c = record { rises = rises_trans c.args.harvest.now c.hinted.harvest c.raise_and_hint.new.harvest c.hinted.invariant.rises c.raise_and_hint.ensures.rises }

pub raise_and_hint-requires-clause-vertex : goal.raise_and_hint-requires-clause-vertex
raise_and_hint-requires-clause-vertex g c =
    less_still c.args.harvest.now c.hinted.harvest c.in-Some.v c.hinted.invariant.rises (subst (λ (n : ℕ). c.in-Some.v < n) c.requires.game c.in-Some.ensures)
