use Rattle.std.proofs.Common.{[], ◌∙◌, sym}
use Rattle.vpg_trail.specs.Page.{Hopeful, Dual}
use Rattle.vpg_trail.proofs.Tables.{tables_after_entry}
use Rattle.vpg_trail.proofs.replay.replay.Goals as goal

pub returns-clause-hopeful : goal.returns-clause-hopeful
returns-clause-hopeful c = c.take_all.ensures.hopeful [] (c.requires.hopeful_zeros ∙ sym (tables_after_entry Hopeful [] c.args.vertices).3)

pub returns-clause-dual : goal.returns-clause-dual
returns-clause-dual c = c.take_all.ensures.dual [] (c.requires.dual_zeros ∙ sym (tables_after_entry Dual [] c.args.vertices).3)
