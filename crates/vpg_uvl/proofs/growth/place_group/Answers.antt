use Rattle.std.proofs.Common.{arith, sym, subst}
use Rattle.std.proofs.lemmas.Grind.{common_steps}
use Rattle.vpg_uvl.specs.Views.{growth_of, AreNumbered}
use Rattle.vpg_uvl.proofs.Growing.{numbered_with_group}
use Rattle.vpg_uvl.proofs.growth.place_group.Goals as goal

pub returns-clause-grown : goal.returns-clause-grown
returns-clause-grown c = grind (arith, common_steps)

pub returns-clause-numbered : goal.returns-clause-numbered
returns-clause-numbered c =
    subst AreNumbered (sym (returns-clause-grown c)) (numbered_with_group (growth_of c.args.growth.now) c.args.indent c.args.parents.items c.args.parent c.args.kind c.requires.parents c.requires.none)
