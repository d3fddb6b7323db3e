use Rattle.std.proofs.Common.{◌-◌, refl}
use Rattle.std.proofs.lemmas.Iterator.{items_from_collect, YieldsList-from_range}
use Rattle.vpg_diagram.proofs.line.Members.list.Goals as goal

pub returns : goal.returns
returns c = items_from_collect _ c.collect.ensures.ran (YieldsList-from_range c.args.self.first c.args.self.end (c.args.self.end - c.args.self.first) refl refl)
