use Rattle.std.proofs.Common.{map, subst}
use Rattle.std.specs.Prelude.{IfOk}
use Rattle.vpg_partial.specs.Known.{literal_of}
use Rattle.vpg_system_draw.specs.Traced.{Marking}
use Rattle.vpg_family.specs.Systems.{IsSystemDrawn}
use Rattle.vpg_family.proofs.systems.system_shown.Goals as goal

pub returns : goal.returns
returns c =
    subst (λ (m : Marking). IfOk c.system_marked.result (λ picture. IsSystemDrawn c.args.diagram.now.names c.args.known.now (map literal_of c.args.decisions.now) c.args.system.now m picture.items)) c.in_ok-marks.ensures
    c.system_marked.ensures
