use Rattle.std.specs.Arc.{arc_value}
use Rattle.vpg_engine.specs.Engine.{between_of}
use Rattle.vpg_report.proofs.Left.{ends_of, handed_of, leaves_of, not_opened, out_of_memory, stops_there}
use Rattle.vpg_report.proofs.leaving.left_there.Goals as goal

pub returns : goal.returns
returns g c =
    let diagram = arc_value c.args.diagram in
    let game = arc_value c.args.game in
    let context = c.args.context.now in
    let script = c.args.script.now in
    let old = c.in-Ok.engine in
    let left = between_of c.carried-run.new.server.engine in
    let run = c.carried-run.result in
    let ends = ends_of diagram game context script c.in-Ok.ensures.fits left run (leaves_of diagram game context script old left run c.in-Ok.ensures.opened c.carried-run.ensures.left)
    (stops_there diagram game context script old left run c.in-Ok.ensures.opened c.carried-run.ensures.stopped) c.handed-left.result
    (handed_of diagram game context script g.L.Terms.game g.L.Terms.diagram left run c.handed-left.result c.requires.of.0 c.requires.of.1 c.handed-left.ensures) in
    record { left = ends.0; stopped = ends.1 }

pub returns-in-Memory-clause-stopped : goal.returns-in-Memory-clause-stopped
returns-in-Memory-clause-stopped g c = out_of_memory (arc_value c.args.diagram) (arc_value c.args.game) c.args.context.now c.args.script.now

pub returns-in_default : goal.returns-in_default
returns-in_default g c = record {
  left = tt;
  stopped = not_opened (arc_value c.args.diagram) (arc_value c.args.game) c.args.context.now c.args.script.now c.in-Err.fault c.in_default.not-Memory c.in-Err.ensures.refused;
}
