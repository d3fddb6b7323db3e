use Rattle.std.proofs.Common.{[]}
use Rattle.std.specs.Prelude.{length}
use Rattle.vpg_texts.specs.Scene.{scene_of}
use Rattle.vpg_answers.specs.Topics.{IsWithin, TopicHasSystem, topic_shown}
use Rattle.vpg_answers.specs.declared.topic.Topic as code
use Rattle.vpg_report.proofs.Draws.{topic_so, trace_asked, trace_within}
use Rattle.vpg_report.proofs.drawing.vertex_asked.Goals as goal

pub returns-in-Ok-OfVertex-Trace-default-clause-asked : goal.returns-in-Ok-OfVertex-Trace-default-clause-asked
returns-in-Ok-OfVertex-Trace-default-clause-asked c =
    let arm = c.in-Ok-OfVertex-Trace-default in
    trace_asked c.args.behaviour.now (scene_of [] c.args.game.now c.args.diagram.now) c.args.command.now c.in-Look.look arm.field-0 arm.field-0-0 arm.vertex c.in_ok-alloc-in-Look.field-0 c.in-Look.is
    c.in_ok-alloc-in-Look.ensures.topic arm.is arm.field-0-is arm.field-0-0-is

pub returns-in-Ok-OfVertex-Trace-default-clause-within : goal.returns-in-Ok-OfVertex-Trace-default-clause-within
returns-in-Ok-OfVertex-Trace-default-clause-within c =
    let arm = c.in-Ok-OfVertex-Trace-default in
    let vertices = length c.args.game.now.vertices in
    let features = length c.args.diagram.now.names in
    trace_within c.args.behaviour.now vertices features arm.field-0 arm.field-0-0 arm.vertex arm.field-0-is arm.field-0-0-is
    (topic_so c.in_ok-alloc-in-Look.field-0 arm.field-0 (λ (topic : code.Topic). IsWithin vertices features (topic_shown topic)) arm.is c.in_ok-alloc-in-Look.ensures.within)
    (topic_so c.in_ok-alloc-in-Look.field-0 arm.field-0 (λ (topic : code.Topic). TopicHasSystem features c.args.behaviour.now (topic_shown topic)) arm.is c.in_ok-alloc-in-Look.ensures.system)
