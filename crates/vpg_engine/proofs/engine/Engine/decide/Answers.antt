use Rattle.std.proofs.Common.{◌<◌, length, refl}
use Rattle.std.specs.Prelude.{◌+◌}
use Rattle.vpg_engine.specs.Engine.{deciding, scene_at}
use Rattle.vpg_engine.proofs.Deciding.{as_asked, decided_goes, decided_named, some_of}
use Rattle.vpg_engine.proofs.engine.Engine.decide.Goals as goal

pub change-requires : goal.change-requires
change-requires g c = record {
  takes = λ call. tt;
  changes = λ undo. refl;
  means = λ call r. refl;
  named = λ call is. decided_named c.args.self.now.client.desk call.feature call.value
      (some_of c.deciding-call.result call (λ decide. decide.feature < length c.args.self.now.client.desk.diagram.names) is c.deciding-call.ensures.named);
}

pub returns-clause-answer : goal.returns-clause-answer
returns-clause-answer g c =
    let now = c.args.self.now in
    as_asked c.change.result now c.change.new.self c.args.session (deciding c.args.value c.args.name.now) _ c.args.out.now.items c.change.new.out.items c.deciding-call.ensures.first
    (decided_goes (scene_at now) now.held (now.client.calls + 1) c.args.session c.args.value c.args.name.now) c.change.ensures.answer
