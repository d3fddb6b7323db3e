use Rattle.std.proofs.Common.{refl}
use Rattle.vpg_script.specs.Script.{Retract}
use Rattle.vpg_engine.proofs.Deciding.{as_asked, retracted_named}
use Rattle.vpg_engine.proofs.engine.Engine.retract.Goals as goal

pub change-requires : goal.change-requires
change-requires g c = record { takes = λ call. tt; changes = λ undo. refl; means = λ call r. refl; named = λ call is. retracted_named c.args.self.now.client.desk call.feature }

pub returns-clause-answer : goal.returns-clause-answer
returns-clause-answer g c =
    as_asked c.change.result c.args.self.now c.change.new.self c.args.session (Retract c.args.name.now) _ c.args.out.now.items c.change.new.out.items c.retracting-call.ensures refl c.change.ensures.answer
