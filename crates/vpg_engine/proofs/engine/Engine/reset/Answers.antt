use Rattle.std.proofs.Common.{refl}
use Rattle.vpg_script.specs.Script.{Reset}
use Rattle.vpg_engine.proofs.Deciding.{as_asked, reset_named}
use Rattle.vpg_engine.proofs.engine.Engine.reset.Goals as goal

pub change-requires : goal.change-requires
change-requires g c = record { takes = λ call. tt; changes = λ undo. refl; means = λ call r. refl; named = λ call is. reset_named c.args.self.now.client.desk }

pub returns-clause-answer : goal.returns-clause-answer
returns-clause-answer g c =
    as_asked c.change.result c.args.self.now c.change.new.self c.args.session Reset _ c.args.out.now.items c.change.new.out.items refl refl c.change.ensures.answer
