use Rattle.std.proofs.Common.{Option, None, List, ℕ, subst}
use Rattle.std.specs.Prelude.{IfErr, IfOk}
use Rattle.vpg_script.specs.Manners.{Leaves}
use Rattle.vpg_engine.specs.Engine.{between_of}
use Rattle.vpg_report.specs.Left.{plain, IsStopped}
use Rattle.vpg_report.specs.Run.{answering_called, called_by}
use Rattle.vpg_report.proofs.leaving.carried.Goals as goal

pub returns-clause-left : goal.returns-clause-left
returns-clause-left g c =
    let first = c.args.server.now in
    subst (λ (input : Option (List ℕ)). IfOk c.carried_from.result (Leaves plain (answering_called (called_by first.engine first.context.now) 1) (between_of first.engine) (between_of c.carried_from.new.server.engine) input None None))
    c.reader-reader.ensures.remaining c.carried_from.ensures.left

pub returns-clause-stopped : goal.returns-clause-stopped
returns-clause-stopped g c =
    let first = c.args.server.now in
    subst (λ (input : Option (List ℕ)). IfErr c.carried_from.result (IsStopped (answering_called (called_by first.engine first.context.now) 1) (between_of first.engine) input None None))
    c.reader-reader.ensures.remaining c.carried_from.ensures.stopped
