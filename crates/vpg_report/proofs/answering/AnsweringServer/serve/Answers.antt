use Rattle.std.proofs.Common.{ℕ}
use Rattle.std.specs.Prelude.{IsErrOf}
use Rattle.vpg_script.specs.declared.serving.ServeFault.TheVariants.{Stray}
use Rattle.vpg_engine.specs.Faults.{IsAstray}
use Rattle.vpg_report.proofs.Served.{answered}
use Rattle.vpg_report.proofs.answering.AnsweringServer.serve.Goals as goal

pub returns-in-Select : goal.returns-in-Select
returns-in-Select g c =
    let p = answered c.decide.result c.args.self.now.engine c.decide.new.self c.args.self.now.context.now c.diagram.result.now c.names-features.result.now c.args.lifters c.args.request.now c.in_ok-said.said _ c.args.out.now.items c.decide.new.out.items
    c.diagram.ensures c.names-features.ensures.names c.in_ok-said.ensures c.in-Select.is c.decide.ensures.answer (λ (label : ℕ). IsErrOf c.decide.result Stray → IsAstray c.args.self.now.engine.client label c.decide.new.self.client) c.decide.ensures.strayed in
    record { answer = p.0; scene = p.1; strayed = p.2 }

pub returns-in-Exclude : goal.returns-in-Exclude
returns-in-Exclude g c =
    let p = answered c.decide-in-Exclude.result c.args.self.now.engine c.decide-in-Exclude.new.self c.args.self.now.context.now c.diagram.result.now c.names-features.result.now c.args.lifters c.args.request.now c.in_ok-said.said _ c.args.out.now.items c.decide-in-Exclude.new.out.items
    c.diagram.ensures c.names-features.ensures.names c.in_ok-said.ensures c.in-Exclude.is c.decide-in-Exclude.ensures.answer (λ (label : ℕ). IsErrOf c.decide-in-Exclude.result Stray → IsAstray c.args.self.now.engine.client label c.decide-in-Exclude.new.self.client) c.decide-in-Exclude.ensures.strayed in
    record { answer = p.0; scene = p.1; strayed = p.2 }

pub returns-in-Retract : goal.returns-in-Retract
returns-in-Retract g c =
    let p = answered c.retract.result c.args.self.now.engine c.retract.new.self c.args.self.now.context.now c.diagram.result.now c.names-features.result.now c.args.lifters c.args.request.now c.in_ok-said.said _ c.args.out.now.items c.retract.new.out.items
    c.diagram.ensures c.names-features.ensures.names c.in_ok-said.ensures c.in-Retract.is c.retract.ensures.answer (λ (label : ℕ). IsErrOf c.retract.result Stray → IsAstray c.args.self.now.engine.client label c.retract.new.self.client) c.retract.ensures.strayed in
    record { answer = p.0; scene = p.1; strayed = p.2 }

pub returns-in-Reset : goal.returns-in-Reset
returns-in-Reset g c =
    let p = answered c.reset.result c.args.self.now.engine c.reset.new.self c.args.self.now.context.now c.diagram.result.now c.names-features.result.now c.args.lifters c.args.request.now c.in_ok-said.said _ c.args.out.now.items c.reset.new.out.items
    c.diagram.ensures c.names-features.ensures.names c.in_ok-said.ensures c.in-Reset.is c.reset.ensures.answer (λ (label : ℕ). IsErrOf c.reset.result Stray → IsAstray c.args.self.now.engine.client label c.reset.new.self.client) c.reset.ensures.strayed in
    record { answer = p.0; scene = p.1; strayed = p.2 }

pub returns-in-Undo : goal.returns-in-Undo
returns-in-Undo g c =
    let p = answered c.undo.result c.args.self.now.engine c.undo.new.self c.args.self.now.context.now c.diagram.result.now c.names-features.result.now c.args.lifters c.args.request.now c.in_ok-said.said _ c.args.out.now.items c.undo.new.out.items
    c.diagram.ensures c.names-features.ensures.names c.in_ok-said.ensures c.in-Undo.is c.undo.ensures.answer (λ (label : ℕ). IsErrOf c.undo.result Stray → IsAstray c.args.self.now.engine.client label c.undo.new.self.client) c.undo.ensures.strayed in
    record { answer = p.0; scene = p.1; strayed = p.2 }

pub returns-in-Redo : goal.returns-in-Redo
returns-in-Redo g c =
    let p = answered c.redo.result c.args.self.now.engine c.redo.new.self c.args.self.now.context.now c.diagram.result.now c.names-features.result.now c.args.lifters c.args.request.now c.in_ok-said.said _ c.args.out.now.items c.redo.new.out.items
    c.diagram.ensures c.names-features.ensures.names c.in_ok-said.ensures c.in-Redo.is c.redo.ensures.answer (λ (label : ℕ). IsErrOf c.redo.result Stray → IsAstray c.args.self.now.engine.client label c.redo.new.self.client) c.redo.ensures.strayed in
    record { answer = p.0; scene = p.1; strayed = p.2 }

pub returns-in-Keep : goal.returns-in-Keep
returns-in-Keep g c =
    let p = answered c.keep.result c.args.self.now.engine c.keep.new.self c.args.self.now.context.now c.diagram.result.now c.names-features.result.now c.args.lifters c.args.request.now c.in_ok-said.said _ c.args.out.now.items c.keep.new.out.items
    c.diagram.ensures c.names-features.ensures.names c.in_ok-said.ensures c.in-Keep.is c.keep.ensures.answer (λ (label : ℕ). IsErrOf c.keep.result Stray → IsAstray c.args.self.now.engine.client label c.keep.new.self.client) c.keep.ensures.strayed in
    record { answer = p.0; scene = p.1; strayed = p.2 }

pub returns-in-Forget : goal.returns-in-Forget
returns-in-Forget g c =
    let p = answered c.forget.result c.args.self.now.engine c.forget.new.self c.args.self.now.context.now c.diagram.result.now c.names-features.result.now c.args.lifters c.args.request.now c.in_ok-said.said _ c.args.out.now.items c.forget.new.out.items
    c.diagram.ensures c.names-features.ensures.names c.in_ok-said.ensures c.in-Forget.is c.forget.ensures.answer (λ (label : ℕ). IsErrOf c.forget.result Stray → IsAstray c.args.self.now.engine.client label c.forget.new.self.client) c.forget.ensures.strayed in
    record { answer = p.0; scene = p.1; strayed = p.2 }

pub returns-in-Lift : goal.returns-in-Lift
returns-in-Lift g c =
    let p = answered c.lift.result c.args.self.now.engine c.lift.new.self c.args.self.now.context.now c.diagram.result.now c.names-features.result.now c.args.lifters c.args.request.now c.in_ok-said.said _ c.args.out.now.items c.lift.new.out.items
    c.diagram.ensures c.names-features.ensures.names c.in_ok-said.ensures c.in-Lift.is c.lift.ensures.answer (λ (label : ℕ). IsErrOf c.lift.result Stray → IsAstray c.args.self.now.engine.client label c.lift.new.self.client) c.lift.ensures.strayed in
    record { answer = p.0; scene = p.1; strayed = p.2 }

pub returns-in-Harvest : goal.returns-in-Harvest
returns-in-Harvest g c =
    let p = answered c.harvest.result c.args.self.now.engine c.harvest.new.self c.args.self.now.context.now c.diagram.result.now c.names-features.result.now c.args.lifters c.args.request.now c.in_ok-said.said _ c.args.out.now.items c.harvest.new.out.items
    c.diagram.ensures c.names-features.ensures.names c.in_ok-said.ensures c.in-Harvest.is c.harvest.ensures.answer (λ (label : ℕ). IsErrOf c.harvest.result Stray → IsAstray c.args.self.now.engine.client label c.harvest.new.self.client) c.harvest.ensures.strayed in
    record { answer = p.0; scene = p.1; strayed = p.2 }

pub returns-in-Commit : goal.returns-in-Commit
returns-in-Commit g c =
    let p = answered c.commit.result c.args.self.now.engine c.commit.new.self c.args.self.now.context.now c.diagram.result.now c.names-features.result.now c.args.lifters c.args.request.now c.in_ok-said.said _ c.args.out.now.items c.commit.new.out.items
    c.diagram.ensures c.names-features.ensures.names c.in_ok-said.ensures c.in-Commit.is c.commit.ensures.answer (λ (label : ℕ). IsErrOf c.commit.result Stray → IsAstray c.args.self.now.engine.client label c.commit.new.self.client) c.commit.ensures.strayed in
    record { answer = p.0; scene = p.1; strayed = p.2 }

pub returns-in-Settle : goal.returns-in-Settle
returns-in-Settle g c =
    let p = answered c.settle.result c.args.self.now.engine c.settle.new.self c.args.self.now.context.now c.diagram.result.now c.names-features.result.now c.args.lifters c.args.request.now c.in_ok-said.said _ c.args.out.now.items c.settle.new.out.items
    c.diagram.ensures c.names-features.ensures.names c.in_ok-said.ensures c.in-Settle.is c.settle.ensures.answer (λ (label : ℕ). IsErrOf c.settle.result Stray → IsAstray c.args.self.now.engine.client label c.settle.new.self.client) c.settle.ensures.strayed in
    record { answer = p.0; scene = p.1; strayed = p.2 }

pub returns-in-Changed : goal.returns-in-Changed
returns-in-Changed g c =
    let p = answered c.changed.result c.args.self.now.engine c.changed.new.self c.args.self.now.context.now c.diagram.result.now c.names-features.result.now c.args.lifters c.args.request.now c.in_ok-said.said _ c.args.out.now.items c.changed.new.out.items
    c.diagram.ensures c.names-features.ensures.names c.in_ok-said.ensures c.in-Changed.is c.changed.ensures.answer (λ (label : ℕ). IsErrOf c.changed.result Stray → IsAstray c.args.self.now.engine.client label c.changed.new.self.client) c.changed.ensures.strayed in
    record { answer = p.0; scene = p.1; strayed = p.2 }

pub returns : goal.returns
returns g c =
    let p = answered c.look.result c.args.self.now.engine c.look.new.self c.args.self.now.context.now c.diagram.result.now c.names-features.result.now c.args.lifters c.args.request.now c.in_ok-said.said _ c.args.out.now.items c.look.new.out.items
    c.diagram.ensures c.names-features.ensures.names c.in_ok-said.ensures c.in-Look.is c.look.ensures.answer (λ (label : ℕ). IsErrOf c.look.result Stray → IsAstray c.args.self.now.engine.client label c.look.new.self.client) c.look.ensures.strayed in
    record { answer = p.0; scene = p.1; strayed = p.2 }
