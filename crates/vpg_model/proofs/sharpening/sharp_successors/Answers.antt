use Rattle.std.proofs.Common.{subst}
use Rattle.vpg_guards.specs.Formula.{Formula as Guard}
use Rattle.vpg_game.specs.Edges.{GuardedEdge}
use Rattle.vpg_model.specs.Sharpening.{IsSharpSuccessor}
use Rattle.vpg_model.proofs.SharpGames.{zip_more}
use Rattle.vpg_model.proofs.sharpening.sharp_successors.Goals as goal

pub loop-edge-preserved : goal.loop-edge-preserved
loop-edge-preserved c =
    let l = c.loop-edge in
    let made = c.in_ok-sharp_successor.field-0 in
    zip_more (IsSharpSuccessor c.args.features) c.args.edges.now l.successors.items c.push.new.self.items l.edge-index c.edge-item.result made c.loop-edge-test.true l.invariant
    (subst (λ (e : GuardedEdge Guard). IsSharpSuccessor c.args.features e made) c.edge-item.is c.in_ok-sharp_successor.ensures) c.in_ok-push.ensures.items
