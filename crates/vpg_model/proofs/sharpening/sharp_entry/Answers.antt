use Rattle.std.proofs.Common.{ℕ, List, get_or, subst}
use Rattle.vpg_guards.specs.Formula.{Formula as Guard}
use Rattle.vpg_game.specs.Edges.{GuardedEdge}
use Rattle.vpg_game.specs.Game.{no_vertex}
use Rattle.vpg_model.specs.Sharpening.{AreSharpSuccessors}
use Rattle.vpg_model.proofs.SharpGames.{readable_at, id_at}
use Rattle.vpg_model.proofs.sharpening.sharp_entry.Goals as goal

pub sharp_successors-requires : goal.sharp_successors-requires
sharp_successors-requires c =
    readable_at c.args.game.now c.args.v c.features.result c.edges.result.now c.vertices-count.ensures.game c.requires c.edges.ensures.value c.features.ensures

pub returns : goal.returns
returns c =
    let made = c.in_ok-successors.successors.items in
    let edges : List (GuardedEdge Guard) = (get_or c.args.game.now.vertices c.args.v no_vertex).edges in record {
      id = id_at c.args.game.now.vertices c.args.v c.id.result c.requires c.id.ensures;
      priority = c.priority.ensures.value;
      owner = c.owner.ensures.value;
      successors = subst (λ (n : ℕ). AreSharpSuccessors n edges made) c.features.ensures
          (subst (λ (es : List (GuardedEdge Guard)). AreSharpSuccessors c.features.result es made) c.edges.ensures.value c.in_ok-successors.ensures);
    }
