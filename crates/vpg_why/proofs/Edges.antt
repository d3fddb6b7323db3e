-- An edge of a vertex of a game.
use Rattle.std.proofs.Common.{◌≡◌, ℕ, ◌<◌, List, length, get_or, sym, subst}
use Rattle.std.proofs.lemmas.List.{get_or_default}
use Rattle.vpg_guards.specs.Formula.{Formula, IsBelow}
use Rattle.vpg_game.specs.Guarded.{GuardedEdge}
use Rattle.vpg_game.specs.Game.{NamedGame, IsGame, AreEdges, no_vertex}
use Rattle.vpg_game.proofs.Written.{edge_ok, edges_ok}

pub edge_in : (game : NamedGame) (v : ℕ) (edges : List (GuardedEdge Formula)) (i : ℕ) (e : GuardedEdge Formula) → IsGame game → v < length game.vertices →
    edges ≡ (get_or game.vertices v no_vertex).edges → i < length edges → e ≡ get_or edges i e → (e.to < length game.vertices) × IsBelow game.features e.guard
edge_in game v edges i e is_game l are lt is =
    let found = edge_ok (length game.vertices) game.features edges i e
    (subst (AreEdges (length game.vertices) game.features) (sym are)
    (edges_ok (length game.vertices) game.features game.vertices v (get_or game.vertices v no_vertex) is_game.each l (get_or_default game.vertices v no_vertex (get_or game.vertices v no_vertex) l)))
    lt is in
    (found.0, found.1.below)
