-- An arena in the making: the vertices before one are as selected, and the others as they were.
use Rattle.std.proofs.Common.{◌≡◌, ℕ, ◌+◌, ◌<◌, ◌≤◌, Bool, List, ◌++◌, length, get_or, set, drop, All, length-append, refl, sym, ap, subst, ◌∙◌, arith}
use Rattle.std.proofs.lemmas.List.{length-set, length-map}
use Rattle.std.proofs.lemmas.List.Elements.{All-set}
use Rattle.vpg_guards.specs.Formula.{Formula}
use Rattle.vpg_game.specs.Guarded.{GuardedEdge, GuardedGame}
use Rattle.vpg_game.specs.Game.{NamedGame, IsGame, graph_of, vertex_in, edges_in}
use Rattle.vpg_game.proofs.Graphs.{same_count, graph_at}
use Rattle.vpg_sides.specs.declared.player.Player.{Player}
use Rattle.vpg_hope.specs.declared.arena.Row.{Row}
use Rattle.vpg_hope.specs.declared.selection.Selection.{Selection}
use Rattle.vpg_hope.specs.Games.{Vertex, isolated}
use Rattle.vpg_hope.specs.Arena.{InLists, AreRows, row_vertex, row_vertices}
use Rattle.vpg_hope.specs.Drafts.{IsHeldDraft, IsSelectedDraft}
use Rattle.vpg_hope.specs.Kept.{kept_under, owner_under, priority_under}
use Rattle.vpg_hope.specs.Selection.{vertex_under, IsHeldUnmarked}
use Rattle.vpg_hope.proofs.Rows.{own_row, ranges_in_own}
use Rattle.vpg_hope.proofs.Selected.{AreUpTo, few_more, few_next, kept_closed, vertex_replaced, vertex_left, vertices_selected}

-- rows and an own list, over the list that the arena shares
pub record IsDraft (selection : Selection) (game : NamedGame) (olds : List Vertex) (shared : List ℕ) (v : ℕ) (rows : List Row) (own : List ℕ) : Type 0 where
  pub count : length rows ≡ length (graph_of game)
  pub made : AreUpTo selection (graph_of game) olds v (row_vertices rows shared own)
  pub ranges : All (InLists shared own) rows
  pub closed : All (λ w. w < length (graph_of game)) own
  pub few : length own + edges_in (drop v game.vertices) ≤ 262144 + edges_in game.vertices

module _ (selection : Selection) (game : NamedGame) (olds : List Vertex) (shared : List ℕ) (v : ℕ) (same : length olds ≡ length (graph_of game)) (less : v < length game.vertices) where
  in_graph : v < length (graph_of game)
  in_graph = omega (arith, same_count game)

  -- a row in place of that of the next vertex
  pub draft_replaced : (rows : List Row) (own : List ℕ) → IsGame game → IsDraft selection game olds shared v rows own → (row : Row) (new : List ℕ) →
      new ≡ own ++ kept_under selection (vertex_in (graph_of game) v).owner (vertex_in (graph_of game) v).edges →
      row ≡ own_row (owner_under selection (vertex_in (graph_of game) v).owner) (priority_under selection (vertex_in (graph_of game) v).priority) (length own) (length new) →
      IsDraft selection game olds shared (v + 1) (set rows v row) new
  draft_replaced rows own is_game draft row new new_is row_is =
      subst (λ (os : List ℕ). IsDraft selection game olds shared (v + 1) (set rows v row) os) (sym new_is)
      (subst (λ (r : Row). IsDraft selection game olds shared (v + 1) (set rows v r) (own ++ more)) (sym (row_is ∙ ap (λ (os : List ℕ). own_row owner priority (length own) (length os)) new_is)) made)
    where
      owner : Player
      owner = owner_under selection (vertex_in (graph_of game) v).owner

      priority : ℕ
      priority = priority_under selection (vertex_in (graph_of game) v).priority

      more : List ℕ
      more = kept_under selection (vertex_in (graph_of game) v).owner (vertex_in (graph_of game) v).edges

      made : IsDraft selection game olds shared (v + 1) (set rows v (own_row owner priority (length own) (length (own ++ more)))) (own ++ more)
      made = record {
        count = length-set rows v _ ∙ draft.count;
        made = vertex_replaced selection (graph_of game) olds rows shared own more v same in_graph draft.ranges refl draft.made;
        ranges = All-set (InLists shared (own ++ more)) rows v (own_row owner priority (length own) (length (own ++ more))) (omega (arith, length-append own more), omega arith) (ranges_in_own rows shared own more draft.ranges);
        closed = kept_closed selection (vertex_in (graph_of game) v).owner game own v is_game less draft.closed;
        few = few_more selection (vertex_in (graph_of game) v).owner game.vertices own more v less
            (ap (λ (es : List (GuardedEdge Formula)). kept_under selection (vertex_in (graph_of game) v).owner es) (ap (λ x. x.edges) (graph_at game.vertices v))) draft.few;
      }

  -- the next vertex is as selected already
  pub draft_left : (rows : List Row) (own : List ℕ) → IsDraft selection game olds shared v rows own → get_or olds v isolated ≡ vertex_under selection (vertex_in (graph_of game) v) →
      IsDraft selection game olds shared (v + 1) rows own
  draft_left rows own draft held = record {
    count = draft.count;
    made = vertex_left selection (graph_of game) olds (row_vertices rows shared own) v same in_graph held draft.made;
    ranges = draft.ranges;
    closed = draft.closed;
    few = few_next game.vertices own v less draft.few;
  }

-- ---- the first and the last

module _ (selection : Selection) (game : NamedGame) (rows : List Row) (shared own : List ℕ) where
  -- how many vertices there are
  pub vertices_count : {marks : List Bool} → IsHeldDraft selection marks (graph_of game) rows shared own → length (row_vertices rows shared own) ≡ length (graph_of game)
  vertices_count held = length-map rows (row_vertex shared own) ∙ held.count

  pub draft_begun : {marks : List Bool} → IsHeldDraft selection marks (graph_of game) rows shared own → IsDraft selection game (row_vertices rows shared own) shared 0 rows own
  draft_begun held = record {
    count = held.count;
    made = refl;
    ranges = held.lists.ranges;
    closed = subst (λ (n : ℕ). All (λ w. w < n) own) held.count held.lists.own_closed;
    few = omega (arith, held.few);
  }

  pub draft_done : {marks : List Bool} (shared' : List ℕ) (v : ℕ) (rows' : List Row) (own' : List ℕ) → IsHeldDraft selection marks (graph_of game) rows shared own → shared' ≡ shared →
      length (graph_of game) ≤ v → IsDraft selection game (row_vertices rows shared own) shared v rows' own' → IsSelectedDraft selection (graph_of game) rows' shared' own'
  draft_done shared' v rows' own' held same past draft =
      subst (λ (ss : List ℕ). IsSelectedDraft selection (graph_of game) rows' ss own') (sym same) (record {
        lists = record {
          count = omega (arith, held.lists.count, held.count, draft.count);
          few = held.lists.few;
          ranges = draft.ranges;
          closed = subst (λ (n : ℕ). All (λ w. w < n) shared) (held.count ∙ sym draft.count) held.lists.closed;
          own_closed = subst (λ (n : ℕ). All (λ w. w < n) own') (sym draft.count) draft.closed;
        };
        vertices = vertices_selected selection (graph_of game) (row_vertices rows shared own) (row_vertices rows' shared own') v (vertices_count held) past draft.made;
      })

-- a copy of an arena's rows and lists
pub copy_held : (selection : Selection) (marks : List Bool) (graph : GuardedGame Formula) (olds : List Vertex) (rows rows' : List Row) (shared shared' own own' : List ℕ) →
    AreRows rows shared own → row_vertices rows shared own ≡ olds → length olds ≡ length graph → length own ≤ 262144 → IsHeldUnmarked selection marks graph olds →
    rows' ≡ rows → shared' ≡ shared → own' ≡ own → IsHeldDraft selection marks graph rows' shared' own'
copy_held selection marks graph olds rows rows' shared shared' own own' are is same few held same_rows same_shared same_own =
    subst (λ (rs : List Row). IsHeldDraft selection marks graph rs shared' own') (sym same_rows)
    (subst (λ (ss : List ℕ). IsHeldDraft selection marks graph rows ss own') (sym same_shared)
    (subst (λ (os : List ℕ). IsHeldDraft selection marks graph rows shared os) (sym same_own) (record {
      lists = are;
      count = sym (length-map rows (row_vertex shared own)) ∙ ap length is ∙ same;
      few = few;
      held = subst (IsHeldUnmarked selection marks graph) (sym is) held;
    })))
