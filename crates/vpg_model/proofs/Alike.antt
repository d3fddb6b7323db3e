-- A game that differs in guards alone is a model of the same formulas, and decides them as well.
use Rattle.std.proofs.Common.{◌≡◌, ℕ, suc, ◌<◌, ◌⊎◌, inl, inr, Bool, true, false, List, [], ◌∷◌, length, map, filter, refl, sym, ◌∙◌, subst, ap, ap₂, arith}
use Rattle.std.specs.List.{AllZip}
use Rattle.std.proofs.lemmas.Bool.{cases_Bool}
use Rattle.vpg_sides.specs.declared.player.Player.{Player}
use Rattle.vpg_guards.specs.Formula.{Formula as Guard, truth}
use Rattle.vpg_diagram.specs.FeatureDiagram.{Line, IsProduct}
use Rattle.vpg_game.specs.Guarded.{GuardedEdge, GuardedGame}
use Rattle.vpg_hope.specs.Games.{Vertex}
use Rattle.vpg_hope.specs.Hope.{product_game}
use Rattle.vpg_requirement.specs.Systems.{System}
use Rattle.vpg_requirement.specs.Formulas.{Formula}
use Rattle.vpg_requirement.specs.Building.{IsAlike, IsAlikeVertex, IsAlikeGame}
use Rattle.vpg_requirement.specs.Laws.{IsDecided}
use Rattle.vpg_model.specs.Laws.{IsModel}
use Rattle.vpg_model.specs.Sharpening.{EachCounts, IsSameGame}

-- ---- the game of a product

module _ (set : List Bool) where
  abbrev kept : List (GuardedEdge Guard) → List ℕ
  kept edges = map (λ edge. edge.to) (filter (λ edge. truth set edge.guard) edges)

  same_kept : (edges others : List (GuardedEdge Guard)) → AllZip (IsAlike EachCounts) edges others → kept others ≡ kept edges
  same_kept [] [] z = refl
  same_kept [] (o ∷ others) z = absurd z
  same_kept (e ∷ edges) [] z = absurd z
  same_kept (e ∷ edges) (o ∷ others) z = decide (cases_Bool (truth set e.guard)) (z.0.guard set tt) (same_kept edges others z.1)
    where
      decide : (truth set e.guard ≡ true) ⊎ (truth set e.guard ≡ false) → truth set o.guard ≡ truth set e.guard → kept others ≡ kept edges → kept (o ∷ others) ≡ kept (e ∷ edges)
      decide (inl t) same rest = rw (same, t) (ap₂ {C = List ℕ} (λ x xs. x ∷ xs) z.0.to rest)
      decide (inr f) same rest = rw (same, f) rest

  same_vertex : {o p : Player} {a b : ℕ} {xs ys : List ℕ} → o ≡ p → a ≡ b → xs ≡ ys → ◌≡◌ {A = Vertex} (record { owner = o; priority = a; successors = xs }) (record { owner = p; priority = b; successors = ys })
  same_vertex h k l = cc

  pub same_product : (game other : GuardedGame Guard) → IsSameGame game other → product_game (truth set) other ≡ product_game (truth set) game
  same_product [] [] z = refl
  same_product [] (o ∷ other) z = absurd z
  same_product (v ∷ game) [] z = absurd z
  same_product (v ∷ game) (o ∷ other) z = ap₂ {C = List Vertex} (λ x xs. x ∷ xs) (same_vertex z.0.owner z.0.priority (same_kept v.edges o.edges z.0.edges)) (same_product game other z.1)

pub still_decided : (P : Type 0) (set : List Bool) (game other : GuardedGame Guard) (v : ℕ) → IsSameGame game other → IsDecided P (product_game (truth set) game) v → IsDecided P (product_game (truth set) other) v
still_decided P set game other v same h = subst (λ g. IsDecided P g v) (sym (same_product set game other same)) h

-- ---- the model

as_long : (game other : GuardedGame Guard) → IsSameGame game other → length other ≡ length game
as_long [] [] z = refl
as_long [] (o ∷ other) z = absurd z
as_long (v ∷ game) [] z = absurd z
as_long (v ∷ game) (o ∷ other) z = ap suc (as_long game other z.1)

module _ (Counts : List Bool → Type 0) where
  edges_alike : (edges others last : List (GuardedEdge Guard)) → AllZip (IsAlike Counts) edges others → AllZip (IsAlike EachCounts) others last → AllZip (IsAlike Counts) edges last
  edges_alike [] [] [] y z = tt
  edges_alike [] [] (l ∷ last) y z = absurd z
  edges_alike [] (o ∷ others) last y z = absurd y
  edges_alike (e ∷ edges) [] last y z = absurd y
  edges_alike (e ∷ edges) (o ∷ others) [] y z = absurd z
  edges_alike (e ∷ edges) (o ∷ others) (l ∷ last) y z = (
    record { to = z.0.to ∙ y.0.to; guard = λ set counts. z.0.guard set tt ∙ y.0.guard set counts },
    edges_alike edges others last y.1 z.1,
  )

  games_alike : (game other last : GuardedGame Guard) → IsAlikeGame Counts game other → IsSameGame other last → IsAlikeGame Counts game last
  games_alike [] [] [] y z = tt
  games_alike [] [] (l ∷ last) y z = absurd z
  games_alike [] (o ∷ other) last y z = absurd y
  games_alike (v ∷ game) [] last y z = absurd y
  games_alike (v ∷ game) (o ∷ other) [] y z = absurd z
  games_alike (v ∷ game) (o ∷ other) (l ∷ last) y z = (
    record { owner = z.0.owner ∙ y.0.owner; priority = z.0.priority ∙ y.0.priority; edges = edges_alike v.edges o.edges l.edges y.0.edges z.0.edges },
    games_alike game other last y.1 z.1,
  )

pub still_model : (lines : List Line) (game other : GuardedGame Guard) (system : System Guard) (formula : Formula) (s v : ℕ) → IsSameGame game other → IsModel lines game system formula s v → IsModel lines other system formula s v
still_model lines game other system formula s v same h = record {
  closed = h.closed;
  state = h.state;
  positive = h.positive;
  places = h.places;
  built = h.built;
  is_built = h.is_built;
  alike = games_alike (IsProduct lines) h.built game other h.alike same;
  vertex = omega (arith, h.vertex, as_long game other same);
  root = h.root;
}
