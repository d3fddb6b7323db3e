-- The small family is a setting, and a model.
use Rattle.std.proofs.Common.{◌≡◌, ℕ, ◌<◌, ltb, Bool, List, true, false, [], ◌∷◌, refl, All, arith}
use Rattle.std.specs.List.{AllZip, AllByRecursion}
use Rattle.std.proofs.lemmas.Bool.{ltb-true}
use Rattle.std.proofs.lemmas.List.Elements.{All-cons, All-nil}
use Rattle.vpg_guards.specs.Formula.{Formula as Guard, IsBelow}
use Rattle.vpg_diagram.specs.FeatureDiagram.{Line, Optional, IsDiagram, MeetsLines, IsProduct}
use Rattle.vpg_diagram.specs.Clauses.{clauses_of, counts_of}
use Rattle.vpg_diagram.proofs.FormulaLemmas.{formula_from_lines}
use Rattle.vpg_partial.proofs.KnownLemmas.{no_set_with_conflict}
use Rattle.vpg_game.specs.Guarded.{GuardedEdge, GuardedGame}
use Rattle.vpg_requirement.specs.Building.{IsAlike, IsAlikeGame}
use Rattle.vpg_requirement.specs.Example.{small_places, small_game}
use Rattle.vpg_requirement.proofs.Example.{small_built, small_closed, small_positive}
use Rattle.vpg_promises.specs.Example.{SmallIsModel}

abbrev lines : List Line
lines = Optional 0 1 ∷ []

is_diagram : IsDiagram lines
is_diagram = ((omega arith, refl), tt)

meets : MeetsLines lines (true ∷ false ∷ [])
meets = record { length_is = refl; root = refl; each = ((λ h. refl), tt) }

-- ---- a game is alike itself

alike_edges : (Counts : List Bool → Type 0) (edges : List (GuardedEdge Guard)) → AllZip (IsAlike Counts) edges edges
alike_edges Counts [] = tt
alike_edges Counts (edge ∷ edges) = (record { to = refl; guard = λ set c. refl }, alike_edges Counts edges)

alike_self : (Counts : List Bool → Type 0) (game : GuardedGame Guard) → IsAlikeGame Counts game game
alike_self Counts [] = tt
alike_self Counts (vertex ∷ game) = (record { owner = refl; priority = refl; edges = alike_edges Counts vertex.edges }, alike_self Counts game)

-- ---- the setting

all_of : {X : Type 0} (P : X → Type 0) (xs : List X) → AllByRecursion P xs → All P xs
all_of P [] h = All-nil P
all_of P (x ∷ xs) h = All-cons P x xs h.0 (all_of P xs h.1)

abbrev IsInside : GuardedEdge Guard → Type 0
IsInside edge = edge.to < 9

abbrev IsNamed : GuardedEdge Guard → Type 0
IsNamed edge = IsBelow 2 edge.guard

every_vertex : (P : GuardedEdge Guard → Type 0) (game : GuardedGame Guard) → AllByRecursion (λ vertex. AllByRecursion P vertex.edges) game →
    All (λ vertex. All P vertex.edges) game
every_vertex P [] h = All-nil (λ vertex. All P vertex.edges)
every_vertex P (vertex ∷ game) h = All-cons (λ vertex. All P vertex.edges) vertex game (all_of P vertex.edges h.0) (every_vertex P game h.1)

one : 1 < 2
one = omega arith

below : (n : ℕ) → ltb n 9 ≡ true → n < 9
below n e = ltb-true n 9 e

pub small_is_model : SmallIsModel
small_is_model = record {
  setting = record {
    closed = every_vertex IsInside small_game ((below 1 refl, tt), ((below 2 refl, (below 3 refl, tt)), (tt, ((below 4 refl, tt), ((below 5 refl, tt), ((below 6 refl, (below 7 refl, tt)), ((below 8 refl, tt), ((below 0 refl, tt), (tt, tt)))))))));
    named = every_vertex IsNamed small_game ((tt, tt), ((tt, (tt, tt)), (tt, ((one, tt), ((tt, tt), ((tt, (tt, tt)), ((tt, tt), ((tt, tt), (tt, tt)))))))));
    diagram = is_diagram;
    opens = λ c. no_set_with_conflict (clauses_of lines) (counts_of lines) [] (true ∷ false ∷ []) (formula_from_lines lines (true ∷ false ∷ []) meets) tt c;
  };
  model = record {
    closed = small_closed;
    state = omega arith;
    positive = small_positive;
    places = small_places;
    built = small_game;
    is_built = small_built;
    alike = alike_self (IsProduct lines) small_game;
    vertex = omega arith;
    root = refl;
  };
}
