-- The game that is built is a model of the formulas of its roots, and decides them.
use Rattle.std.proofs.Common.{◌≡◌, refl, ℕ, zero, suc, ◌<◌, Bool, List, [], ◌∷◌, length, get_or, map, ◌∙◌, ap, ap₂, arith}
use Rattle.std.specs.List.{AllZip}
use Rattle.vpg_sides.specs.declared.player.Player.TheVariants.{Even}
use Rattle.vpg_requirement.specs.NormalForms.{NormalForm}
use Rattle.vpg_requirement.specs.Situations.{Binder, Situation, situation, situation_at}
use Rattle.vpg_guards.specs.Formula.{Formula as Guard}
use Rattle.vpg_diagram.specs.FeatureDiagram.{IsProduct}
use Rattle.vpg_game.specs.Guarded.{GuardedEdge, GuardedGame}
use Rattle.vpg_requirement.specs.Systems.{System}
use Rattle.vpg_requirement.specs.Formulas.{Formula}
use Rattle.vpg_requirement.specs.Priorities.{normal_form}
use Rattle.vpg_requirement.specs.Building.{IsBuiltOf, IsRowOf, IsAlike, IsAlikeGame}
use Rattle.vpg_requirement.proofs.Decided.{formula_decides}
use Rattle.vpg_parts.specs.declared.part.Part.{Part}
use Rattle.vpg_model.specs.Departures.{Departure}
use Rattle.vpg_model.specs.Forms.{situation_in}
use Rattle.vpg_parts.specs.Preorder.{form_of, scope_of, binder_at}
use Rattle.vpg_model.specs.Laws.{IsGameOf, IsGameOfParts, AreOfSystem, IsRootOf, GameOfPartsIsModel, GameOfPartsDecides}
use Rattle.vpg_model.proofs.Preorder.{chained_parts_stand}

zip_at : (R : ℕ → ℕ → Type 0) (xs ys : List ℕ) (n : ℕ) → n < length xs → AllZip R xs ys → R (get_or xs n 0) (get_or ys n 0)
zip_at R [] ys n l h = absurd (omega arith)
zip_at R (x ∷ xs) [] n l h = absurd h
zip_at R (x ∷ xs) (y ∷ ys) zero l h = h.0
zip_at R (x ∷ xs) (y ∷ ys) (suc n) l h = zip_at R xs ys n (omega arith) h.1

-- rows are as many as pairs
as_many : {A B : Type 0} (R : A → B → Type 0) (xs : List A) (ys : List B) → AllZip R xs ys → length ys ≡ length xs
as_many R [] [] h = refl
as_many R [] (y ∷ ys) h = absurd h
as_many R (x ∷ xs) [] h = absurd h
as_many R (x ∷ xs) (y ∷ ys) h = ap suc (as_many R xs ys h.1)

-- ---- guards as they are

alike_edges : (Counts : List Bool → Type 0) (edges : List (GuardedEdge Guard)) → AllZip (IsAlike Counts) edges edges
alike_edges Counts [] = tt
alike_edges Counts (edge ∷ edges) = (record { to = refl; guard = λ set counts. refl }, alike_edges Counts edges)

alike : (Counts : List Bool → Type 0) (game : GuardedGame Guard) → IsAlikeGame Counts game game
alike Counts [] = tt
alike Counts (vertex ∷ game) = (record { owner = refl; priority = refl; edges = alike_edges Counts vertex.edges }, alike Counts game)

-- ---- the model

-- at the vertex of a root stands the situation of its formula
pub record IsAtRoot (system : System Guard) (places : List Situation) (game : GuardedGame Guard) (formula : Formula) (s v : ℕ) : Type 0 where
  pub built : IsBuiltOf Even 0 system places game
  pub vertex : v < length game
  pub root : situation_at places v ≡ situation s (normal_form formula) []

at_root : (states : List (List Departure)) (sets : List (List Bool)) (parts : List Part) (first : ℕ) (roots : List ℕ) (pairs : List (ℕ × ℕ)) (vertices : List ℕ) (game : GuardedGame Guard) →
    IsGameOfParts states sets parts first roots pairs vertices game → (labels : ℕ) (system : System Guard) → AreOfSystem labels system states first → (n : ℕ) (formula : Formula) → (r : IsRootOf labels sets parts roots n formula) →
    IsAtRoot system (map (situation_in (form_of parts r.actions r.chain) (scope_of parts r.actions r.chain)) pairs) game formula first (get_or vertices n 0)
at_root states sets parts first roots pairs vertices game h labels system given n formula r = record {
  built = known.built;
  vertex = omega (arith, root.0, as_many (IsRowOf Even 0 system places) places game known.built);
  root = root.1 ∙ ap₂ {C = Situation} (λ (f : NormalForm) (c : List ℕ). situation first f (map (binder_at parts r.actions r.chain) c)) r.form r.outermost;
}
  where
    forms : ℕ → NormalForm
    forms = form_of parts r.actions r.chain

    scopes : ℕ → List Binder
    scopes = scope_of parts r.actions r.chain

    places : List Situation
    places = map (situation_in forms scopes) pairs

    known : IsGameOf system first roots forms scopes pairs vertices game
    known = h labels system forms scopes given.departures given.labelled (chained_parts_stand labels sets parts r.actions r.chain r.constants r.chained r.permitted)

    root : (get_or vertices n 0 < length places) × (situation_at places (get_or vertices n 0) ≡ situation first (forms (get_or roots n 0)) (scopes (get_or roots n 0)))
    root = zip_at (λ k v. (v < length places) × (situation_at places v ≡ situation first (forms k) (scopes k))) roots vertices n r.some known.rooted

pub game_of_parts_is_model : GameOfPartsIsModel
game_of_parts_is_model states sets parts first roots pairs vertices game h labels system given n formula r lines =
    let a = at_root states sets parts first roots pairs vertices game h labels system given n formula r in record {
      closed = given.closed;
      state = given.state;
      positive = r.positive;
      places = map (situation_in (form_of parts r.actions r.chain) (scope_of parts r.actions r.chain)) pairs;
      built = game;
      is_built = a.built;
      alike = alike (IsProduct lines) game;
      vertex = a.vertex;
      root = a.root;
    }

pub game_of_parts_decides : GameOfPartsDecides
game_of_parts_decides states sets parts first roots pairs vertices game h labels system given n formula r set =
    let a = at_root states sets parts first roots pairs vertices game h labels system given n formula r in
    formula_decides system formula (map (situation_in (form_of parts r.actions r.chain) (scope_of parts r.actions r.chain)) pairs) game given.closed r.positive a.built first (get_or vertices n 0) given.state a.vertex a.root set
