-- The rules of a diagram, and those that a worklist still has to visit.
use Rattle.std.specs.Prelude.{ℕ, ◌+◌, ◌-◌, ◌<◌, ◌≤◌, ◌≡◌, ◌⊎◌, Bool, false, List, ◌∷◌, [], length, map, Some, slice_get, slice_index_or, Contains, IsTrue}
use Rattle.vpg_diagram.specs.declared.clause.Literal.{Literal}
use Rattle.vpg_diagram.specs.Tally.{Tally}
pub use Rattle.vpg_diagram.specs.Rules.{Rule, AtClause, AtCount, HasNumber, features_of, IsIndex}
use Rattle.vpg_guards.specs.declared.tri.Tri.{Tri}
use Rattle.vpg_partial.specs.Known.{IsClosed, IsClosedAtClause, IsClosedAtCount}
use Rattle.vpg_partial.specs.KnownTable.{literals_in}
use Rattle.vpg_partial.specs.Propagation.{Includes, Grows, unknown_count}

abbrev pub IsClosedAt : (Literal → Bool) → Rule → Type 0
IsClosedAt set (AtClause clause) = IsClosedAtClause set clause
IsClosedAt set (AtCount count) = IsClosedAtCount set count

-- a literal that the table lacks; each closed set with the table's literals has it
pub record IsMissing (clauses : List (List Literal)) (counts : List Tally) (known : List Tri)
    (l : Literal) : Type 0 where
  pub below : l.feature < length known
  pub absent : literals_in known l ≡ false
  pub follows : (set : Literal → Bool) → IsClosed clauses counts set → Includes set (literals_in known) → IsTrue (set l)

-- some feature of the rule waits
abbrev pub Awaits : List ℕ → Rule → Type 0
Awaits waiting rule = (f : ℕ) × Contains waiting f × Contains (features_of rule) f

-- the rule adds nothing, unless a waiting feature leads to it
abbrev pub IsDone : List Tri → List ℕ → Rule → Type 0
IsDone known waiting rule = IsClosedAt (literals_in known) rule ⊎ Awaits waiting rule

abbrev pub IsDoneAt : List (List Literal) → List Tally → List Tri → List ℕ → ℕ → Type 0
IsDoneAt clauses counts known waiting number =
    (rule : Rule) → HasNumber clauses counts number rule → IsDone known waiting rule

abbrev pub AreDone : List (List Literal) → List Tally → List Tri → List ℕ → Type 0
AreDone clauses counts known waiting = (number : ℕ) → IsDoneAt clauses counts known waiting number

-- From one state of a worklist to a later one: each addition follows, finished rules stay finished, and no work is
-- made.
pub record Advances (clauses : List (List Literal)) (counts : List Tally) (known : List Tri) (waiting : List ℕ)
    (more : List Tri) (later : List ℕ) : Type 0 where
  pub grows : Grows (IsClosed clauses counts) known more
  pub stays : (rule : Rule) → IsDone known waiting rule → IsDone more later rule
  pub work : unknown_count more + length later ≤ unknown_count known + length waiting
