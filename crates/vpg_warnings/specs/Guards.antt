-- The guards of a system that no product meets, as far as propagation shows it. This project's own.
use Rattle.std.specs.Prelude.{◌≡◌, ◌≢◌, ◌≤◌, ◌<◌, ◌⊎◌, ℕ, Bool, true, false, List, [], ◌∷◌, ◌++◌, length, Contains, slice_index_or}
use Rattle.vpg_guards.specs.declared.tri.Tri.{Tri}
use Rattle.vpg_guards.specs.declared.tri.Tri.TheVariants.{No}
use Rattle.vpg_guards.specs.Formula.{Formula, truth, named}
use Rattle.vpg_guards.specs.Known.{kleene}
use Rattle.vpg_diagram.specs.declared.clause.Literal.{Literal}
use Rattle.vpg_diagram.specs.FeatureDiagram.{Line, IsProduct}
use Rattle.vpg_diagram.specs.Clauses.{clauses_of, counts_of}
use Rattle.vpg_partial.specs.Known.{NamesConflict}
use Rattle.vpg_partial.specs.TableLaws.{IsKnownTable}
use Rattle.vpg_system.specs.SystemText.{Transition}
use Rattle.vpg_system_draw.specs.Arrows.{no_transition}
use Rattle.vpg_warnings.specs.Numbers.{numbers_from}

-- the guard is true in no product of the diagram
abbrev pub IsUnmet : List Line → Formula → Type 0
IsUnmet lines guard = (set : List Bool) → IsProduct lines set → truth set guard ≡ false

-- the features of a guard that are tried: all that it names, or six of them
abbrev pub AreTried : Formula → List ℕ → Type 0
AreTried guard features = (f : ℕ) → Contains (named guard) f → Contains features f ⊎ (6 ≤ length features)

-- a feature that is decided in or out
abbrev pub decided : ℕ → Bool → Literal
decided f value = record { feature = f; value = value }

-- Each of the features can be decided, after these choices, so that propagation finds no contradiction and the guard is
-- not known to be false.
pub data IsOpen (lines : List Line) (guard : Formula) : List ℕ → List Literal → Type 0 where
  left : {choices : List Literal} (known : List Tri) → IsKnownTable lines choices known → kleene known guard ≢ No →
      IsOpen lines guard [] choices
  choose : {f : ℕ} {features : List ℕ} {choices : List Literal} (value : Bool) →
      IsOpen lines guard features (choices ++ decided f value ∷ []) → IsOpen lines guard (f ∷ features) choices

-- No way to decide the features is left. The choices contradict each other, or make the guard known false, or no way is
-- left with the next feature in, and none with it out.
pub data IsRefuted (lines : List Line) (guard : Formula) : List ℕ → List Literal → Type 0 where
  contradicted : {features : List ℕ} {choices : List Literal} (f : ℕ) →
      NamesConflict (clauses_of lines) (counts_of lines) choices f → IsRefuted lines guard features choices
  known_false : {features : List ℕ} {choices : List Literal} (known : List Tri) → IsKnownTable lines choices known →
      kleene known guard ≡ No → IsRefuted lines guard features choices
  both_ways : {f : ℕ} {features : List ℕ} {choices : List Literal} →
      IsRefuted lines guard features (choices ++ decided f true ∷ []) →
      IsRefuted lines guard features (choices ++ decided f false ∷ []) → IsRefuted lines guard (f ∷ features) choices

-- the answer for a guard with features to be decided after choices: no way is left, or one is
abbrev pub IsFound : List Line → Formula → List ℕ → List Literal → Bool → Type 0
IsFound lines guard features choices true = IsRefuted lines guard features choices
IsFound lines guard features choices false = IsOpen lines guard features choices

-- a way to decide the features that are tried is left
pub record IsLeftOpen (lines : List Line) (guard : Formula) : Type 0 where
  pub features : List ℕ
  pub tried : AreTried guard features
  pub is_open : IsOpen lines guard features []

-- the meaning of a mark for a guard: no product meets it, or it is left open
abbrev pub IsJudged : List Line → Formula → Bool → Type 0
IsJudged lines guard true = IsUnmet lines guard
IsJudged lines guard false = IsLeftOpen lines guard

-- the marks of this many transitions, each true of the transition's guard
pub record AreJudged (lines : List Line) (transitions : List Transition) (n : ℕ) (marks : List Bool) : Type 0 where
  pub count : length marks ≡ n
  pub each : (t : ℕ) → t < n →
      IsJudged lines (slice_index_or transitions t no_transition).guard (slice_index_or marks t false)

-- The numbers of the transitions with guards that no product meets, in order. Each other guard is left open.
pub record AreUnmet (lines : List Line) (transitions : List Transition) (found : List ℕ) : Type 0 where
  pub marks : List Bool
  pub judged : AreJudged lines transitions (length transitions) marks
  pub numbers : found ≡ numbers_from 0 marks

-- ---- words for private functions

-- whether a value is `No`
abbrev pub IsNo : Tri → Bool → Type 0
IsNo value true = value ≡ No
IsNo value false = value ≢ No

-- a feature is noted among others, while they are few
pub record IsNoted (features : List ℕ) (f : ℕ) (later : List ℕ) : Type 0 where
  pub kept : (g : ℕ) → Contains features g → Contains later g
  pub noted : Contains later f ⊎ (6 ≤ length later)
  pub longer : length features ≤ length later
  pub only : (g : ℕ) → Contains later g → Contains features g ⊎ (g ≡ f)

-- the features of these that are tried
pub record AreTriedOf (names features : List ℕ) : Type 0 where
  pub each : (f : ℕ) → Contains names f → Contains features f ⊎ (6 ≤ length features)
  pub only : (f : ℕ) → Contains features f → Contains names f
