-- Names stand for variables and entries, and what is well named is positive.
use Rattle.std.proofs.Common.{◌≡◌, ℕ, suc, ◌+◌, ◌<◌, ◌⊎◌, ◌↔◌, inl, inr, Bool, true, false, not, List, [], ◌∷◌, ◌++◌, All, length, get_or, map, bytes_eq, refl, sym, ◌∙◌, ap, arith}
use Rattle.std.specs.List.{list_any}
use Rattle.std.proofs.lemmas.Bool.{cases_Bool}
use Rattle.std.proofs.lemmas.Slice.Eq.{bytes_eq-Decides}
use Rattle.std.proofs.lemmas.List.Elements.{All-cons}
use Rattle.vpg_requirement.specs.Systems.{PlainSystem}
use Rattle.vpg_requirement.specs.Fixpoints.{StateSet, nothing, set_of}
use Rattle.vpg_requirement.specs.Formulas.{Formula, Means, IsPositive}
use Rattle.vpg_requirement.specs.Words as words
use Rattle.vpg_requirement.proofs.Worded.{raised_positive, iff_trans}
use Rattle.vpg_formula.specs.Written.{Prefix, negated, some_path, every_path, always, never, possibly, inevitably, again_and_again, after, Written, constant, named, deadlock_free, can, will, prefixed, conjunction, disjunction, implication, binding}
use Rattle.vpg_formula.specs.Requirements.{Entry}
use Rattle.vpg_meaning.specs.Translation.{entry_formula, formula_named, formula_behind, formula_of, formulas_behind, formulas_in_order, formulas_of}
use Rattle.vpg_meaning.specs.Meaning.{Earlier, SaysNamed, is_same, is_known, sign_behind, IsWellNamed, AreWellNamed, names_behind}
use Rattle.vpg_meaning.specs.Laws.{EntriesStandForFormulas, WellNamedIsPositive}
use Rattle.vpg_meaning.proofs.Substitution.{positive_alone, alone_means}
use Rattle.vpg_meaning.proofs.Modalities.{diamond_positive, box_positive}

-- ---- entries

behind_more : (names : List (List ℕ)) (earlier : List (List ℕ × Formula)) (entries : List Entry) (e : Entry) → formulas_behind names earlier (entries ++ e ∷ []) ≡ (e.name, formula_of names (formulas_behind names earlier entries) [] e.formula) ∷ formulas_behind names earlier entries
behind_more names earlier [] e = refl
behind_more names earlier (d ∷ entries) e = behind_more names ((d.name, formula_of names earlier [] d.formula) ∷ earlier) entries e

found_first : (x : List ℕ) (f : Formula) (entries : List (List ℕ × Formula)) → entry_formula ((x, f) ∷ entries) x ≡ f
found_first x f entries = rw ((bytes_eq-Decides x x).1 refl) refl

pub entries_stand_for_formulas : EntriesStandForFormulas
entries_stand_for_formulas names entries e = ap (λ (fs : List (List ℕ × Formula)). entry_formula fs e.name) (behind_more names [] entries e) ∙ found_first e.name _ (formulas_of names entries)

-- ---- signs

same_signs : (a b : Bool) → is_same a b ≡ true → a ≡ b
same_signs true b e = sym e
same_signs false true e = e
same_signs false false e = refl

abbrev pub names_in : List (List ℕ × Bool) → List (List ℕ)
names_in scope = map (λ (p : List ℕ × Bool). p.0) scope

abbrev pub signs_in : List (List ℕ × Bool) → List Bool
signs_in scope = map (λ (p : List ℕ × Bool). p.1) scope

-- the formulas of entries of these names are positive
abbrev pub ArePositive : List (List ℕ × Formula) → List (List ℕ) → Type 0
ArePositive fs known = (x : List ℕ) → list_any (bytes_eq x) known ≡ true → IsPositive [] false (entry_formula fs x)

module _ (names : List (List ℕ)) (fs : List (List ℕ × Formula)) (known : List (List ℕ)) (positive : ArePositive fs known) where
  named_positive : (scope : List (List ℕ × Bool)) (i : ℕ) (signs : List Bool) (sign : Bool) (x : List ℕ) → i + length scope ≡ length signs → ((j : ℕ) → j < length scope → get_or signs (i + j) false ≡ get_or (signs_in scope) j false) →
      is_known known scope sign x ≡ true → IsPositive signs sign (formula_named fs (names_in scope) i x)
  named_positive [] i signs sign x n h k = positive_alone (entry_formula fs x) sign signs (positive x k)
  named_positive (p ∷ scope) i signs sign x n h k = decide (cases_Bool (bytes_eq x p.0))
      (named_positive scope (suc i) signs sign x (omega (arith, n)) (λ j l. ap (λ m. get_or signs m false) (omega arith) ∙ h (suc j) (omega arith)))
    where
      decide : (bytes_eq x p.0 ≡ true) ⊎ (bytes_eq x p.0 ≡ false) → (is_known known scope sign x ≡ true → IsPositive signs sign (formula_named fs (names_in scope) (suc i) x)) → IsPositive signs sign (formula_named fs (names_in (p ∷ scope)) i x)
      decide (inl e) rest = rw e (omega (arith, n), ap (λ m. get_or signs m false) (omega arith) ∙ h 0 (omega arith) ∙ same_signs p.1 sign (rw e at k))
      decide (inr e) rest = rw e (rest (rw e at k))

  behind_positive : (prefix : Prefix) (f : Formula) (sign : Bool) (signs : List Bool) → IsPositive signs (sign_behind prefix sign) f → IsPositive signs sign (formula_behind names prefix f)
  behind_positive negated f sign signs p = p
  behind_positive (some_path x) f sign signs p = diamond_positive names x f sign signs p
  behind_positive (every_path x) f sign signs p = box_positive names x f sign signs p
  behind_positive always f sign signs p = (raised_positive f sign sign 0 signs (omega arith) p, (omega arith, refl))
  behind_positive never f sign signs p = (raised_positive f (not sign) sign 0 signs (omega arith) p, (omega arith, refl))
  behind_positive possibly f sign signs p = (raised_positive f sign sign 0 signs (omega arith) p, (omega arith, refl))
  behind_positive inevitably f sign signs p = (raised_positive f sign sign 0 signs (omega arith) p, (tt, (omega arith, refl)))
  behind_positive again_and_again f sign signs p = (raised_positive (words.inevitably f) sign sign 0 signs (omega arith) (raised_positive f sign sign 0 signs (omega arith) p, (tt, (omega arith, refl))), (omega arith, refl))
  behind_positive (after x) f sign signs p = (raised_positive f sign sign 0 signs (omega arith) p, (omega arith, refl))

  pub well_named_positive : (f : Written) (sign : Bool) (scope : List (List ℕ × Bool)) → IsWellNamed known scope sign f → IsPositive (signs_in scope) sign (formula_of names fs (names_in scope) f)
  well_named_positive (constant true) sign scope w = tt
  well_named_positive (constant false) sign scope w = tt
  well_named_positive (named x) sign scope w = named_positive scope 0 (signs_in scope) sign x (length_same scope) (λ j l. ap (λ m. get_or (signs_in scope) m false) (omega arith)) w
    where
      length_same : (scope : List (List ℕ × Bool)) → 0 + length scope ≡ length (signs_in scope)
      length_same [] = refl
      length_same (p ∷ scope) = next (length_same scope)
        where
          next : 0 + length scope ≡ length (signs_in scope) → 0 + suc (length scope) ≡ suc (length (signs_in scope))
          next h = omega (arith, h)
  well_named_positive deadlock_free sign scope w = (tt, (omega arith, refl))
  well_named_positive (can x) sign scope w = tt
  well_named_positive (will x) sign scope w = (tt, (omega arith, refl))
  well_named_positive (prefixed prefix f) sign scope w = behind_positive prefix _ sign (signs_in scope) (well_named_positive f (sign_behind prefix sign) scope w)
  well_named_positive (conjunction f g) sign scope w = (well_named_positive f sign scope w.0, well_named_positive g sign scope w.1)
  well_named_positive (disjunction f g) sign scope w = (well_named_positive f sign scope w.0, well_named_positive g sign scope w.1)
  well_named_positive (implication f g) sign scope w = (well_named_positive f (not sign) scope w.0, well_named_positive g sign scope w.1)
  well_named_positive (binding kind x f) sign scope w = well_named_positive f sign ((x, sign) ∷ scope) w

-- ---- entries behind one another

pub more_positive : (names : List (List ℕ)) (fs : List (List ℕ × Formula)) (known : List (List ℕ)) → ArePositive fs known → (e : Entry) → IsWellNamed known [] false e.formula → ArePositive ((e.name, formula_of names fs [] e.formula) ∷ fs) (e.name ∷ known)
more_positive names fs known positive e w x k = decide (cases_Bool (bytes_eq x e.name))
  where
    decide : (bytes_eq x e.name ≡ true) ⊎ (bytes_eq x e.name ≡ false) → IsPositive [] false (entry_formula ((e.name, formula_of names fs [] e.formula) ∷ fs) x)
    decide (inl h) = rw h (well_named_positive names fs known positive e.formula false [] w)
    decide (inr h) = rw h (positive x (rw h at k))

pub entries_positive : (names : List (List ℕ)) (entries : List Entry) (fs : List (List ℕ × Formula)) (known : List (List ℕ)) → ArePositive fs known → AreWellNamed known entries → ArePositive (formulas_behind names fs entries) (names_behind known entries)
entries_positive names [] fs known positive w = positive
entries_positive names (e ∷ entries) fs known positive w = entries_positive names entries _ (e.name ∷ known) (more_positive names fs known positive e w.0) w.1

pub ordered_positive : (names : List (List ℕ)) (entries : List Entry) (fs : List (List ℕ × Formula)) (known : List (List ℕ)) → ArePositive fs known → AreWellNamed known entries → All (IsPositive [] false) (formulas_in_order names fs entries)
ordered_positive names [] fs known positive w = λ k d l. absurd (omega arith)
ordered_positive names (e ∷ entries) fs known positive w =
    All-cons (IsPositive [] false) _ _ (well_named_positive names fs known positive e.formula false [] w.0) (ordered_positive names entries _ (e.name ∷ known) (more_positive names fs known positive e w.0) w.1)

pub none_positive : ArePositive [] []
none_positive x k = absurd (clash k)
  where
    clash : false ≡ true → ⊥
    clash e = cc

pub all_positive : (names : List (List ℕ)) (entries : List Entry) → AreWellNamed [] entries → ArePositive (formulas_of names entries) (names_behind [] entries)
all_positive names entries w = entries_positive names entries [] [] none_positive w

pub well_named_is_positive : WellNamedIsPositive
well_named_is_positive names entries f es w = well_named_positive names (formulas_of names entries) (names_behind [] entries) (all_positive names entries es) f false [] w

-- ---- what a name says

-- the names of fixpoints with their sets; where there are fewer sets, with none
abbrev pub with_sets : List (List ℕ × Bool) → List StateSet → List (List ℕ × StateSet)
with_sets [] sets = []
with_sets (p ∷ scope) [] = (p.0, nothing) ∷ with_sets scope []
with_sets (p ∷ scope) (set ∷ sets) = (p.0, set) ∷ with_sets scope sets

-- the formulas of entries of these names hold where their names do
abbrev pub AreSaid : PlainSystem → List (List ℕ × Formula) → List (List ℕ) → Earlier → Type 0
AreSaid system fs known earlier = (x : List ℕ) → list_any (bytes_eq x) known ≡ true → (s : ℕ) → s < system.states → Means system [] (entry_formula fs x) s ↔ earlier x s

module _ (system : PlainSystem) (fs : List (List ℕ × Formula)) (known : List (List ℕ)) (earlier : Earlier) (positive : ArePositive fs known) (said : AreSaid system fs known earlier) where
  same_set : (A B : StateSet) (s : ℕ) → A ≡ B → (A s ≡ true) ↔ (B s ≡ true)
  same_set A B s e = (λ h. sym (ap (λ (S : StateSet). S s) e) ∙ h, λ h. ap (λ (S : StateSet). S s) e ∙ h)

  pub named_means : (scope : List (List ℕ × Bool)) (i : ℕ) (sets inner : List StateSet) (sign : Bool) (x : List ℕ) → ((j : ℕ) → set_of sets (i + j) ≡ set_of inner j) → is_known known scope sign x ≡ true → (s : ℕ) → s < system.states →
      Means system sets (formula_named fs (names_in scope) i x) s ↔ SaysNamed earlier (with_sets scope inner) x s
  named_means [] i sets inner sign x h k s l = iff_trans (alone_means system sets false (entry_formula fs x) (positive x k) s) (said x k s l)
  named_means (p ∷ scope) i sets [] sign x h k s l = decide (cases_Bool (bytes_eq x p.0))
      (λ k. named_means scope (suc i) sets [] sign x (λ j. ap (λ m. set_of sets m) (omega arith) ∙ h (suc j)) k s l)
    where
      decide : (bytes_eq x p.0 ≡ true) ⊎ (bytes_eq x p.0 ≡ false) → (is_known known scope sign x ≡ true → Means system sets (formula_named fs (names_in scope) (suc i) x) s ↔ SaysNamed earlier (with_sets scope []) x s) →
          Means system sets (formula_named fs (names_in (p ∷ scope)) i x) s ↔ SaysNamed earlier (with_sets (p ∷ scope) []) x s
      decide (inl e) rest = rw e (same_set (set_of sets i) nothing s (ap (λ m. set_of sets m) (omega arith) ∙ h 0))
      decide (inr e) rest = rw e (rest (rw e at k))
  named_means (p ∷ scope) i sets (set ∷ inner) sign x h k s l = decide (cases_Bool (bytes_eq x p.0))
      (λ k. named_means scope (suc i) sets inner sign x (λ j. ap (λ m. set_of sets m) (omega arith) ∙ h (suc j)) k s l)
    where
      decide : (bytes_eq x p.0 ≡ true) ⊎ (bytes_eq x p.0 ≡ false) → (is_known known scope sign x ≡ true → Means system sets (formula_named fs (names_in scope) (suc i) x) s ↔ SaysNamed earlier (with_sets scope inner) x s) →
          Means system sets (formula_named fs (names_in (p ∷ scope)) i x) s ↔ SaysNamed earlier (with_sets (p ∷ scope) (set ∷ inner)) x s
      decide (inl e) rest = rw e (same_set (set_of sets i) set s (ap (λ m. set_of sets m) (omega arith) ∙ h 0))
      decide (inr e) rest = rw e (rest (rw e at k))
