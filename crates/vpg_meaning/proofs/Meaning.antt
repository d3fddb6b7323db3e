-- The formula of what is written holds where what is written holds.
use Rattle.std.proofs.Common.{◌≡◌, ℕ, zero, suc, ◌<◌, ◌⊎◌, ◌↔◌, inl, inr, Bool, true, false, not, List, [], ◌∷◌, take, get_or, Some, bytes_eq, refl, ap, subst, arith}
use Rattle.std.specs.List.{slice_get}
use Rattle.std.proofs.lemmas.Bool.{cases_Bool}
use Rattle.vpg_requirement.specs.Systems.{PlainSystem, IsClosedSystem}
use Rattle.vpg_requirement.specs.Fixpoints.{StateSet, set_of}
use Rattle.vpg_requirement.specs.Formulas.{Formula, nowhere, Means}
use Rattle.vpg_formula.proofs.Series.{some_is}
use Rattle.vpg_formula.specs.Written.{Written, constant, named, deadlock_free, can, will, prefixed, conjunction, disjunction, implication, binding}
use Rattle.vpg_meaning.specs.Paths.{HasNames}
use Rattle.vpg_formula.specs.Requirements.{Entry}
use Rattle.vpg_meaning.specs.Translation.{kind_of, entry_formula, formula_of, formulas_behind, formulas_in_order, formulas_of}
use Rattle.vpg_meaning.specs.Meaning.{Earlier, Says, with_entry, said_behind, no_entry, sign_behind, IsWellNamed, AreWellNamed, names_behind}
use Rattle.vpg_meaning.specs.Laws.{FormulasMeanWhatIsWritten}
use Rattle.vpg_meaning.proofs.Plain.{iff_and, iff_or, iff_implies, fixpoint_iff}
use Rattle.vpg_meaning.proofs.Modalities.{decision, decided}
use Rattle.vpg_meaning.proofs.Words.{can_law, will_law, deadlock_law, behind_law}
use Rattle.vpg_meaning.proofs.Naming.{names_in, signs_in, ArePositive, AreSaid, well_named_positive, more_positive, none_positive, all_positive, with_sets, named_means}

module _ (names : List (List ℕ)) (system : PlainSystem) (closed : IsClosedSystem system) (has_names : HasNames names system) where
  module _ (fs : List (List ℕ × Formula)) (known : List (List ℕ)) (earlier : Earlier) (positive : ArePositive fs known) (said : AreSaid system fs known earlier) where
    written_means : (f : Written) (sign : Bool) (scope : List (List ℕ × Bool)) (sets : List StateSet) → IsWellNamed known scope sign f → (s : ℕ) → s < system.states → Means system sets (formula_of names fs (names_in scope) f) s ↔ Says names system earlier (with_sets scope sets) f s
    written_means (constant true) sign scope sets w s l = (λ m. refl, λ e. tt)
    written_means (constant false) sign scope sets w s l = (λ m. absurd m, λ e. clash e)
      where
        clash : false ≡ true → ⊥
        clash e = cc
    written_means (named x) sign scope sets w s l = named_means system fs known earlier positive said scope 0 sets sets sign x (λ j. ap (λ m. set_of sets m) (omega arith)) w s l
    written_means deadlock_free sign scope sets w s l = deadlock_law names system closed has_names sets s l
    written_means (can x) sign scope sets w s l = can_law names system closed has_names sets x s
    written_means (will x) sign scope sets w s l = will_law names system closed has_names sets x s l
    written_means (prefixed prefix f) sign scope sets w s l = behind_law names system closed has_names prefix sets (formula_of names fs (names_in scope) f)
        (decision system (signs_in scope) (sign_behind prefix sign) sets (formula_of names fs (names_in scope) f))
        (decided system closed (signs_in scope) (sign_behind prefix sign) (formula_of names fs (names_in scope) f) (well_named_positive names fs known positive f (sign_behind prefix sign) scope w) sets)
        (Says names system earlier (with_sets scope sets) f) (written_means f (sign_behind prefix sign) scope sets w) s l
    written_means (conjunction f g) sign scope sets w s l = iff_and (written_means f sign scope sets w.0 s l) (written_means g sign scope sets w.1 s l)
    written_means (disjunction f g) sign scope sets w s l = iff_or (written_means f sign scope sets w.0 s l) (written_means g sign scope sets w.1 s l)
    written_means (implication f g) sign scope sets w s l = iff_implies (written_means f (not sign) scope sets w.0 s l) (written_means g sign scope sets w.1 s l)
    written_means (binding kind x f) sign scope sets w s l = fixpoint_iff (kind_of kind) system.states _ _ (λ set t k. written_means f sign ((x, sign) ∷ scope) (set ∷ sets) w t k) s

  -- one more entry
  more_said : (fs : List (List ℕ × Formula)) (known : List (List ℕ)) (earlier : Earlier) → ArePositive fs known → AreSaid system fs known earlier → (e : Entry) → IsWellNamed known [] false e.formula →
      AreSaid system ((e.name, formula_of names fs [] e.formula) ∷ fs) (e.name ∷ known) (with_entry names system earlier e)
  more_said fs known earlier positive said e w x k s l = decide (cases_Bool (bytes_eq x e.name))
    where
      decide : (bytes_eq x e.name ≡ true) ⊎ (bytes_eq x e.name ≡ false) → Means system [] (entry_formula ((e.name, formula_of names fs [] e.formula) ∷ fs) x) s ↔ with_entry names system earlier e x s
      decide (inl h) = rw h (written_means fs known earlier positive said e.formula false [] [] w s l)
      decide (inr h) = rw h (said x (rw h at k) s l)

  entries_said : (entries : List Entry) (fs : List (List ℕ × Formula)) (known : List (List ℕ)) (earlier : Earlier) → ArePositive fs known → AreSaid system fs known earlier → AreWellNamed known entries →
      AreSaid system (formulas_behind names fs entries) (names_behind known entries) (said_behind names system earlier entries)
  entries_said [] fs known earlier positive said w = said
  entries_said (e ∷ entries) fs known earlier positive said w = entries_said entries _ (e.name ∷ known) (with_entry names system earlier e) (more_positive names fs known positive e w.0) (more_said fs known earlier positive said e w.0) w.1

  -- each entry behind those in front of it
  pub ordered_said : (entries : List Entry) (fs : List (List ℕ × Formula)) (known : List (List ℕ)) (earlier : Earlier) → ArePositive fs known → AreSaid system fs known earlier → AreWellNamed known entries →
      (n : ℕ) (e : Entry) → slice_get entries n ≡ Some e → (s : ℕ) → s < system.states →
      Means system [] (get_or (formulas_in_order names fs entries) n nowhere) s ↔ Says names system (said_behind names system earlier (take n entries)) [] e.formula s
  ordered_said [] fs known earlier positive said w n e is s l = absurd cc
  ordered_said (d ∷ entries) fs known earlier positive said w zero e is s l =
      subst (λ (e : Entry). Means system [] (formula_of names fs [] d.formula) s ↔ Says names system earlier [] e.formula s) (some_is d e is) (written_means fs known earlier positive said d.formula false [] [] w.0 s l)
  ordered_said (d ∷ entries) fs known earlier positive said w (suc n) e is s l =
      ordered_said entries _ (d.name ∷ known) (with_entry names system earlier d) (more_positive names fs known positive d w.0) (more_said fs known earlier positive said d w.0) w.1 n e is s l

pub none_said : (system : PlainSystem) → AreSaid system [] [] no_entry
none_said system x k s l = absurd (clash k)
  where
    clash : false ≡ true → ⊥
    clash e = cc

pub formulas_mean_what_is_written : FormulasMeanWhatIsWritten
formulas_mean_what_is_written names system entries f closed has_names es w s l = written_means names system closed has_names (formulas_of names entries) (names_behind [] entries) (said_behind names system no_entry entries)
    (all_positive names entries es) (entries_said names system closed has_names entries [] [] no_entry none_positive (none_said system) es) f false [] [] w s l
