-- Entries of a text: how many there are, and the normal form of each.
use Rattle.std.proofs.Common.{◌≡◌, ℕ, suc, ◌<◌, ◌≤◌, Bool, true, false, not, List, [], ◌∷◌, length, get_or, map, All, refl, ◌∙◌, ap, arith}
use Rattle.std.proofs.lemmas.List.{get_or-map, length-map}
use Rattle.std.proofs.lemmas.List.Elements.{All-map}
use Rattle.vpg_requirement.specs.Formulas.{Formula, everywhere, nowhere, negation, conjunction, disjunction, implication, diamond, box, binding, bound, IsPositive}
use Rattle.vpg_requirement.specs.NormalForms.{NormalForm, unmet, positive_form}
use Rattle.vpg_requirement.specs.Priorities.{IsClosedBelow}
use Rattle.vpg_formula.specs.Requirements.{Entry, AreEntries, no_entry, entry, begins_entry, SpellsEntries, alone, several, SpellsRequirements}
use Rattle.vpg_formula.specs.Words.{words_of}
use Rattle.vpg_meaning.specs.Translation.{formula_of, formulas_in_order}
use Rattle.vpg_written.specs.Translations.{formula_at}

-- ---- how many there are

few : (n : ℕ) (earlier ws : List (List ℕ)) (entries : List Entry) → AreEntries n earlier ws entries → length entries ≤ n
few n earlier ws entries no_entry = omega arith
few n earlier ws entries (entry name us vs p later v a f k h) = omega (arith, few _ _ _ later h)

some : (n : ℕ) (earlier ws : List (List ℕ)) (entries : List Entry) → AreEntries n earlier ws entries → begins_entry ws ≡ true → 0 < length entries
some n earlier ws entries no_entry b = absurd (clash b)
  where
    clash : false ≡ true → ⊥
    clash e = cc
some n earlier ws entries (entry name us vs p later v a f k h) b = omega arith

pub record AreSome (entries : List Entry) : Type 0 where
  pub some : 0 < length entries
  pub few : length entries ≤ 64

spelled_some : (text : List ℕ) (entries : List Entry) → SpellsEntries text entries → AreSome entries
spelled_some text entries (alone p b f k) = record { some = omega arith; few = omega arith }
spelled_some text entries (several es b h) = record { some = some 64 [] (words_of text) es h b; few = few 64 [] (words_of text) es h }

pub are_some : (text : List ℕ) (entries : List Entry) → SpellsRequirements text entries → AreSome entries
are_some text entries h = spelled_some text entries h.spelled

-- ---- the formula of each

abbrev pub in_order : List (List ℕ) → List Entry → List Formula
in_order names entries = formulas_in_order names [] entries

as_many : (names : List (List ℕ)) (earlier : List (List ℕ × Formula)) (entries : List Entry) → length (formulas_in_order names earlier entries) ≡ length entries
as_many names earlier [] = refl
as_many names earlier (e ∷ entries) = next (as_many names ((e.name, formula_of names earlier [] e.formula) ∷ earlier) entries)
  where
    next : {m n : ℕ} → m ≡ n → suc m ≡ suc n
    next h = ap suc h

pub positive_at : (names : List (List ℕ)) (entries : List Entry) → All (IsPositive [] false) (in_order names entries) → (n : ℕ) → n < length entries → IsPositive [] false (formula_at names entries n)
positive_at names entries positive n l = positive n nowhere (omega (arith, l, as_many names [] entries))

-- ---- normal forms

-- each variable of the normal form has a fixpoint
closed_form : (f : Formula) (sign : Bool) (signs : List Bool) → IsPositive signs sign f → IsClosedBelow (length signs) (positive_form sign f)
closed_form everywhere false signs p = tt
closed_form everywhere true signs p = tt
closed_form nowhere false signs p = tt
closed_form nowhere true signs p = tt
closed_form (negation f) sign signs p = closed_form f (not sign) signs p
closed_form (conjunction f g) false signs p = (closed_form f false signs p.0, closed_form g false signs p.1)
closed_form (conjunction f g) true signs p = (closed_form f true signs p.0, closed_form g true signs p.1)
closed_form (disjunction f g) false signs p = (closed_form f false signs p.0, closed_form g false signs p.1)
closed_form (disjunction f g) true signs p = (closed_form f true signs p.0, closed_form g true signs p.1)
closed_form (implication f g) false signs p = (closed_form f true signs p.0, closed_form g false signs p.1)
closed_form (implication f g) true signs p = (closed_form f false signs p.0, closed_form g true signs p.1)
closed_form (diamond x f) false signs p = closed_form f false signs p
closed_form (diamond x f) true signs p = closed_form f true signs p
closed_form (box x f) false signs p = closed_form f false signs p
closed_form (box x f) true signs p = closed_form f true signs p
closed_form (binding kind f) false signs p = closed_form f false (false ∷ signs) p
closed_form (binding kind f) true signs p = closed_form f true (true ∷ signs) p
closed_form (bound i) sign signs p = p.0

abbrev pub forms_of : List (List ℕ) → List Entry → List NormalForm
forms_of names entries = map (positive_form false) (in_order names entries)

pub forms_length : (names : List (List ℕ)) (entries : List Entry) → length (forms_of names entries) ≡ length entries
forms_length names entries = length-map (in_order names entries) (positive_form false) ∙ as_many names [] entries

pub form_is : (names : List (List ℕ)) (entries : List Entry) (n : ℕ) → n < length entries → get_or (forms_of names entries) n unmet ≡ positive_form false (formula_at names entries n)
form_is names entries n l = get_or-map (positive_form false) (in_order names entries) n nowhere unmet (omega (arith, l, as_many names [] entries))

pub all_closed : (names : List (List ℕ)) (entries : List Entry) → All (IsPositive [] false) (in_order names entries) → All (IsClosedBelow 0) (forms_of names entries)
all_closed names entries positive = All-map (IsClosedBelow 0) (positive_form false) (in_order names entries) (λ k d l. closed_form (get_or (in_order names entries) k d) false [] (positive k d l))
