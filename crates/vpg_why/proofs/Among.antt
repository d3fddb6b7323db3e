-- Choices of decisions that are among those of others.
use Rattle.std.proofs.Common.{◌≡◌, ◌↔◌, ℕ, ◌<◌, Bool, true, false, List, [], length, get_or, IsTrue, Contains, MatchBool, refl, sym, ap, ◌∙◌, subst, arith}
use Rattle.std.specs.List.{AllWithin, HoldsAt}
use Rattle.std.proofs.lemmas.Bool.{false≢true}
use Rattle.std.proofs.lemmas.List.{length-map}
use Rattle.std.proofs.lemmas.List.Elements.{Contains-get_or}
use Rattle.vpg_diagram.specs.declared.clause.Literal.{Literal}
use Rattle.vpg_diagram.proofs.Lists.{Contains-nil}
use Rattle.vpg_partial.specs.Known.{literal_of}
use Rattle.vpg_partial.specs.TableLaws.{AreAmong}
use Rattle.vpg_partial.specs.declared.decision.Decision.{Decision}
use Rattle.vpg_why.specs.Explained.{choices}
use Rattle.vpg_why.proofs.Next.{choice_at}

-- none are among any
pub none_among : (many : List Literal) → AreAmong [] many
none_among many c h = absurd (Contains-nil c h)

-- the choice of the decision at a place
chosen : (ds : List Decision) (k : ℕ) (x : Decision) → k < length ds → Contains (choices ds) (literal_of (get_or ds k x))
chosen ds k x less = subst (λ (l : Literal). Contains (choices ds) l) (choice_at ds k x (literal_of (get_or ds k x)) less)
    (Contains-get_or (choices ds) k (literal_of (get_or ds k x)) (subst (λ (n : ℕ). k < n) (sym (length-map ds literal_of)) less))

-- the place of a choice
place_of : (ds : List Decision) (l : Literal) (x : Decision) → Contains (choices ds) l → (k : ℕ) × (k < length ds) × (literal_of (get_or ds k x) ≡ l)
place_of ds l x h = let less : h.0 < length ds = subst (λ (n : ℕ). h.0 < n) (length-map ds literal_of) h.1 in (h.0, less, sym (choice_at ds h.0 x l less) ∙ h.2)

abbrev pub Same : Decision → Decision → Type 0
Same one d = (d.feature ≡ one.feature) × (d.value ≡ one.value)

same_choice : (one d : Decision) → Same one d → literal_of d ≡ literal_of one
same_choice one d s = λ k. record { feature = s.0 k; value = s.1 k }

-- what a pass over decisions for one of the same choice says
pub has_by : (r : Bool) (ds : List Decision) (one : Decision) →
    MatchBool r ((k : ℕ) × (k < length ds) × HoldsAt (Same one) ds k) (AllWithin (λ (d : Decision). Same one d → ⊥) ds 0 (length ds)) → IsTrue r ↔ Contains (choices ds) (literal_of one)
has_by true ds one h = (λ t. subst (λ (l : Literal). Contains (choices ds) l) (same_choice one (get_or ds h.0 one) (h.2 one)) (chosen ds h.0 one h.1), λ c. refl)
has_by false ds one h = (λ t. absurd (false≢true t), λ c. none (place_of ds (literal_of one) one c))
  where
    none : (k : ℕ) × (k < length ds) × (literal_of (get_or ds k one) ≡ literal_of one) → false ≡ true
    none p = absurd (h p.0 one (omega arith) p.1 (ap (λ (l : Literal). l.feature) p.2, ap (λ (l : Literal). l.value) p.2))

abbrev no_decision : Decision
no_decision = record { serial = 0; session = 0; feature = 0; value = false }

-- what a pass over decisions says of each
pub are_by : (r : Bool) (few : List Decision) (many : List Literal) →
    MatchBool r (AllWithin (λ (d : Decision). Contains many (literal_of d)) few 0 (length few)) ((k : ℕ) × (k < length few) × HoldsAt (λ (d : Decision). Contains many (literal_of d) → ⊥) few k) →
    IsTrue r ↔ AreAmong (choices few) many
are_by true few many h = (λ t c within. at c (place_of few c no_decision within), λ a. refl)
  where
    at : (c : Literal) → (k : ℕ) × (k < length few) × (literal_of (get_or few k no_decision) ≡ c) → Contains many c
    at c p = subst (λ (l : Literal). Contains many l) p.2 (h p.0 no_decision (omega arith) p.1)
are_by false few many h = (λ t. absurd (false≢true t), λ among. absurd (h.2 no_decision (among (literal_of (get_or few h.0 no_decision)) (chosen few h.0 no_decision h.1))))
