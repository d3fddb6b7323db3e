-- What a text of requirements spells is well named, so that its formulas mean what is written.
use Rattle.std.proofs.Common.{◌≡◌, ℕ, ◌⊎◌, inl, inr, Bool, true, false, cond, not, ◌||◌, List, [], ◌∷◌, ◌++◌, bytes_eq, refl, sym, ◌∙◌, ap}
use Rattle.std.specs.List.{list_any}
use Rattle.std.proofs.lemmas.Bool.{cases_Bool}
use Rattle.std.proofs.lemmas.Slice.Eq.{bytes_eq-Decides}
use Rattle.std.proofs.lemmas.List.Folds.{list_any-append}
use Rattle.vpg_features.proofs.Held.{both_true}
use Rattle.vpg_formula.specs.Words.{words_of}
use Rattle.vpg_formula.specs.Written.{Prefix, negated, some_path, every_path, always, never, possibly, inevitably, again_and_again, after, Written, constant, named, deadlock_free, can, will, prefixed, conjunction, disjunction, implication, binding}
use Rattle.vpg_formula.specs.Standings.{Bound, Context, nothing_around, behind_prefix, is_among, standing_under, standing_in, standing_of, uses, is_like, has}
use Rattle.vpg_formula.specs.Requirements.{Entry, AreEntries, no_entry, entry, SpellsEntries, alone, several, are_positive}
use Rattle.vpg_meaning.specs.Meaning.{is_same, is_known, sign_behind, IsWellNamed, AreWellNamed}
use Rattle.vpg_meaning.specs.Laws.{RequirementsAreWellNamed, RequirementsArePositive, RequirementsMeanWhatIsWritten}
use Rattle.vpg_meaning.proofs.Naming.{none_positive, ordered_positive}
use Rattle.vpg_meaning.proofs.Meaning.{none_said, ordered_said}

-- ---- names as the reader keeps them: the outermost fixpoint first

abbrev bound_in : List (List ℕ × Bool) → List Bound
bound_in [] = []
bound_in (p ∷ scope) = bound_in scope ++ record { name = p.0; is_odd = p.1 } ∷ []

abbrev context_in : List (List ℕ × Bool) → Bool → Context
context_in scope sign = record { is_odd = sign; scope = bound_in scope }

-- the last fixpoint of a name decides
standing_last : (is_odd : Bool) (bs : List Bound) (b : Bound) (without : _) (x : List ℕ) → standing_in is_odd (bs ++ b ∷ []) without x ≡ cond (bytes_eq b.name x) (standing_under b.is_odd is_odd) (standing_in is_odd bs without x)
standing_last is_odd [] b without x = refl
standing_last is_odd (c ∷ bs) b without x = standing_last is_odd bs b (cond (bytes_eq c.name x) (standing_under c.is_odd is_odd) without) x

-- what is not negated is bound under the same sign
same_under : (a b : Bool) → is_like (standing_under true false) (standing_under a b) ≡ false → is_same a b ≡ true
same_under true true e = refl
same_under true false e = absurd cc
same_under false true e = absurd cc
same_under false false e = refl

known_if : (t : Bool) → is_like (standing_of [] nothing_around []) (cond t (standing_under true true) (standing_of [] nothing_around [])) ≡ false → t ≡ true
known_if true e = refl
known_if false e = absurd cc

equal_bytes : (x y : List ℕ) → bytes_eq x y ≡ bytes_eq y x
equal_bytes x y = go (cases_Bool (bytes_eq x y)) (cases_Bool (bytes_eq y x))
  where
    turned : (a b : List ℕ) → bytes_eq a b ≡ true → bytes_eq b a ≡ true
    turned a b e = (bytes_eq-Decides b a).1 (sym ((bytes_eq-Decides a b).0 e))

    go : (bytes_eq x y ≡ true) ⊎ (bytes_eq x y ≡ false) → (bytes_eq y x ≡ true) ⊎ (bytes_eq y x ≡ false) → bytes_eq x y ≡ bytes_eq y x
    go (inl e) r = e ∙ sym (turned x y e)
    go (inr e) (inl f) = turned y x f ∙ sym f
    go (inr e) (inr f) = e ∙ sym f

neither : (a b : Bool) → (a || b) ≡ false → (a ≡ false) × (b ≡ false)
neither true b e = absurd cc
neither false b e = (refl, e)

none_of_both : {X : Type 0} (p : X → Bool) (xs ys : List X) → list_any p (xs ++ ys) ≡ false → (list_any p xs ≡ false) × (list_any p ys ≡ false)
none_of_both p xs ys e = neither (list_any p xs) (list_any p ys) (sym (list_any-append p xs ys) ∙ e)

-- ---- formulas

context_behind : (prefix : Prefix) (scope : List (List ℕ × Bool)) (sign : Bool) → behind_prefix prefix (context_in scope sign) ≡ context_in scope (sign_behind prefix sign)
context_behind negated scope sign = refl
context_behind (some_path x) scope sign = refl
context_behind (every_path x) scope sign = refl
context_behind always scope sign = refl
context_behind never scope sign = refl
context_behind possibly scope sign = refl
context_behind inevitably scope sign = refl
context_behind again_and_again scope sign = refl
context_behind (after x) scope sign = refl

-- a name of the first entries is one of the second
abbrev AreAmong : List (List ℕ) → List (List ℕ) → Type 0
AreAmong earlier known = (x : List ℕ) → is_among earlier x ≡ true → list_any (bytes_eq x) known ≡ true

-- no name of a part is unknown, or none is negated; of the standings themselves only the reader speaks
abbrev HasNoUnknown : List (List ℕ) → List (List ℕ × Bool) → Bool → Written → Type 0
HasNoUnknown earlier scope sign f = list_any (is_like (standing_of [] nothing_around [])) (uses earlier (context_in scope sign) f) ≡ false

abbrev HasNoNegated : List (List ℕ) → List (List ℕ × Bool) → Bool → Written → Type 0
HasNoNegated earlier scope sign f = list_any (is_like (standing_under true false)) (uses earlier (context_in scope sign) f) ≡ false

module _ (earlier known : List (List ℕ)) (among : AreAmong earlier known) where
  known_in : (scope : List (List ℕ × Bool)) (sign : Bool) (x : List ℕ)
      → is_like (standing_of [] nothing_around []) (standing_in sign (bound_in scope) (cond (is_among earlier x) (standing_under true true) (standing_of [] nothing_around [])) x) ≡ false
      → is_like (standing_under true false) (standing_in sign (bound_in scope) (cond (is_among earlier x) (standing_under true true) (standing_of [] nothing_around [])) x) ≡ false
      → is_known known scope sign x ≡ true
  known_in [] sign x u n = among x (known_if (is_among earlier x) u)
  known_in (p ∷ scope) sign x u n =
      let w = cond (is_among earlier x) (standing_under true true) (standing_of [] nothing_around []) in
      let last = standing_last sign (bound_in scope) (record { name = p.0; is_odd = p.1 }) w x in
      decide (cases_Bool (bytes_eq x p.0)) (known_in scope sign x) (rw (sym (equal_bytes x p.0)) at (rw last at u)) (rw (sym (equal_bytes x p.0)) at (rw last at n))
    where
      decide : (bytes_eq x p.0 ≡ true) ⊎ (bytes_eq x p.0 ≡ false)
          → (is_like (standing_of [] nothing_around []) (standing_in sign (bound_in scope) (cond (is_among earlier x) (standing_under true true) (standing_of [] nothing_around [])) x) ≡ false
          → is_like (standing_under true false) (standing_in sign (bound_in scope) (cond (is_among earlier x) (standing_under true true) (standing_of [] nothing_around [])) x) ≡ false
          → is_known known scope sign x ≡ true)
          → is_like (standing_of [] nothing_around []) (cond (bytes_eq x p.0) (standing_under p.1 sign) (standing_in sign (bound_in scope) (cond (is_among earlier x) (standing_under true true) (standing_of [] nothing_around [])) x)) ≡ false
          → is_like (standing_under true false) (cond (bytes_eq x p.0) (standing_under p.1 sign) (standing_in sign (bound_in scope) (cond (is_among earlier x) (standing_under true true) (standing_of [] nothing_around [])) x)) ≡ false
          → is_known known (p ∷ scope) sign x ≡ true
      decide (inl t) later u n = rw t (same_under p.1 sign (rw t at n))
      decide (inr t) later u n = rw t (later (rw t at u) (rw t at n))

  well_named : (f : Written) (scope : List (List ℕ × Bool)) (sign : Bool) → HasNoUnknown earlier scope sign f → HasNoNegated earlier scope sign f → IsWellNamed known scope sign f
  well_named (constant b) scope sign u n = tt
  well_named (named x) scope sign u n =
      let s = standing_of earlier (context_in scope sign) x in
      known_in scope sign x (neither (is_like (standing_of [] nothing_around []) s) false u).0 (neither (is_like (standing_under true false) s) false n).0
  well_named deadlock_free scope sign u n = tt
  well_named (can x) scope sign u n = tt
  well_named (will x) scope sign u n = tt
  well_named (prefixed prefix f) scope sign u n = well_named f scope (sign_behind prefix sign) (rw (context_behind prefix scope sign) at u) (rw (context_behind prefix scope sign) at n)
  well_named (conjunction f g) scope sign u n =
      let c = context_in scope sign in
      let v = none_of_both (is_like (standing_of [] nothing_around [])) (uses earlier c f) (uses earlier c g) u in
      let m = none_of_both (is_like (standing_under true false)) (uses earlier c f) (uses earlier c g) n in
      (well_named f scope sign v.0 m.0, well_named g scope sign v.1 m.1)
  well_named (disjunction f g) scope sign u n =
      let c = context_in scope sign in
      let v = none_of_both (is_like (standing_of [] nothing_around [])) (uses earlier c f) (uses earlier c g) u in
      let m = none_of_both (is_like (standing_under true false)) (uses earlier c f) (uses earlier c g) n in
      (well_named f scope sign v.0 m.0, well_named g scope sign v.1 m.1)
  well_named (implication f g) scope sign u n =
      let c = context_in scope sign in
      let d = context_in scope (not sign) in
      let v = none_of_both (is_like (standing_of [] nothing_around [])) (uses earlier d f) (uses earlier c g) u in
      let m = none_of_both (is_like (standing_under true false)) (uses earlier d f) (uses earlier c g) n in
      (well_named f scope (not sign) v.0 m.0, well_named g scope sign v.1 m.1)
  well_named (binding kind x f) scope sign u n = well_named f ((x, sign) ∷ scope) sign u n

-- ---- entries

not_true : (t : Bool) → not t ≡ true → t ≡ false
not_true true e = absurd cc
not_true false e = refl

one_more_among : (earlier known : List (List ℕ)) (name : List ℕ) → AreAmong earlier known → AreAmong (earlier ++ name ∷ []) (name ∷ known)
one_more_among earlier known name among x e = go (is_among earlier x) (bytes_eq x name) (list_any (bytes_eq x) known)
    (ap (λ (t : Bool). is_among earlier x || (t || false)) (equal_bytes x name) ∙ sym (list_any-append (λ y. bytes_eq y x) earlier (name ∷ [])) ∙ e) (among x)
  where
    go : (a b c : Bool) → (a || (b || false)) ≡ true → (a ≡ true → c ≡ true) → (b || c) ≡ true
    go a true c e later = refl
    go true false c e later = later refl
    go false false c e later = absurd cc

entries_named : (n : ℕ) (earlier known ws : List (List ℕ)) (entries : List Entry) → AreEntries n earlier ws entries → are_positive earlier entries ≡ true → AreAmong earlier known → AreWellNamed known entries
entries_named n earlier known ws entries no_entry p among = tt
entries_named n earlier known ws all (entry {n = m} name us rest phrase entries v a i k later) p among =
    let both = both_true (not (has (standing_under true false) earlier phrase.written)) (are_positive (earlier ++ name ∷ []) entries) p in (
      well_named earlier known among phrase.written [] false k (not_true (has (standing_under true false) earlier phrase.written) both.0),
      entries_named m (earlier ++ name ∷ []) (name ∷ known) rest entries later both.1 (one_more_among earlier known name among),
    )

none_among : AreAmong [] []
none_among x e = absurd cc

pub requirements_are_well_named : RequirementsAreWellNamed
requirements_are_well_named text entries s = go entries s.spelled s.positive
  where
    go : (entries : List Entry) → SpellsEntries text entries → are_positive [] entries ≡ true → AreWellNamed [] entries
    go entries (alone p b i k) positive =
        (well_named [] [] none_among p.written [] false k (not_true (has (standing_under true false) [] p.written) (both_true (not (has (standing_under true false) [] p.written)) true positive).0), tt)
    go entries (several all b i) positive = entries_named 64 [] [] (words_of text) all i positive none_among

pub requirements_are_positive : RequirementsArePositive
requirements_are_positive text entries s names = ordered_positive names entries [] [] none_positive (requirements_are_well_named text entries s)

pub requirements_mean_what_is_written : RequirementsMeanWhatIsWritten
requirements_mean_what_is_written text entries s names system closed has_names n e is t l =
    ordered_said names system closed has_names entries [] [] _ none_positive (none_said system) (requirements_are_well_named text entries s) n e is t l
