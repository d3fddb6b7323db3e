-- Forms that come to stand inside one more fixpoint.
use Rattle.std.proofs.Common.{◌≡◌, ℕ, zero, suc, ◌+◌, ◌<◌, ◌≤◌, ◌⊎◌, inl, inr, Bool, true, false, not, List, [], ◌∷◌, length, Option, Some, None, bytes_eq, refl, sym, ◌∙◌, ap, ap₂, arith}
use Rattle.std.proofs.lemmas.Bool.{cases_Bool, cases_lt, lt-ltb, le-ltb}
use Rattle.vpg_requirement.specs.Actions as numbered
use Rattle.vpg_requirement.specs.Actions.{ActionFormula}
use Rattle.vpg_requirement.specs.Fixpoints.{other_kind}
use Rattle.vpg_requirement.specs.Formulas.{Formula, everywhere, nowhere, negation, conjunction, disjunction, implication, diamond, box, binding, bound}
use Rattle.vpg_requirement.specs.NormalForms.{NormalForm, met, unmet, both, either, some_step, every_step, fixpoint, variable, positive_form}
use Rattle.vpg_requirement.specs.Words.{shift_variable, shift}
use Rattle.vpg_formula.specs.declared.mark.Mark.TheVariants as marks
use Rattle.vpg_written.specs.Shapes.{constant_form, joined_form, step_form, kind_for, shift_form, star, any_step, coming, inevitable}
use Rattle.vpg_written.specs.Trees.{Tree, nothing, node, actions_in, along, Around, place_of, Earlier, form_named, tree_form, TreeEntry, tree_at, name_at, before}

-- ---- numbers of variables

pub shift_low : (k i : ℕ) → i < k → shift_variable k i ≡ i
shift_low k i l = rw (lt-ltb i k l) refl

pub shift_high : (k i : ℕ) → k ≤ i → shift_variable k i ≡ suc i
shift_high k i l = rw (le-ltb i k l) refl

-- a fixpoint inside so many others, and then one further out
pub shift_variable_twice : (j k i : ℕ) → j ≤ k → shift_variable (suc k) (shift_variable j i) ≡ shift_variable j (shift_variable k i)
shift_variable_twice j k i l = first (cases_lt i j)
  where
    second : (i < k) ⊎ (k ≤ i) → j ≤ i → shift_variable (suc k) (shift_variable j i) ≡ shift_variable j (shift_variable k i)
    second (inl low) h = ap (shift_variable (suc k)) (shift_high j i h) ∙ shift_low (suc k) (suc i) (omega arith) ∙ sym (shift_high j i h) ∙ ap (shift_variable j) (sym (shift_low k i low))
    second (inr high) h = ap (shift_variable (suc k)) (shift_high j i h) ∙ shift_high (suc k) (suc i) (omega arith) ∙ sym (shift_high j (suc i) (omega arith)) ∙ ap (shift_variable j) (sym (shift_high k i high))

    first : (i < j) ⊎ (j ≤ i) → shift_variable (suc k) (shift_variable j i) ≡ shift_variable j (shift_variable k i)
    first (inl low) = ap (shift_variable (suc k)) (shift_low j i low) ∙ shift_low (suc k) i (omega arith) ∙ sym (shift_low j i low) ∙ ap (shift_variable j) (sym (shift_low k i (omega arith)))
    first (inr high) = second (cases_lt i k) high

pub shift_twice : (f : NormalForm) (j k : ℕ) → j ≤ k → shift_form (suc k) (shift_form j f) ≡ shift_form j (shift_form k f)
shift_twice met j k l = refl
shift_twice unmet j k l = refl
shift_twice (both f g) j k l = ap₂ both (shift_twice f j k l) (shift_twice g j k l)
shift_twice (either f g) j k l = ap₂ either (shift_twice f j k l) (shift_twice g j k l)
shift_twice (some_step x f) j k l = ap (some_step x) (shift_twice f j k l)
shift_twice (every_step x f) j k l = ap (every_step x) (shift_twice f j k l)
shift_twice (fixpoint kind p f) j k l = ap (fixpoint kind p) (shift_twice f (suc j) (suc k) (omega arith))
shift_twice (variable i) j k l = ap variable (shift_variable_twice j k i l)

-- the normal form of a formula that is shifted
pub positive_shift : (f : Formula) (sign : Bool) (k : ℕ) → positive_form sign (shift k f) ≡ shift_form k (positive_form sign f)
positive_shift everywhere false k = refl
positive_shift everywhere true k = refl
positive_shift nowhere false k = refl
positive_shift nowhere true k = refl
positive_shift (negation f) false k = positive_shift f true k
positive_shift (negation f) true k = positive_shift f false k
positive_shift (conjunction f g) false k = ap₂ both (positive_shift f false k) (positive_shift g false k)
positive_shift (conjunction f g) true k = ap₂ either (positive_shift f true k) (positive_shift g true k)
positive_shift (disjunction f g) false k = ap₂ either (positive_shift f false k) (positive_shift g false k)
positive_shift (disjunction f g) true k = ap₂ both (positive_shift f true k) (positive_shift g true k)
positive_shift (implication f g) false k = ap₂ either (positive_shift f true k) (positive_shift g false k)
positive_shift (implication f g) true k = ap₂ both (positive_shift f false k) (positive_shift g true k)
positive_shift (diamond x f) false k = ap (some_step x) (positive_shift f false k)
positive_shift (diamond x f) true k = ap (every_step x) (positive_shift f true k)
positive_shift (box x f) false k = ap (every_step x) (positive_shift f false k)
positive_shift (box x f) true k = ap (some_step x) (positive_shift f true k)
positive_shift (binding kind f) false k = ap (fixpoint kind 0) (positive_shift f false (suc k))
positive_shift (binding kind f) true k = ap (fixpoint (other_kind kind) 0) (positive_shift f true (suc k))
positive_shift (bound i) false k = refl
positive_shift (bound i) true k = refl

-- ---- the forms that words and stars stand for

pub shift_constant : (k : ℕ) (b : Bool) → shift_form k (constant_form b) ≡ constant_form b
shift_constant k true = refl
shift_constant k false = refl

pub shift_joined : (k : ℕ) (b : Bool) (f g : NormalForm) → shift_form k (joined_form b f g) ≡ joined_form b (shift_form k f) (shift_form k g)
shift_joined k true f g = refl
shift_joined k false f g = refl

pub shift_step : (k : ℕ) (b : Bool) (x : ActionFormula) (f : NormalForm) → shift_form k (step_form b x f) ≡ step_form b x (shift_form k f)
shift_step k true x f = refl
shift_step k false x f = refl

-- the variable of the innermost fixpoint stays
pub shift_inner : (k : ℕ) → shift_form (suc k) (variable 0) ≡ variable 0
shift_inner k = ap variable (shift_low (suc k) 0 (omega arith))

pub shift_any : (k : ℕ) (b : Bool) → shift_form (suc k) (any_step b) ≡ any_step b
shift_any k b = shift_step (suc k) b numbered.every_action (variable 0) ∙ ap (step_form b numbered.every_action) (shift_inner k)

pub shift_star : (k : ℕ) (b : Bool) (again f : NormalForm) → shift_form (suc k) again ≡ again → shift_form k (star b again f) ≡ star b again (shift_form k f)
shift_star k b again f e = ap (fixpoint (kind_for b) 0) (shift_joined (suc k) b (shift_form 0 f) again ∙ ap₂ (joined_form b) (shift_twice f 0 k (omega arith)) e)

pub shift_coming : (k : ℕ) (b : Bool) (x : ActionFormula) → shift_form (suc k) (coming b x) ≡ coming b x
shift_coming k b x = shift_joined (suc k) (not b) _ _ ∙ ap₂ (joined_form (not b))
    (shift_step (suc k) b numbered.every_action _ ∙ ap (step_form b numbered.every_action) (shift_constant (suc k) (not b)))
    (shift_step (suc k) (not b) x _ ∙ ap (step_form (not b) x) (shift_inner k))

pub shift_inevitable : (k : ℕ) (b : Bool) (f : NormalForm) → shift_form k (inevitable b f) ≡ inevitable b (shift_form k f)
shift_inevitable k b f = ap (fixpoint (kind_for b) 0) (shift_joined (suc k) b (shift_form 0 f) _ ∙ ap₂ (joined_form b) (shift_twice f 0 k (omega arith)) (shift_coming k b numbered.every_action))

pub shift_along : (names : List (List ℕ)) (t : Tree) (k : ℕ) (every : Bool) (f : NormalForm) → shift_form k (along names every t f) ≡ along names every t (shift_form k f)
shift_along names nothing k every f = shift_step k every _ f
shift_along names (node marks.Sequence s t) k every f = shift_along names s k every (along names every t f) ∙ ap (along names every s) (shift_along names t k every f)
shift_along names (node marks.Choice s t) k every f = shift_joined k every (along names every s f) (along names every t f) ∙ ap₂ (joined_form every) (shift_along names s k every f) (shift_along names t k every f)
shift_along names (node marks.Repeated s t) k every f = shift_star k every (along names every t (variable 0)) f (shift_along names t (suc k) every (variable 0) ∙ ap (along names every t) (shift_inner k))
shift_along names (node marks.RepeatedOnce s t) k every f = shift_along names t k every (star every (along names every t (variable 0)) f)
    ∙ ap (along names every t) (shift_star k every (along names every t (variable 0)) f (shift_along names t (suc k) every (variable 0) ∙ ap (along names every t) (shift_inner k)))
shift_along names (node m s t) k every f = shift_step k every (actions_in names (node m s t)) f

-- ---- the names around

-- One more fixpoint around: with no name, outside so many others; or outside all of them, where no variable reaches.
pub data Raised : ℕ → Around → Around → Type 0 where
  inserted : {around : Around} → Raised 0 around (None ∷ around)
  apart : {k : ℕ} {around : Around} → length around ≤ k → Raised k around around
  inside : {k : ℕ} {a b : Around} (y : Option (List ℕ)) → Raised k a b → Raised (suc k) (y ∷ a) (y ∷ b)

counted : (x : List ℕ) (f : NormalForm) (a : Around) (i j : ℕ) → j ≤ i → shift_form j f ≡ f → shift_form j (form_named (place_of a i x) f) ≡ form_named (place_of a (suc i) x) f
counted x f [] i j l e = e
counted x f (None ∷ a) i j l e = counted x f a (suc i) j (omega arith) e
counted x f (Some y ∷ a) i j l e = decide (cases_Bool (bytes_eq x y)) (counted x f a (suc i) j (omega arith) e)
  where
    decide : (bytes_eq x y ≡ true) ⊎ (bytes_eq x y ≡ false) → shift_form j (form_named (place_of a (suc i) x) f) ≡ form_named (place_of a (suc (suc i)) x) f →
        shift_form j (form_named (place_of (Some y ∷ a) i x) f) ≡ form_named (place_of (Some y ∷ a) (suc i) x) f
    decide (inl is) h = rw is (ap variable (shift_high j i l))
    decide (inr not) h = rw not h

reached : (x : List ℕ) (f : NormalForm) (a : Around) (i j : ℕ) → i + length a ≤ j → shift_form j f ≡ f → shift_form j (form_named (place_of a i x) f) ≡ form_named (place_of a i x) f
reached x f [] i j l e = e
reached x f (None ∷ a) i j l e = reached x f a (suc i) j (omega arith) e
reached x f (Some y ∷ a) i j l e = decide (cases_Bool (bytes_eq x y)) (reached x f a (suc i) j (omega arith) e)
  where
    decide : (bytes_eq x y ≡ true) ⊎ (bytes_eq x y ≡ false) → shift_form j (form_named (place_of a (suc i) x) f) ≡ form_named (place_of a (suc i) x) f →
        shift_form j (form_named (place_of (Some y ∷ a) i x) f) ≡ form_named (place_of (Some y ∷ a) i x) f
    decide (inl is) h = rw is (ap variable (shift_low j i (omega arith)))
    decide (inr not) h = rw not h

raised_place : (x : List ℕ) (f : NormalForm) (k : ℕ) (a b : Around) → Raised k a b → (i n : ℕ) → n ≡ i + k → shift_form n f ≡ f → shift_form n (form_named (place_of a i x) f) ≡ form_named (place_of b i x) f
raised_place x f k a b inserted i n e h = counted x f a i n (omega arith) h
raised_place x f k a b (apart l) i n e h = reached x f a i n (omega arith) h
raised_place x f k a b (inside {k = j} {a = c} {b = d} None r) i n e h = raised_place x f j c d r (suc i) n (omega arith) h
raised_place x f k a b (inside {k = j} {a = c} {b = d} (Some y) r) i n e h = decide (cases_Bool (bytes_eq x y)) (raised_place x f j c d r (suc i) n (omega arith) h)
  where
    decide : (bytes_eq x y ≡ true) ⊎ (bytes_eq x y ≡ false) → shift_form n (form_named (place_of c (suc i) x) f) ≡ form_named (place_of d (suc i) x) f →
        shift_form n (form_named (place_of (Some y ∷ c) i x) f) ≡ form_named (place_of (Some y ∷ d) i x) f
    decide (inl is) h = rw is (ap variable (shift_low n i (omega arith)))
    decide (inr not) h = rw not h

-- what names stand for that no fixpoint binds has no free variable
abbrev pub IsAlone : Earlier → Type 0
IsAlone earlier = (x : List ℕ) (sign : Bool) (k : ℕ) → shift_form k (earlier x sign) ≡ earlier x sign

module _ (names : List (List ℕ)) (earlier : Earlier) (alone : IsAlone earlier) where
  pub raised_form : (t : Tree) (sign : Bool) (k : ℕ) (a b : Around) → Raised k a b → shift_form k (tree_form names earlier sign a t) ≡ tree_form names earlier sign b t
  raised_form nothing sign k a b r = shift_constant k sign
  raised_form (node marks.True s t) sign k a b r = shift_constant k (not sign)
  raised_form (node (marks.Named x) s t) sign k a b r = raised_place x (earlier x sign) k a b r 0 k (omega arith) (alone x sign k)
  raised_form (node marks.DeadlockFree s t) sign k a b r = shift_star k (not sign) (any_step (not sign)) _ (shift_any k (not sign))
      ∙ ap (star (not sign) (any_step (not sign))) (shift_step k sign numbered.every_action _ ∙ ap (step_form sign numbered.every_action) (shift_constant k (not sign)))
  raised_form (node marks.Can s t) sign k a b r = shift_step k sign (actions_in names t) _ ∙ ap (step_form sign (actions_in names t)) (shift_constant k (not sign))
  raised_form (node marks.Will s t) sign k a b r = ap (fixpoint (kind_for sign) 0) (shift_coming k sign _)
  raised_form (node marks.Not s t) sign k a b r = raised_form t (not sign) k a b r
  raised_form (node marks.SomePath s t) sign k a b r = shift_along names s k sign _ ∙ ap (along names sign s) (raised_form t sign k a b r)
  raised_form (node marks.EveryPath s t) sign k a b r = shift_along names s k (not sign) _ ∙ ap (along names (not sign) s) (raised_form t sign k a b r)
  raised_form (node marks.Always s t) sign k a b r = shift_star k (not sign) (any_step (not sign)) _ (shift_any k (not sign)) ∙ ap (star (not sign) (any_step (not sign))) (raised_form t sign k a b r)
  raised_form (node marks.Never s t) sign k a b r = shift_star k (not sign) (any_step (not sign)) _ (shift_any k (not sign)) ∙ ap (star (not sign) (any_step (not sign))) (raised_form t (not sign) k a b r)
  raised_form (node marks.Possibly s t) sign k a b r = shift_star k sign (any_step sign) _ (shift_any k sign) ∙ ap (star sign (any_step sign)) (raised_form t sign k a b r)
  raised_form (node marks.Inevitably s t) sign k a b r = shift_inevitable k sign _ ∙ ap (inevitable sign) (raised_form t sign k a b r)
  raised_form (node marks.AgainAndAgain s t) sign k a b r = shift_star k (not sign) (any_step (not sign)) (inevitable sign (tree_form names earlier sign a t)) (shift_any k (not sign))
      ∙ ap (star (not sign) (any_step (not sign))) (shift_inevitable k sign (tree_form names earlier sign a t) ∙ ap (inevitable sign) (raised_form t sign k a b r))
  raised_form (node marks.After s t) sign k a b r = shift_star k (not sign) (any_step (not sign)) _ (shift_any k (not sign))
      ∙ ap (star (not sign) (any_step (not sign))) (shift_step k (not sign) (actions_in names s) _ ∙ ap (step_form (not sign) (actions_in names s)) (raised_form t sign k a b r))
  raised_form (node marks.And s t) sign k a b r = shift_joined k (not sign) _ _ ∙ ap₂ (joined_form (not sign)) (raised_form s sign k a b r) (raised_form t sign k a b r)
  raised_form (node marks.Or s t) sign k a b r = shift_joined k sign _ _ ∙ ap₂ (joined_form sign) (raised_form s sign k a b r) (raised_form t sign k a b r)
  raised_form (node marks.Implies s t) sign k a b r = shift_joined k sign _ _ ∙ ap₂ (joined_form sign) (raised_form s (not sign) k a b r) (raised_form t sign k a b r)
  raised_form (node (marks.Least x) s t) sign k a b r = ap (fixpoint (kind_for sign) 0) (raised_form t sign (suc k) (Some x ∷ a) (Some x ∷ b) (inside (Some x) r))
  raised_form (node (marks.Greatest x) s t) sign k a b r = ap (fixpoint (kind_for (not sign)) 0) (raised_form t sign (suc k) (Some x ∷ a) (Some x ∷ b) (inside (Some x) r))
  raised_form (node m s t) sign k a b r = shift_constant k sign

-- inside one more fixpoint without a name
pub hidden_form : (names : List (List ℕ)) (earlier : Earlier) → IsAlone earlier → (t : Tree) (sign : Bool) (a : Around) → shift_form 0 (tree_form names earlier sign a t) ≡ tree_form names earlier sign (None ∷ a) t
hidden_form names earlier alone t sign a = raised_form names earlier alone t sign 0 a (None ∷ a) inserted

pub before_alone : (names : List (List ℕ)) (entries : List TreeEntry) (n : ℕ) → IsAlone (before names entries n)
before_alone names entries zero = λ x sign k. shift_constant k sign
before_alone names entries (suc n) = λ x sign k. decide x sign k (cases_Bool (bytes_eq x (name_at entries n))) (before_alone names entries n x sign k)
    (raised_form names (before names entries n) (before_alone names entries n) (tree_at entries n) sign k [] [] (apart (omega arith)))
  where
    decide : (x : List ℕ) (sign : Bool) (k : ℕ) → (bytes_eq x (name_at entries n) ≡ true) ⊎ (bytes_eq x (name_at entries n) ≡ false) →
        shift_form k (before names entries n x sign) ≡ before names entries n x sign →
        shift_form k (tree_form names (before names entries n) sign [] (tree_at entries n)) ≡ tree_form names (before names entries n) sign [] (tree_at entries n) →
        shift_form k (before names entries (suc n) x sign) ≡ before names entries (suc n) x sign
    decide x sign k (inl is) h here = rw is here
    decide x sign k (inr not) h here = rw not h
