-- The tree of a formula has its marks and its normal form.
use Rattle.std.proofs.Common.{◌≡◌, ℕ, suc, ◌⊎◌, inl, inr, Bool, true, false, not, List, [], ◌∷◌, ◌++◌, map, Some, bytes_eq, refl, sym, ◌∙◌, ap, ap₂}
use Rattle.std.proofs.lemmas.Bool.{cases_Bool}
use Rattle.vpg_requirement.specs.Actions as numbered
use Rattle.vpg_requirement.specs.Actions.{ActionFormula}
use Rattle.vpg_requirement.specs.Fixpoints.{least, greatest}
use Rattle.vpg_requirement.specs.Formulas as formulas
use Rattle.vpg_requirement.specs.Formulas.{Formula, nowhere, bound}
use Rattle.vpg_requirement.specs.NormalForms.{NormalForm, both, either, some_step, every_step, fixpoint, variable, positive_form}
use Rattle.vpg_requirement.specs.Words as words
use Rattle.vpg_requirement.specs.Words.{shift}
use Rattle.vpg_formula.specs.Regular.{Regular, every_action, no_action, action, other_than, both_of, either_of, sequence, choice, repeated, repeated_once}
use Rattle.vpg_formula.specs.Written.{Prefix, negated, some_path, every_path, always, never, possibly, inevitably, again_and_again, after, mu, nu, Written, constant, named, deadlock_free, can, will, prefixed, conjunction, disjunction, implication, binding}
use Rattle.vpg_formula.specs.Marks.{regular_marks, prefix_marks, prefix_mark, binder_mark, written_marks}
use Rattle.vpg_formula.specs.declared.mark.Mark.{Mark}
use Rattle.vpg_formula.specs.declared.mark.Mark.TheVariants as marks
use Rattle.vpg_meaning.specs.Labels.{actions_of}
use Rattle.vpg_meaning.specs.Translation.{diamond_along, box_along, entry_formula, formula_named, formula_of}
use Rattle.vpg_written.specs.Shapes.{constant_form, joined_form, step_form, kind_for, star, any_step, coming, inevitable}
use Rattle.vpg_written.specs.Trees.{tree_marks, regular_tree, prefix_tree, tree_of, actions_in, along, place_of, Earlier, form_named, tree_form}
use Rattle.vpg_written.proofs.Raising.{positive_shift}

-- ---- marks

two_in_front : (m : Mark) (us vs ws zs : List Mark) → us ≡ ws → vs ≡ zs → us ++ (vs ++ m ∷ []) ≡ ws ++ (zs ++ m ∷ [])
two_in_front m us vs ws zs e g = ap₂ (λ (a b : List Mark). a ++ (b ++ m ∷ [])) e g

regular_marks_are : (x : Regular) → tree_marks (regular_tree x) ≡ regular_marks x
regular_marks_are every_action = refl
regular_marks_are no_action = refl
regular_marks_are (action label) = refl
regular_marks_are (other_than x) = ap (λ (a : List Mark). a ++ marks.OtherThan ∷ []) (regular_marks_are x)
regular_marks_are (both_of x y) = two_in_front marks.BothOf _ _ _ _ (regular_marks_are x) (regular_marks_are y)
regular_marks_are (either_of x y) = two_in_front marks.EitherOf _ _ _ _ (regular_marks_are x) (regular_marks_are y)
regular_marks_are (sequence x y) = two_in_front marks.Sequence _ _ _ _ (regular_marks_are x) (regular_marks_are y)
regular_marks_are (choice x y) = two_in_front marks.Choice _ _ _ _ (regular_marks_are x) (regular_marks_are y)
regular_marks_are (repeated x) = ap (λ (a : List Mark). a ++ marks.Repeated ∷ []) (regular_marks_are x)
regular_marks_are (repeated_once x) = ap (λ (a : List Mark). a ++ marks.RepeatedOnce ∷ []) (regular_marks_are x)

prefix_marks_are : (p : Prefix) → tree_marks (prefix_tree p) ≡ prefix_marks p
prefix_marks_are negated = refl
prefix_marks_are (some_path x) = regular_marks_are x
prefix_marks_are (every_path x) = regular_marks_are x
prefix_marks_are always = refl
prefix_marks_are never = refl
prefix_marks_are possibly = refl
prefix_marks_are inevitably = refl
prefix_marks_are again_and_again = refl
prefix_marks_are (after x) = regular_marks_are x

pub marks_are : (f : Written) → tree_marks (tree_of f) ≡ written_marks f
marks_are (constant true) = refl
marks_are (constant false) = refl
marks_are (named x) = refl
marks_are deadlock_free = refl
marks_are (can x) = ap (λ (a : List Mark). a ++ marks.Can ∷ []) (regular_marks_are x)
marks_are (will x) = ap (λ (a : List Mark). a ++ marks.Will ∷ []) (regular_marks_are x)
marks_are (prefixed p f) = two_in_front (prefix_mark p) _ _ _ _ (prefix_marks_are p) (marks_are f)
marks_are (conjunction f g) = two_in_front marks.And _ _ _ _ (marks_are f) (marks_are g)
marks_are (disjunction f g) = two_in_front marks.Or _ _ _ _ (marks_are f) (marks_are g)
marks_are (implication f g) = two_in_front marks.Implies _ _ _ _ (marks_are f) (marks_are g)
marks_are (binding kind x f) = ap (λ (a : List Mark). a ++ binder_mark kind x ∷ []) (marks_are f)

-- ---- actions and paths

module _ (names : List (List ℕ)) where
  pub actions_are : (x : Regular) → actions_in names (regular_tree x) ≡ actions_of names x
  actions_are every_action = refl
  actions_are no_action = refl
  actions_are (action label) = refl
  actions_are (other_than x) = ap numbered.other_than (actions_are x)
  actions_are (both_of x y) = ap₂ numbered.both_of (actions_are x) (actions_are y)
  actions_are (either_of x y) = ap₂ numbered.either_of (actions_are x) (actions_are y)
  actions_are (sequence x y) = refl
  actions_are (choice x y) = refl
  actions_are (repeated x) = refl
  actions_are (repeated_once x) = refl

  diamond_step : (x : Regular) (sign : Bool) (g : Formula) → step_form sign (actions_in names (regular_tree x)) (positive_form sign g) ≡ positive_form sign (formulas.diamond (actions_of names x) g)
  diamond_step x false g = ap (λ (a : ActionFormula). some_step a (positive_form false g)) (actions_are x)
  diamond_step x true g = ap (λ (a : ActionFormula). every_step a (positive_form true g)) (actions_are x)

  box_step : (x : Regular) (sign : Bool) (g : Formula) → step_form (not sign) (actions_in names (regular_tree x)) (positive_form sign g) ≡ positive_form sign (formulas.box (actions_of names x) g)
  box_step x false g = ap (λ (a : ActionFormula). every_step a (positive_form false g)) (actions_are x)
  box_step x true g = ap (λ (a : ActionFormula). some_step a (positive_form true g)) (actions_are x)

  some_star : (sign : Bool) (g h : Formula) (again : NormalForm) → again ≡ positive_form sign h → star sign again (positive_form sign g) ≡ positive_form sign (formulas.binding least (formulas.disjunction (shift 0 g) h))
  some_star false g h again e = ap (fixpoint least 0) (ap₂ either (sym (positive_shift g false 0)) e)
  some_star true g h again e = ap (fixpoint greatest 0) (ap₂ both (sym (positive_shift g true 0)) e)

  every_star : (sign : Bool) (g h : Formula) (again : NormalForm) → again ≡ positive_form sign h → star (not sign) again (positive_form sign g) ≡ positive_form sign (formulas.binding greatest (formulas.conjunction (shift 0 g) h))
  every_star false g h again e = ap (fixpoint greatest 0) (ap₂ both (sym (positive_shift g false 0)) e)
  every_star true g h again e = ap (fixpoint least 0) (ap₂ either (sym (positive_shift g true 0)) e)

  variable_is : (sign : Bool) → variable 0 ≡ positive_form sign (bound 0)
  variable_is false = refl
  variable_is true = refl

  some_choice : (sign : Bool) (f g : Formula) (a b : NormalForm) → a ≡ positive_form sign f → b ≡ positive_form sign g → joined_form sign a b ≡ positive_form sign (formulas.disjunction f g)
  some_choice false f g a b e h = ap₂ either e h
  some_choice true f g a b e h = ap₂ both e h

  every_choice : (sign : Bool) (f g : Formula) (a b : NormalForm) → a ≡ positive_form sign f → b ≡ positive_form sign g → joined_form (not sign) a b ≡ positive_form sign (formulas.conjunction f g)
  every_choice false f g a b e h = ap₂ both e h
  every_choice true f g a b e h = ap₂ either e h

  diamond_is : (x : Regular) (sign : Bool) (g : Formula) → along names sign (regular_tree x) (positive_form sign g) ≡ positive_form sign (diamond_along names x g)
  diamond_is every_action sign g = diamond_step every_action sign g
  diamond_is no_action sign g = diamond_step no_action sign g
  diamond_is (action label) sign g = diamond_step (action label) sign g
  diamond_is (other_than x) sign g = diamond_step (other_than x) sign g
  diamond_is (both_of x y) sign g = diamond_step (both_of x y) sign g
  diamond_is (either_of x y) sign g = diamond_step (either_of x y) sign g
  diamond_is (sequence x y) sign g = ap (along names sign (regular_tree x)) (diamond_is y sign g) ∙ diamond_is x sign (diamond_along names y g)
  diamond_is (choice x y) sign g = some_choice sign (diamond_along names x g) (diamond_along names y g) _ _ (diamond_is x sign g) (diamond_is y sign g)
  diamond_is (repeated x) sign g = some_star sign g (diamond_along names x (bound 0)) _ (ap (along names sign (regular_tree x)) (variable_is sign) ∙ diamond_is x sign (bound 0))
  diamond_is (repeated_once x) sign g = ap (along names sign (regular_tree x)) (some_star sign g (diamond_along names x (bound 0)) _ (ap (along names sign (regular_tree x)) (variable_is sign) ∙ diamond_is x sign (bound 0)))
      ∙ diamond_is x sign (formulas.binding least (formulas.disjunction (shift 0 g) (diamond_along names x (bound 0))))

  box_is : (x : Regular) (sign : Bool) (g : Formula) → along names (not sign) (regular_tree x) (positive_form sign g) ≡ positive_form sign (box_along names x g)
  box_is every_action sign g = box_step every_action sign g
  box_is no_action sign g = box_step no_action sign g
  box_is (action label) sign g = box_step (action label) sign g
  box_is (other_than x) sign g = box_step (other_than x) sign g
  box_is (both_of x y) sign g = box_step (both_of x y) sign g
  box_is (either_of x y) sign g = box_step (either_of x y) sign g
  box_is (sequence x y) sign g = ap (along names (not sign) (regular_tree x)) (box_is y sign g) ∙ box_is x sign (box_along names y g)
  box_is (choice x y) sign g = every_choice sign (box_along names x g) (box_along names y g) _ _ (box_is x sign g) (box_is y sign g)
  box_is (repeated x) sign g = every_star sign g (box_along names x (bound 0)) _ (ap (along names (not sign) (regular_tree x)) (variable_is sign) ∙ box_is x sign (bound 0))
  box_is (repeated_once x) sign g = ap (along names (not sign) (regular_tree x)) (every_star sign g (box_along names x (bound 0)) _ (ap (along names (not sign) (regular_tree x)) (variable_is sign) ∙ box_is x sign (bound 0)))
      ∙ box_is x sign (formulas.binding greatest (formulas.conjunction (shift 0 g) (box_along names x (bound 0))))

  -- ---- words

  constant_is : (sign : Bool) → constant_form (not sign) ≡ positive_form sign formulas.everywhere
  constant_is false = refl
  constant_is true = refl

  nowhere_is : (sign : Bool) → constant_form sign ≡ positive_form sign nowhere
  nowhere_is false = refl
  nowhere_is true = refl

  any_is : (sign : Bool) → any_step (not sign) ≡ positive_form sign (formulas.box numbered.every_action (bound 0))
  any_is false = refl
  any_is true = refl

  some_any_is : (sign : Bool) → any_step sign ≡ positive_form sign (formulas.diamond numbered.every_action (bound 0))
  some_any_is false = refl
  some_any_is true = refl

  always_is : (sign : Bool) (g : Formula) → star (not sign) (any_step (not sign)) (positive_form sign g) ≡ positive_form sign (words.always g)
  always_is sign g = every_star sign g (formulas.box numbered.every_action (bound 0)) _ (any_is sign)

  inevitable_is : (sign : Bool) (g : Formula) → inevitable sign (positive_form sign g) ≡ positive_form sign (words.inevitably g)
  inevitable_is false g = ap (fixpoint least 0) (ap (λ (a : NormalForm). either a (coming false numbered.every_action)) (sym (positive_shift g false 0)))
  inevitable_is true g = ap (fixpoint greatest 0) (ap (λ (a : NormalForm). both a (coming true numbered.every_action)) (sym (positive_shift g true 0)))

  can_is : (x : ActionFormula) (sign : Bool) → step_form sign x (constant_form (not sign)) ≡ positive_form sign (words.can x)
  can_is x false = refl
  can_is x true = refl

  will_is : (x : ActionFormula) (sign : Bool) → fixpoint (kind_for sign) 0 (coming sign (numbered.other_than x)) ≡ positive_form sign (words.will x)
  will_is x false = refl
  will_is x true = refl

  after_is : (x : Regular) (sign : Bool) (g : Formula) → star (not sign) (any_step (not sign)) (step_form (not sign) (actions_in names (regular_tree x)) (positive_form sign g)) ≡ positive_form sign (words.after (actions_of names x) g)
  after_is x sign g = ap (star (not sign) (any_step (not sign))) (box_step x sign g) ∙ always_is sign (formulas.box (actions_of names x) g)

  not_is : (sign : Bool) (g : Formula) → positive_form (not sign) g ≡ positive_form sign (formulas.negation g)
  not_is false g = refl
  not_is true g = refl

  implies_is : (sign : Bool) (f g : Formula) (a b : NormalForm) → a ≡ positive_form (not sign) f → b ≡ positive_form sign g → joined_form sign a b ≡ positive_form sign (formulas.implication f g)
  implies_is false f g a b e h = ap₂ either e h
  implies_is true f g a b e h = ap₂ both e h

  least_is : (sign : Bool) (g : Formula) (a : NormalForm) → a ≡ positive_form sign g → fixpoint (kind_for sign) 0 a ≡ positive_form sign (formulas.binding least g)
  least_is false g a e = ap (fixpoint least 0) e
  least_is true g a e = ap (fixpoint greatest 0) e

  greatest_is : (sign : Bool) (g : Formula) (a : NormalForm) → a ≡ positive_form sign g → fixpoint (kind_for (not sign)) 0 a ≡ positive_form sign (formulas.binding greatest g)
  greatest_is false g a e = ap (fixpoint greatest 0) e
  greatest_is true g a e = ap (fixpoint least 0) e

  bound_is : (sign : Bool) (i : ℕ) → variable i ≡ positive_form sign (bound i)
  bound_is false i = refl
  bound_is true i = refl

  -- ---- whole formulas

  -- what names stand for that no fixpoint binds, is what they stand for as formulas
  abbrev pub AreEarlier : Earlier → List (List ℕ × Formula) → Type 0
  AreEarlier earlier entries = (x : List ℕ) (sign : Bool) → earlier x sign ≡ positive_form sign (entry_formula entries x)

  module _ (earlier : Earlier) (entries : List (List ℕ × Formula)) (are : AreEarlier earlier entries) where
    named_is : (x : List ℕ) (sign : Bool) (scope : List (List ℕ)) (i : ℕ) → form_named (place_of (map Some scope) i x) (earlier x sign) ≡ positive_form sign (formula_named entries scope i x)
    named_is x sign [] i = are x sign
    named_is x sign (y ∷ scope) i = decide (cases_Bool (bytes_eq x y)) (named_is x sign scope (suc i))
      where
        decide : (bytes_eq x y ≡ true) ⊎ (bytes_eq x y ≡ false) → form_named (place_of (map Some scope) (suc i) x) (earlier x sign) ≡ positive_form sign (formula_named entries scope (suc i) x) →
            form_named (place_of (Some y ∷ map Some scope) i x) (earlier x sign) ≡ positive_form sign (formula_named entries (y ∷ scope) i x)
        decide (inl is) h = rw is (bound_is sign i)
        decide (inr not) h = rw not h

    behind_is : (p : Prefix) (f : Written) (sign : Bool) (scope : List (List ℕ)) → ((s : Bool) → tree_form names earlier s (map Some scope) (tree_of f) ≡ positive_form s (formula_of names entries scope f)) →
        tree_form names earlier sign (map Some scope) (tree_of (prefixed p f)) ≡ positive_form sign (formula_of names entries scope (prefixed p f))
    behind_is negated f sign scope h = h (not sign) ∙ not_is sign (formula_of names entries scope f)
    behind_is (some_path x) f sign scope h = ap (along names sign (regular_tree x)) (h sign) ∙ diamond_is x sign (formula_of names entries scope f)
    behind_is (every_path x) f sign scope h = ap (along names (not sign) (regular_tree x)) (h sign) ∙ box_is x sign (formula_of names entries scope f)
    behind_is always f sign scope h = ap (star (not sign) (any_step (not sign))) (h sign) ∙ always_is sign (formula_of names entries scope f)
    behind_is never f sign scope h = ap (star (not sign) (any_step (not sign))) (h (not sign) ∙ not_is sign (formula_of names entries scope f)) ∙ always_is sign (formulas.negation (formula_of names entries scope f))
    behind_is possibly f sign scope h = ap (star sign (any_step sign)) (h sign) ∙ some_star sign (formula_of names entries scope f) (formulas.diamond numbered.every_action (bound 0)) _ (some_any_is sign)
    behind_is inevitably f sign scope h = ap (inevitable sign) (h sign) ∙ inevitable_is sign (formula_of names entries scope f)
    behind_is again_and_again f sign scope h = ap (star (not sign) (any_step (not sign))) (ap (inevitable sign) (h sign) ∙ inevitable_is sign (formula_of names entries scope f)) ∙ always_is sign (words.inevitably (formula_of names entries scope f))
    behind_is (after x) f sign scope h = ap (λ (g : NormalForm). star (not sign) (any_step (not sign)) (step_form (not sign) (actions_in names (regular_tree x)) g)) (h sign) ∙ after_is x sign (formula_of names entries scope f)

    pub form_is : (f : Written) (sign : Bool) (scope : List (List ℕ)) → tree_form names earlier sign (map Some scope) (tree_of f) ≡ positive_form sign (formula_of names entries scope f)
    form_is (constant true) sign scope = constant_is sign
    form_is (constant false) sign scope = nowhere_is sign
    form_is (named x) sign scope = named_is x sign scope 0
    form_is deadlock_free sign scope = ap (star (not sign) (any_step (not sign))) (can_is numbered.every_action sign) ∙ always_is sign (words.can numbered.every_action)
    form_is (can x) sign scope = ap (λ (a : ActionFormula). step_form sign a (constant_form (not sign))) (actions_are x) ∙ can_is (actions_of names x) sign
    form_is (will x) sign scope = ap (λ (a : ActionFormula). fixpoint (kind_for sign) 0 (coming sign (numbered.other_than a))) (actions_are x) ∙ will_is (actions_of names x) sign
    form_is (prefixed p f) sign scope = behind_is p f sign scope (λ s. form_is f s scope)
    form_is (conjunction f g) sign scope = every_choice sign (formula_of names entries scope f) (formula_of names entries scope g) _ _ (form_is f sign scope) (form_is g sign scope)
    form_is (disjunction f g) sign scope = some_choice sign (formula_of names entries scope f) (formula_of names entries scope g) _ _ (form_is f sign scope) (form_is g sign scope)
    form_is (implication f g) sign scope = implies_is sign (formula_of names entries scope f) (formula_of names entries scope g) _ _ (form_is f (not sign) scope) (form_is g sign scope)
    form_is (binding mu x f) sign scope = least_is sign (formula_of names entries (x ∷ scope) f) _ (form_is f sign (x ∷ scope))
    form_is (binding nu x f) sign scope = greatest_is sign (formula_of names entries (x ∷ scope) f) _ (form_is f sign (x ∷ scope))
