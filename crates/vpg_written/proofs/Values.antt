-- Sets of actions that are made one by one.
use Rattle.std.proofs.Common.{◌≡◌, ℕ, zero, suc, ◌+◌, ◌<◌, ◌≤◌, ◌⊎◌, inl, inr, Bool, true, false, ◌&&◌, ◌||◌, List, [], ◌∷◌, ◌++◌, length, get_or, refl, sym, subst, ◌∙◌, ap, ap₂, arith, length-append}
use Rattle.std.proofs.lemmas.Bool.{cases_lt}
use Rattle.std.proofs.lemmas.List.{append-nil, get_or_append_left, get_or_at}
use Rattle.vpg_requirement.specs.Actions as numbered
use Rattle.vpg_requirement.specs.Actions.{ActionFormula, permits}
use Rattle.vpg_parts.specs.Sets.{ArePermitted, actions_at}
use Rattle.vpg_formula.specs.Regular.{Label, action}
use Rattle.vpg_formula.specs.declared.mark.Mark.{Mark}
use Rattle.vpg_formula.specs.declared.mark.Mark.TheVariants as marks
use Rattle.vpg_meaning.specs.Labels.{is_named, name_at, none_of_them, actions_named}
use Rattle.vpg_meaning.proofs.Labels.{actions_are_admitted}
use Rattle.vpg_written.specs.Trees.{Tree, node, actions_in}
use Rattle.vpg_written.specs.Terms.{HasConstants, AreSets, IsSetOf, IsSetBy}
use Rattle.vpg_written.specs.Actions.{IsActionsOf}

-- ---- values of a set, one by one

-- the list has so many values of this function
pub record HasValues (f : ℕ → Bool) (n : ℕ) (xs : List Bool) : Type 0 where
  pub count : length xs ≡ n
  pub each : (k : ℕ) → k < n → f k ≡ get_or xs k false

pub no_values : (f : ℕ → Bool) (xs : List Bool) → xs ≡ [] → HasValues f 0 xs
no_values f xs e = record { count = ap length e; each = λ k l. absurd (omega arith) }

pub one_more_value : (f : ℕ → Bool) (n : ℕ) (xs ys : List Bool) (x : Bool) → HasValues f n xs → f n ≡ x → ys ≡ xs ++ x ∷ [] → HasValues f (n + 1) ys
one_more_value f n xs ys x h e is = subst (HasValues f (n + 1)) (sym is) (record {
  count = omega (arith, length-append xs (x ∷ []), h.count);
  each = λ k l. decide k (cases_lt k n) l;
})
  where
    decide : (k : ℕ) → (k < n) ⊎ (n ≤ k) → k < n + 1 → f k ≡ get_or (xs ++ x ∷ []) k false
    decide k (inl low) l = h.each k low ∙ sym (get_or_append_left xs (x ∷ []) false k (omega (arith, h.count)))
    decide k (inr high) l = ap f same ∙ e ∙ sym (get_or_at xs x [] false k (omega (arith, h.count, same)))
      where
        same : k ≡ n
        same = omega (arith, high, l)

-- ---- the sets of action formulas

pub named_set : (label : Label) (names : List (List ℕ)) (set : List Bool) → HasValues (λ a. is_named label (name_at names a)) (length names) set → IsSetOf (length names) set (actions_named label 0 names)
named_set label names set h = λ a l. actions_are_admitted names (action label) a l ∙ h.each a l

-- both, or one of them
abbrev pub joined_test : Bool → Bool → Bool → Bool
joined_test true a b = a && b
joined_test false a b = a || b

-- ---- one more set

pub same_actions : (actions more : List ActionFormula) (x : ℕ) → x < length actions → actions_at (actions ++ more) x ≡ actions_at actions x
same_actions actions more x l = get_or_append_left actions more _ x l

past_end : {A : Type 0} (xs : List A) (n : ℕ) (d : A) → length xs ≤ n → get_or xs n d ≡ d
past_end [] n d l = refl
past_end (x ∷ xs) zero d l = absurd (omega arith)
past_end (x ∷ xs) (suc n) d l = past_end xs n d (omega arith)

module _ (names : List (List ℕ)) (sets : List (List Bool)) (actions : List ActionFormula) (are : AreSets names sets actions) where
  pub set_added : (set : List Bool) (x : ActionFormula) → IsSetOf (length names) set x → AreSets names (sets ++ set ∷ []) (actions ++ x ∷ [])
  set_added set x is = record {
    same = omega (arith, length-append sets (set ∷ []), length-append actions (x ∷ []), are.same);
    enough = omega (arith, length-append actions (x ∷ []), are.enough);
    constants = record {
      every = same_actions actions (x ∷ []) 0 (omega (arith, are.enough)) ∙ are.constants.every;
      none = same_actions actions (x ∷ []) 1 (omega (arith, are.enough)) ∙ are.constants.none;
    };
    permitted = λ n. by_place n (cases_lt n (length sets)) (cases_lt (length sets) n);
  }
    where
      by_place : (n : ℕ) → (n < length sets) ⊎ (length sets ≤ n) → (length sets < n) ⊎ (n ≤ length sets) → ArePermitted (length names) (sets ++ set ∷ []) n (actions_at (actions ++ x ∷ []) n)
      by_place n (inl low) other = λ a l. ap (λ (y : ActionFormula). permits y a) (same_actions actions (x ∷ []) n (omega (arith, are.same))) ∙ are.permitted n a l
          ∙ ap (λ (s : List Bool). get_or s a false) (sym (get_or_append_left sets (set ∷ []) [] n low))
      by_place n (inr high) (inl past) = λ a l. ap (λ (y : ActionFormula). permits y a) (past_end (actions ++ x ∷ []) n (numbered.other_than numbered.every_action) (omega (arith, are.same, length-append actions (x ∷ []))))
          ∙ ap (λ (s : List Bool). get_or s a false) (sym (past_end (sets ++ set ∷ []) n [] (omega (arith, length-append sets (set ∷ [])))))
      by_place n (inr high) (inr low) = λ a l. ap (λ (y : ActionFormula). permits y a) (get_or_at actions x [] (numbered.other_than numbered.every_action) n (omega (arith, are.same))) ∙ is a l
          ∙ ap (λ (s : List Bool). get_or s a false) (sym (get_or_at sets set [] [] n (omega arith)))

  -- the number of the set that is added
  pub set_by_adding : (m : Mark) (first second : ℕ) (set : List Bool) (x : ActionFormula) (n : ℕ) → IsSetOf (length names) set x → n ≡ length sets →
      ((s t : Tree) → actions_at actions first ≡ actions_in names s → actions_at actions second ≡ actions_in names t → x ≡ actions_in names (node m s t)) → IsSetBy names m actions first second (sets ++ set ∷ []) n
  set_by_adding m first second set x n is e h = record {
    more = x ∷ [];
    are = set_added set x is;
    known = omega (arith, length-append actions (x ∷ []), are.same);
    set = λ s t a b. get_or_at actions x [] (numbered.other_than numbered.every_action) n (omega (arith, are.same)) ∙ h s t a b;
  }

  -- a set that is there
  pub set_kept : (m : Mark) (first second n : ℕ) → n < length actions → ((s t : Tree) → actions_at actions first ≡ actions_in names s → actions_at actions second ≡ actions_in names t → actions_at actions n ≡ actions_in names (node m s t)) →
      IsSetBy names m actions first second sets n
  set_kept m first second n l h = record {
    more = [];
    are = subst (AreSets names sets) (sym (append-nil actions)) are;
    known = omega (arith, length-append actions [], l);
    set = λ s t a b. ap (λ (xs : List ActionFormula). actions_at xs n) (append-nil actions) ∙ h s t a b;
  }

-- the sets of every action and of none
pub first_sets : (names : List (List ℕ)) (every none : List Bool) (sets : List (List Bool)) → IsSetOf (length names) every numbered.every_action → none ≡ [] → sets ≡ every ∷ none ∷ [] → AreSets names sets (numbered.every_action ∷ none_of_them ∷ [])
first_sets names every none sets h e is = subst (λ (ss : List (List Bool)). AreSets names ss (numbered.every_action ∷ none_of_them ∷ [])) (sym (is ∙ ap (λ (xs : List Bool). every ∷ xs ∷ []) e)) (record {
  same = refl;
  enough = omega arith;
  constants = record { every = refl; none = refl };
  permitted = by_place;
})
  where
    by_place : (n : ℕ) → ArePermitted (length names) (every ∷ [] ∷ []) n (actions_at (numbered.every_action ∷ none_of_them ∷ []) n)
    by_place zero = h
    by_place (suc zero) = λ a l. refl
    by_place (suc (suc n)) = λ a l. refl

pub full_set : (count n : ℕ) (set : List Bool) → n ≡ count → HasValues (λ a. true) n set → IsSetOf count set numbered.every_action
full_set count n set e h = λ a l. h.each a (omega (arith, e, l))

-- ---- the sets of marks

module _ (names : List (List ℕ)) (actions : List ActionFormula) (first second : ℕ) where
  pub every_mark : HasConstants actions → IsActionsOf names marks.EveryAction actions first second (actions_at actions 0)
  every_mark constants = λ s t a b. constants.every

  pub label_mark : (label : Label) → IsActionsOf names (marks.Action label) actions first second (actions_named label 0 names)
  label_mark label = λ s t a b. refl

  pub other_mark : IsActionsOf names marks.OtherThan actions first second (numbered.other_than (actions_at actions second))
  other_mark = λ s t a b. ap numbered.other_than b

  pub will_mark : IsActionsOf names marks.Will actions first second (numbered.other_than (actions_at actions second))
  will_mark = λ s t a b. ap numbered.other_than b

  pub both_mark : IsActionsOf names marks.BothOf actions first second (numbered.both_of (actions_at actions first) (actions_at actions second))
  both_mark = λ s t a b. ap₂ numbered.both_of a b

  pub either_mark : IsActionsOf names marks.EitherOf actions first second (numbered.either_of (actions_at actions first) (actions_at actions second))
  either_mark = λ s t a b. ap₂ numbered.either_of a b

-- a mark that has no actions of its own
pub record IsNoAction (m : Mark) : Type 0 where
  pub every : m ≡ marks.EveryAction → ⊥
  pub label : (l : Label) → m ≡ marks.Action l → ⊥
  pub other : m ≡ marks.OtherThan → ⊥
  pub will : m ≡ marks.Will → ⊥
  pub both : m ≡ marks.BothOf → ⊥
  pub either : m ≡ marks.EitherOf → ⊥

none_in : (names : List (List ℕ)) (m : Mark) (s t : Tree) → IsNoAction m → actions_in names (node m s t) ≡ none_of_them
none_in names marks.EveryAction s t h = absurd (h.every refl)
none_in names (marks.Action l) s t h = absurd (h.label l refl)
none_in names marks.OtherThan s t h = absurd (h.other refl)
none_in names marks.Will s t h = absurd (h.will refl)
none_in names marks.BothOf s t h = absurd (h.both refl)
none_in names marks.EitherOf s t h = absurd (h.either refl)
none_in names m s t h = refl

pub no_action_mark : (names : List (List ℕ)) (m : Mark) (actions : List ActionFormula) (first second : ℕ) → HasConstants actions → IsNoAction m → IsActionsOf names m actions first second (actions_at actions 1)
no_action_mark names m actions first second constants h = λ s t a b. constants.none ∙ sym (none_in names m s t h)
