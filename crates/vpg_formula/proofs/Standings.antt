-- Visiting the marks of a formula from the last one on finds how its names stand.
use Rattle.std.proofs.Common.{◌≡◌, ℕ, suc, Bool, true, false, cond, List, [], ◌∷◌, ◌++◌, Option, Some, None, refl, sym, ap, ◌∙◌, append_assoc}
use Rattle.std.specs.Prelude.{is_some, option_map, ◌||◌}
use Rattle.std.specs.List.{list_any}
use Rattle.std.proofs.lemmas.List.{append-nil}
use Rattle.vpg_formula.specs.Regular.{Regular, every_action, no_action, action, other_than, both_of, either_of, sequence, choice, repeated, repeated_once}
use Rattle.vpg_formula.specs.Written.{Prefix, negated, some_path, every_path, always, never, possibly, inevitably, again_and_again, after, Fixpoint, mu, nu, Written, constant, named, deadlock_free, can, will, prefixed, conjunction, disjunction, implication, binding}
use Rattle.vpg_formula.specs.Marks.{regular_marks, prefix_marks, prefix_mark, binder_mark, written_marks}
use Rattle.vpg_formula.specs.Standings.{Context, nothing_around, negated_in, inside, behind_prefix, uses, is_like, has}
use Rattle.vpg_formula.specs.EntryReading.{Visit, step, visit, standings_of, first_like}
use Rattle.vpg_formula.specs.declared.mark.Mark.{Mark}
use Rattle.vpg_formula.specs.declared.mark.Mark.TheVariants as marks
use Rattle.vpg_formula.specs.declared.uses.Standing.{Standing}

module _ (earlier : List (List ℕ)) where
  pub visit_append : (xs ys : List Mark) (v : Visit) → visit earlier (xs ++ ys) v ≡ visit earlier xs (visit earlier ys v)
  visit_append [] ys v = refl
  visit_append (x ∷ xs) ys v = ap (step earlier x) (visit_append xs ys v)

  -- marks, and one behind them
  one : (xs : List Mark) (mark : Mark) (v w u : Visit) → step earlier mark v ≡ w → visit earlier xs w ≡ u → visit earlier (xs ++ mark ∷ []) v ≡ u
  one xs mark v w u e f = visit_append xs (mark ∷ []) v ∙ ap (visit earlier xs) e ∙ f

  two : (xs ys : List Mark) (mark : Mark) (v w u t : Visit) → step earlier mark v ≡ w → visit earlier ys w ≡ u → visit earlier xs u ≡ t → visit earlier (xs ++ (ys ++ mark ∷ [])) v ≡ t
  two xs ys mark v w u t e f g = visit_append xs (ys ++ mark ∷ []) v ∙ ap (visit earlier xs) (one ys mark v w u e f) ∙ g

  -- regular formulas have no names
  regular_visited : (x : Regular) (v : Visit) → visit earlier (regular_marks x) v ≡ v
  regular_visited every_action v = refl
  regular_visited no_action v = refl
  regular_visited (action label) v = refl
  regular_visited (other_than x) v = one (regular_marks x) marks.OtherThan v v v refl (regular_visited x v)
  regular_visited (both_of x y) v = two (regular_marks x) (regular_marks y) marks.BothOf v v v v refl (regular_visited y v) (regular_visited x v)
  regular_visited (either_of x y) v = two (regular_marks x) (regular_marks y) marks.EitherOf v v v v refl (regular_visited y v) (regular_visited x v)
  regular_visited (sequence x y) v = two (regular_marks x) (regular_marks y) marks.Sequence v v v v refl (regular_visited y v) (regular_visited x v)
  regular_visited (choice x y) v = two (regular_marks x) (regular_marks y) marks.Choice v v v v refl (regular_visited y v) (regular_visited x v)
  regular_visited (repeated x) v = one (regular_marks x) marks.Repeated v v v refl (regular_visited x v)
  regular_visited (repeated_once x) v = one (regular_marks x) marks.RepeatedOnce v v v refl (regular_visited x v)

  prefix_visited : (prefix : Prefix) (v : Visit) → visit earlier (prefix_marks prefix) v ≡ v
  prefix_visited negated v = refl
  prefix_visited (some_path x) v = regular_visited x v
  prefix_visited (every_path x) v = regular_visited x v
  prefix_visited always v = refl
  prefix_visited never v = refl
  prefix_visited possibly v = refl
  prefix_visited inevitably v = refl
  prefix_visited again_and_again v = refl
  prefix_visited (after x) v = regular_visited x v

  prefix_step : (prefix : Prefix) (c : Context) (parts : List Context) (ss : List Standing) → step earlier (prefix_mark prefix) (c ∷ parts, ss) ≡ (behind_prefix prefix c ∷ parts, ss)
  prefix_step negated c parts ss = refl
  prefix_step (some_path x) c parts ss = refl
  prefix_step (every_path x) c parts ss = refl
  prefix_step always c parts ss = refl
  prefix_step never c parts ss = refl
  prefix_step possibly c parts ss = refl
  prefix_step inevitably c parts ss = refl
  prefix_step again_and_again c parts ss = refl
  prefix_step (after x) c parts ss = refl

  binder_step : (kind : Fixpoint) (x : List ℕ) (c : Context) (parts : List Context) (ss : List Standing) → step earlier (binder_mark kind x) (c ∷ parts, ss) ≡ (inside x c ∷ parts, ss)
  binder_step mu x c parts ss = refl
  binder_step nu x c parts ss = refl

  regrouped : (parts : List Context) (xs ys ss : List Standing) → ◌≡◌ {A = Visit} (parts, xs ++ (ys ++ ss)) (parts, (xs ++ ys) ++ ss)
  regrouped parts xs ys ss =
      let with : List Standing → Visit = λ s. (parts, s) in
      ap with (sym (append_assoc xs ys ss))

  pub visited : (f : Written) (c : Context) (parts : List Context) (ss : List Standing) → visit earlier (written_marks f) (c ∷ parts, ss) ≡ (parts, uses earlier c f ++ ss)
  visited (constant true) c parts ss = refl
  visited (constant false) c parts ss = refl
  visited (named x) c parts ss = refl
  visited deadlock_free c parts ss = refl
  visited (can x) c parts ss = one (regular_marks x) marks.Can (c ∷ parts, ss) (parts, ss) (parts, ss) refl (regular_visited x (parts, ss))
  visited (will x) c parts ss = one (regular_marks x) marks.Will (c ∷ parts, ss) (parts, ss) (parts, ss) refl (regular_visited x (parts, ss))
  visited (prefixed prefix f) c parts ss =
      let after : Visit = (parts, uses earlier (behind_prefix prefix c) f ++ ss) in
      two (prefix_marks prefix) (written_marks f) (prefix_mark prefix) (c ∷ parts, ss) (behind_prefix prefix c ∷ parts, ss) after after
      (prefix_step prefix c parts ss) (visited f (behind_prefix prefix c) parts ss) (prefix_visited prefix after)
  visited (conjunction f g) c parts ss =
      two (written_marks f) (written_marks g) marks.And (c ∷ parts, ss) (c ∷ c ∷ parts, ss) (c ∷ parts, uses earlier c g ++ ss) (parts, (uses earlier c f ++ uses earlier c g) ++ ss)
      refl (visited g c (c ∷ parts) ss) (visited f c parts (uses earlier c g ++ ss) ∙ regrouped parts (uses earlier c f) (uses earlier c g) ss)
  visited (disjunction f g) c parts ss =
      two (written_marks f) (written_marks g) marks.Or (c ∷ parts, ss) (c ∷ c ∷ parts, ss) (c ∷ parts, uses earlier c g ++ ss) (parts, (uses earlier c f ++ uses earlier c g) ++ ss)
      refl (visited g c (c ∷ parts) ss) (visited f c parts (uses earlier c g ++ ss) ∙ regrouped parts (uses earlier c f) (uses earlier c g) ss)
  visited (implication f g) c parts ss =
      let d = negated_in c in
      two (written_marks f) (written_marks g) marks.Implies (c ∷ parts, ss) (c ∷ d ∷ parts, ss) (d ∷ parts, uses earlier c g ++ ss) (parts, (uses earlier d f ++ uses earlier c g) ++ ss)
      refl (visited g c (d ∷ parts) ss) (visited f d parts (uses earlier c g ++ ss) ∙ regrouped parts (uses earlier d f) (uses earlier c g) ss)
  visited (binding kind x f) c parts ss =
      let after : Visit = (parts, uses earlier (inside x c) f ++ ss) in
      one (written_marks f) (binder_mark kind x) (c ∷ parts, ss) (inside x c ∷ parts, ss) after (binder_step kind x c parts ss) (visited f (inside x c) parts ss)

  pub standings_are : (f : Written) → standings_of earlier (written_marks f) ≡ uses earlier nothing_around f
  standings_are f = ap (λ (v : Visit). v.1) (visited f nothing_around [] []) ∙ append-nil (uses earlier nothing_around f)

pub first_is_any : (wanted : Standing) (ss : List Standing) → is_some (first_like wanted ss) ≡ list_any (is_like wanted) ss
first_is_any wanted [] = refl
first_is_any wanted (s ∷ ss) = go (is_like wanted s) (first_like wanted ss) (first_is_any wanted ss)
  where
    go : (t : Bool) (o : Option ℕ) → is_some o ≡ list_any (is_like wanted) ss → is_some (cond t (Some 0) (option_map suc o)) ≡ t || list_any (is_like wanted) ss
    go true o e = refl
    go false None e = e
    go false (Some n) e = e

-- whether a formula has such a name, by its marks
pub has_by_marks : (wanted : Standing) (earlier : List (List ℕ)) (f : Written) → is_some (first_like wanted (standings_of earlier (written_marks f))) ≡ has wanted earlier f
has_by_marks wanted earlier f = first_is_any wanted (standings_of earlier (written_marks f)) ∙ ap (list_any (is_like wanted)) (standings_are earlier f)
