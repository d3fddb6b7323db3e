-- The entries of a desk's pages are of the diagram's features and the game's vertices.
use Rattle.std.proofs.Common.{◌≡◌, ℕ, zero, suc, ◌<◌, ◌≤◌, ◌⊎◌, inl, inr, max, Bool, true, false, ◌&&◌, ◌||◌, ◌==◌, List, [], ◌∷◌, ◌++◌, length, get_or, All, IsTrue, refl, sym, ap, ◌∙◌, subst, arith, append_assoc, eq-eqb}
use Rattle.std.specs.Prelude.{if◌then◌else◌}
use Rattle.std.specs.Bool.{beq}
use Rattle.std.specs.List.{AllByRecursion}
use Rattle.std.proofs.lemmas.Bool.{cases_lt}
use Rattle.std.proofs.lemmas.List.{get_or_past}
use Rattle.vpg_guards.specs.Formula.{Formula}
use Rattle.vpg_guards.specs.Known.{kleene}
use Rattle.vpg_guards.specs.declared.tri.Tri.{Tri}
use Rattle.vpg_diagram.specs.FeatureDiagram.{feature_count}
use Rattle.vpg_partial.specs.TableLaws.{IsKnownTable, AreChoicesOf}
use Rattle.vpg_measure.specs.TwoGames.{IsProgressOf}
use Rattle.vpg_measure.proofs.TwoGames.{arena_length, tops, tops_progress}
use Rattle.vpg_trail.specs.Page.{Which, Hopeful, Dual, Literal, Lift, Entry, Decided, Lifted, literal_of, choices_of, value_at, same_table, same_literal, stands}
use Rattle.vpg_trail.specs.WellFormed.{StandsAfter, IsWellFormed, IsWellFormedAfter}
use Rattle.vpg_trail.proofs.PageLemmas.{choices_of-append, value_at-append, same_literal-true}
use Rattle.vpg_desk.specs.Headline.{Tells}
use Rattle.vpg_desk.specs.Setting.{Setting, IsSetting}
use Rattle.vpg_desk.proofs.Deciding.{choices_inside}
use Rattle.vpg_desk.proofs.Sound.{sound_of}
use Rattle.vpg_texts.specs.Scene.{EntryIsWithin}

-- ---- features

front : (P : Literal → Type 0) (xs ys : List Literal) → AllByRecursion P (xs ++ ys) → AllByRecursion P xs
front P [] ys all = tt
front P (x ∷ xs) ys all = (all.0, front P xs ys all.1)

back : (P : Literal → Type 0) (xs ys : List Literal) → AllByRecursion P (xs ++ ys) → AllByRecursion P ys
back P [] ys all = all
back P (x ∷ xs) ys all = back P xs ys all.1

standing_below : (n : ℕ) (choices : List Literal) (c : Literal) → AllByRecursion (λ c. c.feature < n) choices → IsTrue (stands choices c) → c.feature < n
standing_below n [] c all h = absurd (clash h)
  where
    clash : false ≡ true → ⊥
    clash e = cc
standing_below n (x ∷ choices) c all h = decide (same_literal c x) refl h (standing_below n choices c all.1)
  where
    decide : (b : Bool) → same_literal c x ≡ b → (b || stands choices c) ≡ true → (IsTrue (stands choices c) → c.feature < n) → c.feature < n
    decide true e k rest = subst (λ (y : Literal). y.feature < n) (sym (same_literal-true c x e)) all.0
    decide false e k rest = rest k

same_self : (c : Literal) → same_literal c c ≡ true
same_self c = of c.value (eq-eqb c.feature c.feature refl)
  where
    of : (v : Bool) → (c.feature == c.feature) ≡ true → ((c.feature == c.feature) && beq v v) ≡ true
    of true e = rw e refl
    of false e = rw e refl

each_stands : (choices : List Literal) (k : ℕ) (d : Literal) → k < length choices → IsTrue (stands choices (get_or choices k d))
each_stands [] k d l = absurd (omega (arith, l))
each_stands (x ∷ choices) zero d l = ap (λ (b : Bool). b || stands choices x) (same_self x)
each_stands (x ∷ choices) (suc k) d l = of (same_literal (get_or choices k d) x) (each_stands choices k d (omega (arith, l)))
  where
    of : (b : Bool) → stands choices (get_or choices k d) ≡ true → (b || stands choices (get_or choices k d)) ≡ true
    of true e = refl
    of false e = e

-- ---- vertices

same_which : (table : Which) → same_table table table ≡ true
same_which Hopeful = refl
same_which Dual = refl

lift_reaches : (l : Lift) (rest : List Entry) → l.new ≤ value_at l.table l.vertex (Lifted l ∷ rest)
lift_reaches l rest = of _ (ap (λ (b : Bool). b && (l.vertex == l.vertex)) (same_which l.table) ∙ eq-eqb l.vertex l.vertex refl)
  where
    of : (b : Bool) → b ≡ true → l.new ≤ max (if b then l.new else 0) (value_at l.table l.vertex rest)
    of true e = omega arith
    of false e = absurd (cc e)

module _ (setting : Setting) (is_setting : IsSetting setting) (page : List Entry) (tells : Tells setting page) where
  inside : AreChoicesOf setting.lines (choices_of page)
  inside = choices_inside setting (choices_of page) tells.consistent

  known : (known : List Tri) × IsKnownTable setting.lines (choices_of page) known
  known = (sound_of setting is_setting).exists (choices_of page) tells.consistent

  past_is_zero : (which : Which) (v : ℕ) → length setting.game ≤ v → value_at which v page ≤ 0
  past_is_zero which v past =
      let progress : IsProgressOf (kleene known.0) which setting.game (tops Formula (kleene known.0) which setting.game) = tops_progress Formula (kleene known.0) which setting.game in
      subst (λ n. value_at which v page ≤ n)
      (get_or_past (tops Formula (kleene known.0) which setting.game) v 0 (subst (λ n. n ≤ v) (sym (progress.is_table.len ∙ arena_length Formula (kleene known.0) which setting.game)) past))
      (tells.below which v (tops Formula (kleene known.0) which setting.game) (known.0, (known.1, progress)))

  entry_within : (before rest : List Entry) (e : Entry) → before ++ e ∷ rest ≡ page → StandsAfter before e → EntryIsWithin (feature_count setting.lines) (length setting.game) e
  entry_within before rest (Decided d) is s =
      (back (λ c. c.feature < feature_count setting.lines) (choices_of before) (literal_of d ∷ choices_of rest)
      (subst (λ (cs : List Literal). AreChoicesOf setting.lines cs) (ap choices_of (sym is) ∙ choices_of-append before (Decided d ∷ rest)) inside)).0
  entry_within before rest (Lifted l) is s = (vertex (cases_lt l.vertex (length setting.game)), λ k d m. standing_below (feature_count setting.lines) (choices_of before) (get_or l.under k d) before_inside (s.1 (get_or l.under k d) (each_stands l.under k d m)))
    where
      before_inside : AreChoicesOf setting.lines (choices_of before)
      before_inside = front (λ c. c.feature < feature_count setting.lines) (choices_of before) (choices_of rest)
          (subst (λ (cs : List Literal). AreChoicesOf setting.lines cs) (ap choices_of (sym is) ∙ choices_of-append before (Lifted l ∷ rest)) inside)

      vertex : (l.vertex < length setting.game) ⊎ (length setting.game ≤ l.vertex) → l.vertex < length setting.game
      vertex (inl below) = below
      vertex (inr past) = absurd (omega (
        arith,
        past_is_zero l.table l.vertex past,
        lift_reaches l rest,
        ap (λ (p : List Entry). value_at l.table l.vertex p) (sym is) ∙ value_at-append l.table l.vertex before (Lifted l ∷ rest),
        s.0.1,
      ))

  within_after : (before rest : List Entry) → before ++ rest ≡ page → IsWellFormedAfter before rest → All (EntryIsWithin (feature_count setting.lines) (length setting.game)) rest
  within_after before [] is formed k d l = absurd (omega (arith, l))
  within_after before (e ∷ rest) is formed zero d l = entry_within before rest e is formed.0
  within_after before (e ∷ rest) is formed (suc k) d l = within_after (before ++ e ∷ []) rest (append_assoc before (e ∷ []) rest ∙ is) formed.1 k d (omega (arith, l))

  pub entries_within : IsWellFormed page → All (EntryIsWithin (feature_count setting.lines) (length setting.game)) page
  entries_within formed = within_after [] page refl formed
