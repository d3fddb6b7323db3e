-- The shares of a range, over the variables that stand there.
use Rattle.std.proofs.Common.{◌≡◌, ℕ, zero, suc, ◌+◌, ◌-◌, ◌<◌, ◌≤◌, ◌⊎◌, inl, inr, min, max, cond, ltb, Option, Some, None, List, [], ◌∷◌, length, take, reverse, get_or, refl, sym, ap, ◌∙◌, arith, lt-ltb, le-ltb}
use Rattle.std.proofs.lemmas.Bool.{cases_lt}
use Rattle.std.proofs.lemmas.List.{take_more, reverse-append}
use Rattle.vpg_normal.specs.Ranks.{crossed, if_names, share_of, greatest_share, noted, named_from}
use Rattle.vpg_normal.proofs.Ranked.{shares_after}

-- the greatest share of the variables of a list before a place; the first that isn't before it ends the list
abbrev pub greatest_along : List (Option ℕ) → List (Option ℕ) → List ℕ → ℕ → ℕ → List ℕ → ℕ
greatest_along scopes fixpoints priorities m end [] = 0
greatest_along scopes fixpoints priorities m end (v ∷ vs) =
    cond (ltb v end) (max (share_of scopes fixpoints priorities m v) (greatest_along scopes fixpoints priorities m end vs)) 0

module _ (scopes fixpoints : List (Option ℕ)) (priorities : List ℕ) (m end : ℕ) where
  along_past : (from n : ℕ) → end ≤ from → greatest_along scopes fixpoints priorities m end (named_from fixpoints from n) ≡ 0
  along_past from zero past = refl
  along_past from (suc n) past = by_named (get_or fixpoints from None) (along_past (suc from) n (omega arith))
    where
      by_named : (o : Option ℕ) → greatest_along scopes fixpoints priorities m end (named_from fixpoints (suc from) n) ≡ 0 →
          greatest_along scopes fixpoints priorities m end (noted o from (named_from fixpoints (suc from) n)) ≡ 0
      by_named None h = h
      by_named (Some k) h = rw (le-ltb from end past) refl

  -- a place more before them
  one_before : (from : ℕ) (vs : List ℕ) (o : Option ℕ) → from < end → get_or fixpoints from None ≡ o →
      greatest_along scopes fixpoints priorities m end (noted o from vs) ≡ max (share_of scopes fixpoints priorities m from) (greatest_along scopes fixpoints priorities m end vs)
  one_before from vs None inside e = omega (arith, ap (if_names m (crossed scopes priorities m from (get_or scopes from None))) e)
  one_before from vs (Some k) inside e = rw (lt-ltb from end inside) refl

  along_is : (from n : ℕ) → greatest_along scopes fixpoints priorities m end (named_from fixpoints from n) ≡ greatest_share scopes fixpoints priorities m from (min n (end - from))
  along_is from zero = ap (greatest_share scopes fixpoints priorities m from) (let e : 0 ≡ min 0 (end - from) = omega arith in e)
  along_is from (suc n) = decide (cases_lt from end) (along_is (suc from) n)
    where
      decide : (from < end) ⊎ (end ≤ from) → greatest_along scopes fixpoints priorities m end (named_from fixpoints (suc from) n) ≡ greatest_share scopes fixpoints priorities m (suc from) (min n (end - suc from)) →
          greatest_along scopes fixpoints priorities m end (named_from fixpoints from (suc n)) ≡ greatest_share scopes fixpoints priorities m from (min (suc n) (end - from))
      decide (inr past) h = along_past from (suc n) past ∙ ap (greatest_share scopes fixpoints priorities m from) (let e : 0 ≡ min (suc n) (end - from) = omega arith in e)
      decide (inl inside) h = one_before from (named_from fixpoints (suc from) n) (get_or fixpoints from None) inside refl ∙ ap (max (share_of scopes fixpoints priorities m from)) h ∙
          sym (shares_after [] scopes fixpoints priorities m from (min n (end - suc from))) ∙ ap (greatest_share scopes fixpoints priorities m from) (let e : suc (min n (end - suc from)) ≡ min (suc n) (end - from) = omega arith in e)

  pub along_whole : (from n size : ℕ) (vs : List ℕ) → vs ≡ named_from fixpoints from n → end ≡ from + size → size ≤ n → greatest_along scopes fixpoints priorities m end vs ≡ greatest_share scopes fixpoints priorities m from size
  along_whole from n size vs is at fits = ap (greatest_along scopes fixpoints priorities m end) is ∙ along_is from n ∙ ap (greatest_share scopes fixpoints priorities m from) (let e : min n (end - from) ≡ size = omega arith in e)

  pub along_step : (xs : List ℕ) (left place : ℕ) → left ≡ place + 1 → place < length xs → get_or xs place 0 < end →
      greatest_along scopes fixpoints priorities m end (reverse (take left xs)) ≡ max (share_of scopes fixpoints priorities m (get_or xs place 0)) (greatest_along scopes fixpoints priorities m end (reverse (take place xs)))
  along_step xs left place next l inside = rw (next, take_more xs place 0 l, reverse-append (take place xs) (get_or xs place 0 ∷ []), lt-ltb (get_or xs place 0) end inside) refl

  pub along_stop : (xs : List ℕ) (left place : ℕ) → left ≡ place + 1 → place < length xs → end ≤ get_or xs place 0 → greatest_along scopes fixpoints priorities m end (reverse (take left xs)) ≡ 0
  along_stop xs left place next l past = rw (next, take_more xs place 0 l, reverse-append (take place xs) (get_or xs place 0 ∷ []), le-ltb (get_or xs place 0) end past) refl

-- ---- the places of variables, one place further to the front

pub named_turn : (fixpoints : List (Option ℕ)) (at place n : ℕ) (xs ys : List ℕ) → at ≡ place + 1 → place < n → xs ≡ named_from fixpoints at (n - at) → ys ≡ noted (get_or fixpoints place None) place xs →
    ys ≡ named_from fixpoints place (n - place)
named_turn fixpoints at place n xs ys next inside h is =
    is ∙ ap (noted (get_or fixpoints place None) place) (h ∙ ap (λ (j : ℕ). named_from fixpoints j (n - at)) (let e : at ≡ suc place = omega arith in e)) ∙
    ap (named_from fixpoints place) (let e : suc (n - at) ≡ n - place = omega arith in e)
