-- Where the moves that are allowed lead.
use Rattle.std.proofs.Common.{◌≡◌, ℕ, ◌⊎◌, inl, inr, Bool, true, false, cond, List, [], ◌∷◌, Option, Some, None, Contains, refl, sym, ap, ◌∙◌, subst}
use Rattle.std.specs.Prelude.{filter}
use Rattle.std.proofs.lemmas.Bool.{cases_Bool, eqb-true, eq-eqb, false≢true}
use Rattle.vpg_sides.specs.declared.player.Player.{Player}
use Rattle.vpg_sides.specs.declared.player.Player.TheVariants.{Even, Odd}
use Rattle.vpg_hope.specs.Games.{Game, owner_of, successors_of}
use Rattle.vpg_hope.proofs.Edges.{Contains-cases, Contains-first, Contains-later, not_in_nil}
use Rattle.vpg_measure.specs.Views.{strategy_of}
use Rattle.vpg_trace.specs.Traces.{Moves}
use Rattle.vpg_trace.specs.Walks.{allows, moves_from}

-- ---- filters

module _ {X : Type 0} (test : X → Bool) where
  filter_yes : (x : X) (xs : List X) → test x ≡ true → filter test (x ∷ xs) ≡ x ∷ filter test xs
  filter_yes x xs e = ap (λ (b : Bool). cond b (x ∷ filter test xs) (filter test xs)) e

  filter_no : (x : X) (xs : List X) → test x ≡ false → filter test (x ∷ xs) ≡ filter test xs
  filter_no x xs e = ap (λ (b : Bool). cond b (x ∷ filter test xs) (filter test xs)) e

  pub filtered : (xs : List X) (y : X) → Contains (filter test xs) y → Contains xs y × (test y ≡ true)
  filtered [] y c = absurd (not_in_nil y c)
  filtered (x ∷ xs) y c = at (cases_Bool (test x)) (filtered xs y)
    where
      later : Contains xs y × (test y ≡ true) → Contains (x ∷ xs) y × (test y ≡ true)
      later h = (Contains-later x xs y h.0, h.1)

      first : (Contains (filter test xs) y → Contains xs y × (test y ≡ true)) → test x ≡ true → (x ≡ y) ⊎ Contains (filter test xs) y → Contains (x ∷ xs) y × (test y ≡ true)
      first rest t (inl e) = (subst (λ (z : X). Contains (x ∷ xs) z) e (Contains-first x xs), subst (λ (z : X). test z ≡ true) e t)
      first rest t (inr d) = later (rest d)

      at : (test x ≡ true) ⊎ (test x ≡ false) → (Contains (filter test xs) y → Contains xs y × (test y ≡ true)) → Contains (x ∷ xs) y × (test y ≡ true)
      at (inl t) rest = first rest t (Contains-cases x (filter test xs) y (subst (λ (zs : List X). Contains zs y) (filter_yes x xs t) c))
      at (inr f) rest = later (rest (subst (λ (zs : List X). Contains zs y) (filter_no x xs f) c))

  pub kept : (xs : List X) (y : X) → Contains xs y → test y ≡ true → Contains (filter test xs) y
  kept [] y c t = absurd (not_in_nil y c)
  kept (x ∷ xs) y c t = at (cases_Bool (test x)) (Contains-cases x xs y c) (λ d. kept xs y d t)
    where
      clash : false ≡ true → Contains (filter test (x ∷ xs)) y
      clash e = absurd (false≢true e)

      at : (test x ≡ true) ⊎ (test x ≡ false) → (x ≡ y) ⊎ Contains xs y → (Contains xs y → Contains (filter test xs) y) → Contains (filter test (x ∷ xs)) y
      at (inl t1) (inl e) rest = subst (λ (zs : List X). Contains zs y) (sym (filter_yes x xs t1))
          (subst (λ (z : X). Contains (x ∷ filter test xs) z) e (Contains-first x (filter test xs)))
      at (inl t1) (inr d) rest = subst (λ (zs : List X). Contains zs y) (sym (filter_yes x xs t1)) (Contains-later x (filter test xs) y (rest d))
      at (inr f1) (inl e) rest = clash (sym (sym (ap test e ∙ t) ∙ f1))
      at (inr f1) (inr d) rest = subst (λ (zs : List X). Contains zs y) (sym (filter_no x xs f1)) (rest d)

-- ---- moves

allowed : (owner : Player) (choice : Option ℕ) (w : ℕ) → allows owner choice w ≡ true → owner ≡ Player.Even → choice ≡ Some w
allowed Odd choice w t e = cc
allowed Even None w t e = absurd (false≢true t)
allowed Even (Some chosen) w t e = ap Some (eqb-true chosen w t)

allows_it : (owner : Player) (choice : Option ℕ) (w : ℕ) → (owner ≡ Player.Even → choice ≡ Some w) → allows owner choice w ≡ true
allows_it Odd choice w h = refl
allows_it Even choice w h = subst (λ (o : Option ℕ). allows Even o w ≡ true) (sym (h refl)) (eq-eqb w w refl)

module _ (game : Game) (moves : List (Option ℕ)) (v w : ℕ) where
  pub is_move : Contains (moves_from game moves v) w → Moves game moves v w
  is_move c =
      let h = filtered (allows (owner_of game v) (strategy_of moves v)) (successors_of game v) w c in
      (h.0, allowed (owner_of game v) (strategy_of moves v) w h.1)

  pub move_in : Moves game moves v w → Contains (moves_from game moves v) w
  move_in m = kept (allows (owner_of game v) (strategy_of moves v)) (successors_of game v) w m.0 (allows_it (owner_of game v) (strategy_of moves v) w m.1)
