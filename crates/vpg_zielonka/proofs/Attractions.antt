-- A computed attractor leaves the player a set from which it wins: the vertices join the seeds one after another.
use Rattle.std.proofs.Common.{◌≡◌, ℕ, zero, suc, ◌<◌, ◌⊎◌, inl, inr, refl, sym, ◌∙◌, subst, Some, None, arith}
use Rattle.std.proofs.lemmas.Bool.{cases_eq}
use Rattle.vpg_sides.specs.declared.player.Player.{Player}
use Rattle.vpg_sides.specs.Players.{opponent}
use Rattle.vpg_hope.specs.Games.{Game, HasEdge, owner_of, priority_of, successors_of}
use Rattle.vpg_hope.specs.Strategies.{Strategy}
use Rattle.vpg_hope.proofs.Reach.{cases_player, not_opponent}
use Rattle.vpg_determined.proofs.Masks.{Decided, test, passed, passes, decide_either, Mask, In, Out, is_in, rest, of_rest, in_rest, size, size_less, search_below, search_list}
use Rattle.vpg_determined.proofs.Dominions.{first_step, mix, IsUnion, Stride, HasMove, IsDominion, join, widen}
use Rattle.vpg_determined.proofs.Growing.{Refuses}
use Rattle.vpg_zielonka.specs.Attractors.{Attracted, IsAttractor, seed, moved, forced}

-- one more
pub adding : ℕ → Mask → Mask
adding x b v = test (decide_either (is_in b v) (cases_eq v x))

adding_union : (x : ℕ) (b : Mask) → IsUnion b (λ v. v ≡ x) (In (adding x b))
unfolding adding
adding_union x b = record {
  split = λ v h. passed (decide_either (is_in b v) (cases_eq v x)) h;
  left = λ v e. passes (decide_either (is_in b v) (cases_eq v x)) (inl e);
  right = λ v e. passes (decide_either (is_in b v) (cases_eq v x)) (inr e);
}

module _ (game : Game) (player : Player) (mask : Mask) where
  -- The player can move into the set, or the opponent can do nothing else.
  abbrev Draws : Mask → ℕ → Type 0
  Draws b v = ((owner_of game v ≡ player) × (w : ℕ) × HasEdge game v w × In mask w × In b w) ⊎
      ((owner_of game v ≡ opponent player) × ((w : ℕ) → HasEdge game v w → In mask w → In b w))

  pub refuses_or_draws : (b : Mask) (v : ℕ) → Refuses game player mask b v ⊎ Draws b v
  refuses_or_draws b v = of (cases_player (owner_of game v) player)
    where
      of : (owner_of game v ≡ player) ⊎ (owner_of game v ≡ opponent player) → Refuses game player mask b v ⊎ Draws b v
      of (inl own) =
          found (search_list (successors_of game v) (λ w. In mask w → Out b w) (λ w. In mask w × In b w)
          (λ w. each w (is_in mask w) (is_in b w)))
        where
          each : (w : ℕ) → Decided (In mask w) → Decided (In b w) → (In mask w → Out b w) ⊎ (In mask w × In b w)
          each w (inl m) (inl e) = inr (m, e)
          each w (inr m) e = inl (λ k. absurd (m k))
          each w m (inr e) = inl (λ k. e)

          found : ((w : ℕ) → HasEdge game v w → In mask w → Out b w) ⊎
              ((w : ℕ) × HasEdge game v w × (In mask w × In b w)) → Refuses game player mask b v ⊎ Draws b v
          found (inl h) = inl (inl (own, h))
          found (inr w) = inr (inl (own, w.0, w.1, w.2.0, w.2.1))
      of (inr other) =
          found (search_list (successors_of game v) (λ w. In mask w → In b w) (λ w. In mask w × Out b w)
          (λ w. each w (is_in mask w) (is_in b w)))
        where
          each : (w : ℕ) → Decided (In mask w) → Decided (In b w) → (In mask w → In b w) ⊎ (In mask w × Out b w)
          each w (inl m) (inr e) = inr (m, e)
          each w (inr m) e = inl (λ k. absurd (m k))
          each w m (inl e) = inl (λ k. e)

          found : ((w : ℕ) → HasEdge game v w → In mask w → In b w) ⊎
              ((w : ℕ) × HasEdge game v w × (In mask w × Out b w)) → Refuses game player mask b v ⊎ Draws b v
          found (inl h) = inr (inr (other, h))
          found (inr w) = inl (inr (other, w.0, w.1, w.2.0, w.2.1))

  -- a vertex from which the player draws each play into a set joins it
  module _ (b : Mask) (x : ℕ) (m : In mask x) (out : Out b x) where
    abbrev Into : ℕ → ℕ → Type 0
    Into v w = In b w

    alone : (t : Strategy) →
        (owner_of game x ≡ player → (w : ℕ) × (t x ≡ Some w) × HasEdge game x w × In mask w × In b w) →
        (owner_of game x ≡ opponent player → (w : ℕ) → HasEdge game x w → In mask w → In b w) →
        IsDominion game player mask Into (λ v. v ≡ x) t
    alone t own other = record {
      inside = λ v e. subst (In mask) (sym e) m;
      chosen = λ v e. subst (λ y. owner_of game y ≡ player → HasMove game player mask Into (λ z. z ≡ x) t y) (sym e)
          (λ o. to (own o));
      answered = λ v e. subst (λ y. owner_of game y ≡ opponent player → (w : ℕ) → HasEdge game y w → In mask w →
          In b w ⊎ (w ≡ x)) (sym e) (λ o w edge k. inl (other o w edge k));
      cycles = λ v k r. absurd (never (first_step (Stride game player Into (λ y. y ≡ x) t) (priority_of game) r));
    }
      where
        to : (w : ℕ) × (t x ≡ Some w) × HasEdge game x w × In mask w × In b w →
            HasMove game player mask Into (λ z. z ≡ x) t x
        to w = (w.0, w.1, w.2, w.3, inl w.4)

        -- no stride leads from it to itself
        self : Stride game player Into (λ y. y ≡ x) t x x → ⊥
        self q = of (cases_player (owner_of game x) player)
          where
            of : (owner_of game x ≡ player) ⊎ (owner_of game x ≡ opponent player) → ⊥
            of (inr o) = out (other o x q.edge m)
            of (inl o) = chosen (own o)
              where
                chosen : (w : ℕ) × (t x ≡ Some w) × HasEdge game x w × In mask w × In b w → ⊥
                chosen w = out (subst (In b) same w.4)
                  where
                    taken : t x ≡ Some x
                    taken = q.taken o

                    same : w.0 ≡ x
                    same = cc (w.1, taken)

        never : {v : ℕ} → (w : ℕ) × Stride game player Into (λ y. y ≡ x) t v w → ⊥
        never {v} w =
            self (subst (λ y. Stride game player Into (λ z. z ≡ x) t x y) w.1.to
            (subst (λ y. Stride game player Into (λ z. z ≡ x) t y w.0) w.1.at w.1))

    drawn : Draws b x → (t : Strategy) × IsDominion game player mask Into (λ v. v ≡ x) t
    drawn (inl d) = (
      λ v. Some d.1,
      alone (λ v. Some d.1) (λ own. (d.1, refl, d.2, d.3, d.4))
          (λ other. absurd (not_opponent player (sym other ∙ d.0))),
    )
    drawn (inr d) = (λ v. None, alone (λ v. None) (λ own. absurd (not_opponent player (sym d.0 ∙ own))) (λ other. d.1))

  -- fewer of a set are missing once one of it has joined
  joined_less : (set b : Mask) (n x : ℕ) → In set x → Out b x → x < n →
      size (rest set (adding x b)) n < size (rest set b) n
  joined_less set b n x e out l = size_less (rest set (adding x b)) (rest set b) n x fewer l
      (λ h. (of_rest set (adding x b) x h).1 ((adding_union x b).right x refl)) (in_rest set b x e out)
    where
      fewer : (v : ℕ) → In (rest set (adding x b)) v → In (rest set b) v
      fewer v h = in_rest set b v (of_rest set (adding x b) v h).0
          (λ k. (of_rest set (adding x b) v h).1 ((adding_union x b).left v k))

  -- outside of the attractor the player can't move in, and the opponent need not
  pub refused : (start set : Mask) → IsAttractor game player mask start set → (v : ℕ) → In mask v → Out set v →
      Refuses game player mask set v
  refused start set is v m out = of (refuses_or_draws set v)
    where
      of : Refuses game player mask set v ⊎ Draws set v → Refuses game player mask set v
      of (inl r) = r
      of (inr (inl d)) = absurd (out ((is v).1 (moved m d.0 d.2 ((is d.1).0 d.4))))
      of (inr (inr d)) = absurd (out ((is v).1 (forced m d.0 (λ w edge k. (is w).0 (d.1 w edge k)))))

  module _ (n : ℕ) (Exit : ℕ → ℕ → Type 0) (start set : Mask) (s : Strategy)
      (won : IsDominion game player mask Exit (In start) s)
      (is : IsAttractor game player mask start set) (below : (v : ℕ) → In mask v → v < n) where
    pub attracted_inside : (v : ℕ) → Attracted game player mask start v → In mask v
    attracted_inside v (seed e) = won.inside v e
    attracted_inside v (moved m o edge r) = m
    attracted_inside v (forced m o all) = m

    -- a set that all of the attractor outside of it refuses has the attractor
    has_all : (b : Mask) → ((v : ℕ) → In start v → In b v) →
        ((v : ℕ) → Attracted game player mask start v → Out b v → Refuses game player mask b v) →
        {v : ℕ} → Attracted game player mask start v → In b v
    has_all b covers refused (seed {v} e) = covers v e
    has_all b covers refused (moved {v} {w} m o edge r) =
        of (is_in b v) (attracted_inside w r) (has_all b covers refused r)
      where
        of : Decided (In b v) → In mask w → In b w → In b v
        of (inl e) k h = e
        of (inr out) k h = split (refused v (moved m o edge r) out)
          where
            split : Refuses game player mask b v → In b v
            split (inl d) = absurd (d.1 w edge k h)
            split (inr d) = absurd (not_opponent player (sym d.0 ∙ o))
    has_all b covers refused (forced {v} m o all) =
        of (is_in b v) (λ w edge k. has_all b covers refused (all w edge k))
      where
        of : Decided (In b v) → ((w : ℕ) → HasEdge game v w → In mask w → In b w) → In b v
        of (inl e) h = e
        of (inr out) h = split (refused v (forced m o all) out)
          where
            split : Refuses game player mask b v → In b v
            split (inl d) = absurd (not_opponent player (sym o ∙ d.0))
            split (inr d) = absurd (d.4 (h d.1 d.2 d.3))

    filled : (fuel : ℕ) (b : Mask) (t : Strategy) → IsDominion game player mask Exit (In b) t →
        ((v : ℕ) → In start v → In b v) → ((v : ℕ) → In b v → In set v) → size (rest set b) n < fuel →
        (u : Strategy) × IsDominion game player mask Exit (In set) u
    filled zero b t dominion covers inside l = absurd (omega arith)
    filled (suc fuel) b t dominion covers inside l =
        next (search_below n (λ v. In set v → Out b v → Refuses game player mask b v)
        (λ v. In set v × Out b v × Draws b v)
        (λ v k. each v (is_in set v) (is_in b v) (refuses_or_draws b v)))
        (λ c u d h k e. filled fuel c u d h k e)
      where
        each : (v : ℕ) → Decided (In set v) → Decided (In b v) → Refuses game player mask b v ⊎ Draws b v →
            (In set v → Out b v → Refuses game player mask b v) ⊎ (In set v × Out b v × Draws b v)
        each v m e (inl d) = inl (λ k o. d)
        each v (inr m) e d = inl (λ k o. absurd (m k))
        each v m (inl e) d = inl (λ k o. absurd (o e))
        each v (inl m) (inr e) (inr d) = inr (m, e, d)

        next : ((v : ℕ) → v < n → In set v → Out b v → Refuses game player mask b v) ⊎
            ((v : ℕ) × (v < n) × (In set v × Out b v × Draws b v)) →
            ((c : Mask) (u : Strategy) → IsDominion game player mask Exit (In c) u → ((v : ℕ) → In start v → In c v) →
            ((v : ℕ) → In c v → In set v) → size (rest set c) n < fuel →
            (u : Strategy) × IsDominion game player mask Exit (In set) u) →
            (u : Strategy) × IsDominion game player mask Exit (In set) u
        next (inl h) again = (
          t,
          widen game player mask mask Exit Exit (In b) (In set) t t dominion (λ v m. m) (λ v w e. e)
              (λ v e. has_all b covers (λ x r out. h x (below x (attracted_inside x r)) ((is x).1 r) out) ((is v).0 e))
              inside (λ v e. refl) (λ v e o w edge m. inr m),
        )
        next (inr x) again = with (drawn b x.0 (attracted_inside x.0 ((is x.0).0 x.2.0)) x.2.1 x.2.2)
          where
            grows : (v : ℕ) → In b v ⊎ (v ≡ x.0) → In set v
            grows v (inl e) = inside v e
            grows v (inr e) = subst (In set) (sym e) x.2.0

            with : (u : Strategy) × IsDominion game player mask (λ v w. In b w) (λ v. v ≡ x.0) u →
                (u : Strategy) × IsDominion game player mask Exit (In set) u
            with u = again (adding x.0 b) (mix b t u.0)
                (join game player mask b Exit (λ v. v ≡ x.0) (In (adding x.0 b)) t u.0 dominion u.1
                (λ v e. subst (Out b) (sym e) x.2.1) (adding_union x.0 b))
                (λ v e. (adding_union x.0 b).left v (covers v e))
                (λ v e. grows v ((adding_union x.0 b).split v e))
                (omega (arith, joined_less set b n x.0 x.2.0 x.2.1 x.1))

    -- from the attractor of what the player wins it wins
    pub drawn_in : (u : Strategy) × IsDominion game player mask Exit (In set) u
    drawn_in = filled (suc (size (rest set start) n)) start s won (λ v e. e) (λ v e. (is v).1 (seed e)) (omega arith)
