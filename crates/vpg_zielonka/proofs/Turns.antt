-- A round of the recursion, in the game of one product: who has the parity of the greatest priority wins everywhere, or
-- what the opponent wins in the rest it wins in the whole.
use Rattle.std.proofs.Common.{◌≡◌, ℕ, ◌<◌, ◌≤◌, ◌⊎◌, inl, inr, false, refl, sym, ◌∙◌, subst, Option, Some, None}
use Rattle.vpg_sides.specs.declared.player.Player.{Player}
use Rattle.vpg_sides.specs.Players.{WinsAt, opponent}
use Rattle.vpg_hope.specs.Games.{Game, HasEdge, owner_of, priority_of}
use Rattle.vpg_hope.specs.Strategies.{Strategy}
use Rattle.vpg_hope.proofs.Dual.{opponent_twice}
use Rattle.vpg_hope.proofs.Reach.{cases_player, not_opponent}
use Rattle.vpg_determined.proofs.Masks.{Decided, Mask, In, Out, is_in}
use Rattle.vpg_determined.proofs.Dominions.{first_step, mix, IsUnion, Stride, HasMove, IsDominion, join, everywhere}
use Rattle.vpg_determined.proofs.Solved.{Nowhere, nothing_won}
use Rattle.vpg_zielonka.specs.Solutions.{IsSolution}
use Rattle.vpg_zielonka.specs.Attractors.{IsAttractor, IsRest, IsJoined}
use Rattle.vpg_zielonka.proofs.Attractions.{drawn_in}
use Rattle.vpg_zielonka.specs.Rounds.{AreTops, IsLive}
use Rattle.vpg_zielonka.proofs.Solutions.{of_rest, split, beside, others_won, lifted}

same_player : (p q : Player) → Decided (p ≡ q)
same_player p q = of (cases_player p q)
  where
    of : (p ≡ q) ⊎ (p ≡ opponent q) → Decided (p ≡ q)
    of (inl e) = inl e
    of (inr e) = inr (λ f. not_opponent q (sym e ∙ f))

module _ (game : Game) (n : ℕ) (p : Player) (mask seeds set left : Mask) (wins : Player → Mask) (d : ℕ)
    (below : (v : ℕ) → In mask v → v < n) (live : IsLive game mask)
    (greatest : (v : ℕ) → In mask v → priority_of game v ≤ d) (parity : WinsAt p d)
    (tops : AreTops game mask d seeds) (is : IsAttractor game p mask seeds set) (less : IsRest left mask set)
    (solution : IsSolution game left wins) where
  abbrev Leaves : ℕ → ℕ → Type 0
  Leaves v w = priority_of game v ≡ d

  -- any move that is left
  picked : (v : ℕ) → Decided (In mask v) → Decided (owner_of game v ≡ p) → Option ℕ
  picked v (inl m) (inl o) = Some (live v m).0
  picked v (inl m) (inr o) = None
  picked v (inr m) o = None

  picked_moves : (v : ℕ) → In mask v → owner_of game v ≡ p →
      (a : Decided (In mask v)) (c : Decided (owner_of game v ≡ p)) →
      (w : ℕ) × (picked v a c ≡ Some w) × HasEdge game v w × In mask w
  unfolding picked
  picked_moves v m o (inl k) (inl j) = ((live v k).0, refl, (live v k).1, (live v k).2)
  picked_moves v m o (inl k) (inr j) = absurd (j o)
  picked_moves v m o (inr k) c = absurd (k m)

  any_move : Strategy
  any_move v = picked v (is_in mask v) (same_player (owner_of game v) p)

  -- the player can go on from the vertices of the greatest priority
  tops_won : IsDominion game p mask Leaves (In seeds) any_move
  unfolding any_move
  tops_won = record {
    inside = tops.inside;
    chosen = λ v e o. chosen v e
        (picked_moves v (tops.inside v e) o (is_in mask v) (same_player (owner_of game v) p));
    answered = λ v e o w edge m. inl (tops.priority v e);
    cycles = λ v m r. absurd (never (first_step (Stride game p Leaves (In seeds) any_move) (priority_of game) r));
  }
    where
      chosen : (v : ℕ) → In seeds v → (w : ℕ) × (any_move v ≡ Some w) × HasEdge game v w × In mask w →
          HasMove game p mask Leaves (In seeds) any_move v
      chosen v e w = (w.0, w.1, w.2, w.3, inl (tops.priority v e))

      never : {v : ℕ} → (w : ℕ) × Stride game p Leaves (In seeds) any_move v w → ⊥
      never {v} w = w.1.stays (tops.priority v w.1.at)

  drawn : (u : Strategy) × IsDominion game p mask Leaves (In set) u
  drawn = drawn_in game p mask n Leaves seeds set any_move tops_won is below

  -- where the opponent wins nothing of the rest, the player wins everywhere
  module _ (none : (v : ℕ) → Out (wins (opponent p)) v) where
    all_moves : Strategy
    all_moves = mix set drawn.0 solution.moves

    union : IsUnion set (In (wins p)) (In mask)
    union = record {
      split = λ v m. of v (split left mask set less v m (is_in set v));
      left = drawn.1.inside;
      right = λ v h. (of_rest left mask set less v ((solution.won p).inside v h)).0;
    }
      where
        found : (v : ℕ) → (q : Player) × In (wins q) v → In (wins p) v
        found v q = named (cases_player q.0 p)
          where
            named : (q.0 ≡ p) ⊎ (q.0 ≡ opponent p) → In (wins p) v
            named (inl e) = subst (λ y. In (wins y) v) e q.1
            named (inr e) = absurd (none v (subst (λ y. In (wins y) v) e q.1))

        of : (v : ℕ) → In set v ⊎ In left v → In set v ⊎ In (wins p) v
        of v (inl e) = inl e
        of v (inr e) = inr (found v (solution.each v e))

    all_own : IsDominion game p mask Nowhere (In mask) all_moves
    unfolding all_moves
    all_own =
        everywhere game p mask (In mask) (mix set drawn.0 solution.moves) d
        (join game p mask set Leaves (In (wins p)) (In mask) drawn.0 solution.moves drawn.1
        (beside_tops (solution.won p))
        (λ v h. (of_rest left mask set less v ((solution.won p).inside v h)).1) union)
        (λ v m. m) greatest parity
      where
        beside_tops : IsDominion game p left Nowhere (In (wins p)) solution.moves →
            IsDominion game p mask (λ v w. In set w) (In (wins p)) solution.moves
        beside_tops won = beside game p mask set left (wins p) solution.moves less won

    pub all_won : (more : Player → Mask) → ((v : ℕ) → more p v ≡ mask v) → ((v : ℕ) → more (opponent p) v ≡ false) →
        IsSolution game mask more
    all_won more own other = record {
      moves = all_moves;
      won = λ q. of q (cases_player q p);
      each = λ v m. (p, own v ∙ m);
      apart = λ q v a b. not_both q v (cases_player q p) a b;
    }
      where
        of : (q : Player) → (q ≡ p) ⊎ (q ≡ opponent p) → IsDominion game q mask Nowhere (In (more q)) all_moves
        of q (inl e) = subst (λ y. IsDominion game y mask Nowhere (In (more y)) all_moves) (sym e)
            (subst (λ (m : Mask). IsDominion game p mask Nowhere (In m) all_moves) (λ i v. sym (own v) i) all_own)
        of q (inr e) = subst (λ y. IsDominion game y mask Nowhere (In (more y)) all_moves) (sym e)
            (nothing_won game (opponent p) mask (In (more (opponent p))) all_moves (λ v h. cc (other v, h)))

        not_both : (q : Player) (v : ℕ) → (q ≡ p) ⊎ (q ≡ opponent p) → In (more q) v → In (more (opponent q)) v → ⊥
        not_both q v (inl e) a b = lost (other v) (subst (λ y. In (more (opponent y)) v) e b)
          where
            lost : more (opponent p) v ≡ false → In (more (opponent p)) v → ⊥
            lost f h = cc (f, h)
        not_both q v (inr e) a b = lost (other v) (subst (λ y. In (more y) v) e a)
          where
            lost : more (opponent p) v ≡ false → In (more (opponent p)) v → ⊥
            lost f h = cc (f, h)

  -- Where it wins something, the opponent's attractor of it is the opponent's, and what is left is to be solved.
  module _ (drawn_set : Mask) (others_is : IsAttractor game (opponent p) mask (wins (opponent p)) drawn_set)
      (left_over : Mask) (less_over : IsRest left_over mask drawn_set) (inner more : Player → Mask)
      (mine : IsJoined (more (opponent p)) drawn_set (inner (opponent p)))
      (own : (v : ℕ) → more p v ≡ inner p v) (again : IsSolution game left_over inner) where
    pub without_others : IsSolution game mask more
    without_others =
        lifted game n (opponent p) mask (wins (opponent p)) drawn_set left_over inner more solution.moves below
        (others_won game p mask seeds set left (wins (opponent p)) solution.moves solution.moves is less
        (solution.won (opponent p)) (λ v h. refl)) others_is less_over mine
        (λ v. subst (λ y. more y v ≡ inner y v) (sym (opponent_twice p)) (own v)) again
