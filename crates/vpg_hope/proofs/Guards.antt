-- The hopeful game favours Even more than the game of each product that agrees with what is known.
use Rattle.std.proofs.Common.{◌≡◌, ℕ, zero, suc, ◌<◌, ◌⊎◌, inl, inr, Bool, true, false, cond, List, [], ◌∷◌, length, map, filter, refl, sym, ap, ◌∙◌, subst, Contains, All, arith}
use Rattle.std.proofs.lemmas.Bool.{cases_Bool}
use Rattle.std.proofs.lemmas.List.{length-map}
use Rattle.vpg_sides.specs.declared.player.Player.{Player}
use Rattle.vpg_sides.specs.declared.player.Player.TheVariants.{Even, Odd}
use Rattle.vpg_guards.specs.declared.tri.Tri.{Tri}
use Rattle.vpg_guards.specs.declared.tri.Tri.TheVariants.{No, Unknown, Yes}
use Rattle.vpg_sides.specs.Players.{opponent}
use Rattle.vpg_hope.specs.Games.{HasEdge, owner_of, priority_of, priorities}
use Rattle.vpg_game.specs.Guarded.{GuardedEdge, GuardedGame, guarded_priorities, IsClosedGuarded, AllGuards, dual}
use Rattle.vpg_hope.specs.Hope.{restrict, product_game, hopeful_game, cautious_game, keeps_in_hope, AgreesWithTruth, Extends, IsFullOf}
use Rattle.vpg_hope.specs.Comparison.{IsEasier, dual_game}
use Rattle.vpg_hope.proofs.Edges.{AreEdgesInside, Contains-cases, Contains-first, Contains-later, not_in_nil}

module _ (Guard : Type 0) where
  abbrev kept_by : (Guard → Bool) → List (GuardedEdge Guard) → List ℕ
  kept_by test edges = map (λ edge. edge.to) (filter (λ edge. test edge.guard) edges)

  kept-true : (test : Guard → Bool) (edge : GuardedEdge Guard) (edges : List (GuardedEdge Guard)) → test edge.guard ≡ true → kept_by test (edge ∷ edges) ≡ edge.to ∷ kept_by test edges
  kept-true test edge edges e = rw e refl

  kept-false : (test : Guard → Bool) (edge : GuardedEdge Guard) (edges : List (GuardedEdge Guard)) → test edge.guard ≡ false → kept_by test (edge ∷ edges) ≡ kept_by test edges
  kept-false test edge edges e = rw e refl

  -- a weaker test keeps no less
  kept_more : (strong weak : Guard → Bool) (edges : List (GuardedEdge Guard)) → All (λ edge. strong edge.guard ≡ true → weak edge.guard ≡ true) edges → (w : ℕ) → Contains (kept_by strong edges) w → Contains (kept_by weak edges) w
  kept_more strong weak [] implies w c = c
  kept_more strong weak (edge ∷ edges) implies w c = decide (cases_Bool (strong edge.guard)) (cases_Bool (weak edge.guard)) (kept_more strong weak edges (λ k d l. implies (suc k) d (omega arith)) w)
    where
      decide : (strong edge.guard ≡ true) ⊎ (strong edge.guard ≡ false) → (weak edge.guard ≡ true) ⊎ (weak edge.guard ≡ false) → (Contains (kept_by strong edges) w → Contains (kept_by weak edges) w) → Contains (kept_by weak (edge ∷ edges)) w
      decide (inl s) t rest = rw (kept-true weak edge edges (implies 0 edge (omega arith) s)) (joined (Contains-cases edge.to (kept_by strong edges) w (rw (kept-true strong edge edges s) at c)))
        where
          joined : (edge.to ≡ w) ⊎ Contains (kept_by strong edges) w → Contains (edge.to ∷ kept_by weak edges) w
          joined (inl e) = subst (λ x. Contains (edge.to ∷ kept_by weak edges) x) e (Contains-first edge.to (kept_by weak edges))
          joined (inr k) = Contains-later edge.to (kept_by weak edges) w (rest k)
      decide (inr s) (inl t) rest = rw (kept-true weak edge edges t) (Contains-later edge.to (kept_by weak edges) w (rest (rw (kept-false strong edge edges s) at c)))
      decide (inr s) (inr t) rest = rw (kept-false weak edge edges t) (rest (rw (kept-false strong edge edges s) at c))

  -- tests that agree on the guards keep the same
  kept_same : (one other : Guard → Bool) (edges : List (GuardedEdge Guard)) → All (λ edge. one edge.guard ≡ other edge.guard) edges → kept_by one edges ≡ kept_by other edges
  kept_same one other [] same = refl
  kept_same one other (edge ∷ edges) same = decide (cases_Bool (other edge.guard)) (same 0 edge (omega arith)) (kept_same one other edges (λ k d l. same (suc k) d (omega arith)))
    where
      decide : (other edge.guard ≡ true) ⊎ (other edge.guard ≡ false) → one edge.guard ≡ other edge.guard → kept_by one edges ≡ kept_by other edges → kept_by one (edge ∷ edges) ≡ kept_by other (edge ∷ edges)
      decide (inl t) e rest = kept-true one edge edges (e ∙ t) ∙ ap (λ l. edge.to ∷ l) rest ∙ sym (kept-true other edge edges t)
      decide (inr f) e rest = kept-false one edge edges (e ∙ f) ∙ rest ∙ sym (kept-false other edge edges f)

  kept_below : (test : Guard → Bool) (n : ℕ) (edges : List (GuardedEdge Guard)) → All (λ edge. edge.to < n) edges → (w : ℕ) → Contains (kept_by test edges) w → w < n
  kept_below test n [] h w c = absurd (not_in_nil w c)
  kept_below test n (edge ∷ edges) h w c = decide (cases_Bool (test edge.guard)) (kept_below test n edges (λ k d l. h (suc k) d (omega arith)) w)
    where
      decide : (test edge.guard ≡ true) ⊎ (test edge.guard ≡ false) → (Contains (kept_by test edges) w → w < n) → w < n
      decide (inl t) rest = joined (Contains-cases edge.to (kept_by test edges) w (rw (kept-true test edge edges t) at c))
        where
          joined : (edge.to ≡ w) ⊎ Contains (kept_by test edges) w → w < n
          joined (inl e) = subst (λ x. x < n) e (h 0 edge (omega arith))
          joined (inr k) = rest k
      decide (inr f) rest = rest (rw (kept-false test edge edges f) at c)

  pub same_owner : (strong weak : Player → Guard → Bool) (game : GuardedGame Guard) (v : ℕ) → owner_of (restrict strong game) v ≡ owner_of (restrict weak game) v
  same_owner strong weak [] v = refl
  same_owner strong weak (x ∷ game) zero = refl
  same_owner strong weak (x ∷ game) (suc v) = same_owner strong weak game v

  pub same_priority : (strong weak : Player → Guard → Bool) (game : GuardedGame Guard) (v : ℕ) → priority_of (restrict strong game) v ≡ priority_of (restrict weak game) v
  same_priority strong weak [] v = refl
  same_priority strong weak (x ∷ game) zero = refl
  same_priority strong weak (x ∷ game) (suc v) = same_priority strong weak game v

  pub same_count : (keeps : Player → Guard → Bool) (game : GuardedGame Guard) → length (restrict keeps game) ≡ length game
  same_count keeps game = simp length-map

  -- a test that keeps no less for who moves keeps each edge
  pub edge_more : (strong weak : Player → Guard → Bool) (player : Player) (game : GuardedGame Guard) → AllGuards (λ guard. strong player guard ≡ true → weak player guard ≡ true) game →
      (v w : ℕ) → owner_of (restrict strong game) v ≡ player → HasEdge (restrict strong game) v w → HasEdge (restrict weak game) v w
  edge_more strong weak player [] implies v w mover c = c
  edge_more strong weak player (x ∷ game) implies zero w mover c =
      kept_more (strong x.owner) (weak x.owner) x.edges (subst (λ p. All (λ edge. strong p edge.guard ≡ true → weak p edge.guard ≡ true) x.edges) (sym mover) (implies 0 x (omega arith))) w c
  edge_more strong weak player (x ∷ game) implies (suc v) w mover c = edge_more strong weak player game (λ k d l. implies (suc k) d (omega arith)) v w mover c

  pub restrict_same : (one other : Player → Guard → Bool) (game : GuardedGame Guard) → AllGuards (λ guard. (player : Player) → one player guard ≡ other player guard) game → restrict one game ≡ restrict other game
  restrict_same one other [] same = refl
  restrict_same one other (x ∷ game) same = joined (kept_same (one x.owner) (other x.owner) x.edges (λ k d l. same 0 x (omega arith) k d l x.owner)) (restrict_same one other game (λ k d l. same (suc k) d (omega arith)))
    where
      joined : kept_by (one x.owner) x.edges ≡ kept_by (other x.owner) x.edges → restrict one game ≡ restrict other game → restrict one (x ∷ game) ≡ restrict other (x ∷ game)
      joined e f = λ i. record { owner = x.owner; priority = x.priority; successors = e i } ∷ f i

  pub restrict_closed : (keeps : Player → Guard → Bool) (game : GuardedGame Guard) → IsClosedGuarded game → AreEdgesInside (restrict keeps game)
  restrict_closed keeps game closed v w c = subst (λ n. w < n) (sym (same_count keeps game)) (below game (length game) closed v w c)
    where
      below : (rest : GuardedGame Guard) (n : ℕ) → All (λ vertex. All (λ edge. edge.to < n) vertex.edges) rest → (v w : ℕ) → HasEdge (restrict keeps rest) v w → w < n
      below [] n h v w c = absurd (not_in_nil w c)
      below (x ∷ rest) n h zero w c = kept_below (keeps x.owner) n x.edges (h 0 x (omega arith)) w c
      below (x ∷ rest) n h (suc v) w c = below rest n (λ k d l. h (suc k) d (omega arith)) v w c

  pub restrict_priorities : (keeps : Player → Guard → Bool) (game : GuardedGame Guard) → priorities (restrict keeps game) ≡ guarded_priorities game
  restrict_priorities keeps [] = refl
  restrict_priorities keeps (x ∷ game) = ap (λ rest. x.priority ∷ rest) (restrict_priorities keeps game)

  pub dual_closed : (game : GuardedGame Guard) → IsClosedGuarded game → IsClosedGuarded (dual game)
  dual_closed game closed = raised game (length (dual game)) (subst (λ n. All (λ vertex. All (λ edge. edge.to < n) vertex.edges) game) (sym dual_count) closed)
    where
      dual_count : length (dual game) ≡ length game
      dual_count = simp length-map

      raised : (rest : GuardedGame Guard) (n : ℕ) → All (λ vertex. All (λ edge. edge.to < n) vertex.edges) rest → All (λ vertex. All (λ edge. edge.to < n) vertex.edges) (dual rest)
      raised [] n h k d l = absurd (omega arith)
      raised (x ∷ rest) n h zero d l = h 0 x (omega arith)
      raised (x ∷ rest) n h (suc k) d l = raised rest n (λ i e j. h (suc i) e (omega arith)) k d (omega arith)

  -- the dual has the same guards
  pub dual_guards : (P : Guard → Type 0) (game : GuardedGame Guard) → AllGuards P game → AllGuards P (dual game)
  dual_guards P [] h k d l = absurd (omega arith)
  dual_guards P (x ∷ game) h zero d l = h 0 x (omega arith)
  dual_guards P (x ∷ game) h (suc k) d l = dual_guards P game (λ i e j. h (suc i) e (omega arith)) k d (omega arith)

  pub product_dual : (truth : Guard → Bool) (game : GuardedGame Guard) → product_game truth (dual game) ≡ dual_game (product_game truth game)
  product_dual truth [] = refl
  product_dual truth (x ∷ game) = ap (λ rest. record { owner = opponent x.owner; priority = suc x.priority; successors = kept_by truth x.edges } ∷ rest) (product_dual truth game)

  module _ (value : Guard → Tri) where
    hope_even : (t : Tri) → (t ≡ No → ⊥) → keeps_in_hope Even t ≡ true
    hope_even No n = absurd (n refl)
    hope_even Unknown n = refl
    hope_even Yes n = refl

    hope_even_from : (t : Tri) → keeps_in_hope Even t ≡ true → t ≡ No → ⊥
    hope_even_from No h e = cc
    hope_even_from Unknown h e = cc
    hope_even_from Yes h e = cc

    hope_odd : (t : Tri) → keeps_in_hope Odd t ≡ true → t ≡ Yes
    hope_odd No h = cc
    hope_odd Unknown h = cc
    hope_odd Yes h = refl

    pub hopeful_easier : (truth : Guard → Bool) (game : GuardedGame Guard) → AgreesWithTruth value truth game → IsEasier (hopeful_game value game) (product_game truth game)
    hopeful_easier truth game agrees = record {
      same_count = same_count hope game ∙ sym (same_count holds game);
      same_owner = same_owner hope holds game;
      same_priority = same_priority hope holds game;
      even = λ v w mover c. edge_more holds hope Even game (λ i d l j e k. may (agrees i d l j e k)) v w mover c;
      odd = λ v w mover c. edge_more hope holds Odd game (λ i d l j e k. must (agrees i d l j e k)) v w (same_owner hope holds game v ∙ mover) c;
    }
      where
        hope : Player → Guard → Bool
        hope mover guard = keeps_in_hope mover (value guard)

        holds : Player → Guard → Bool
        holds mover guard = truth guard

        may : {guard : Guard} → (value guard ≡ Yes → truth guard ≡ true) × (value guard ≡ No → truth guard ≡ false) → truth guard ≡ true → keeps_in_hope Even (value guard) ≡ true
        may {guard} h t = hope_even (value guard) (λ n. clash (h.1 n))
          where
            clash : truth guard ≡ false → ⊥
            clash f = cc (t, f)

        must : {guard : Guard} → (value guard ≡ Yes → truth guard ≡ true) × (value guard ≡ No → truth guard ≡ false) → keeps_in_hope Odd (value guard) ≡ true → truth guard ≡ true
        must {guard} h k = h.0 (hope_odd (value guard) k)

    pub cautious_harder : (truth : Guard → Bool) (game : GuardedGame Guard) → AgreesWithTruth value truth game → IsEasier (product_game truth game) (cautious_game value game)
    cautious_harder truth game agrees = record {
      same_count = same_count holds game ∙ sym (same_count cautious game);
      same_owner = same_owner holds cautious game;
      same_priority = same_priority holds cautious game;
      even = λ v w mover c. edge_more cautious holds Even game (λ i d l j e k. must (agrees i d l j e k)) v w mover c;
      odd = λ v w mover c. edge_more holds cautious Odd game (λ i d l j e k. may (agrees i d l j e k)) v w (same_owner holds cautious game v ∙ mover) c;
    }
      where
        cautious : Player → Guard → Bool
        cautious mover guard = keeps_in_hope (opponent mover) (value guard)

        holds : Player → Guard → Bool
        holds mover guard = truth guard

        may : {guard : Guard} → (value guard ≡ Yes → truth guard ≡ true) × (value guard ≡ No → truth guard ≡ false) → truth guard ≡ true → keeps_in_hope Even (value guard) ≡ true
        may {guard} h t = hope_even (value guard) (λ n. clash (h.1 n))
          where
            clash : truth guard ≡ false → ⊥
            clash f = cc (t, f)

        must : {guard : Guard} → (value guard ≡ Yes → truth guard ≡ true) × (value guard ≡ No → truth guard ≡ false) → keeps_in_hope Odd (value guard) ≡ true → truth guard ≡ true
        must {guard} h k = h.0 (hope_odd (value guard) k)

    pub earlier_easier : (later : Guard → Tri) (game : GuardedGame Guard) → Extends later value game → IsEasier (hopeful_game value game) (hopeful_game later game)
    earlier_easier later game extends = record {
      same_count = same_count hope game ∙ sym (same_count then game);
      same_owner = same_owner hope then game;
      same_priority = same_priority hope then game;
      even = λ v w mover c. edge_more then hope Even game (λ i d l j e k. may (extends i d l j e k)) v w mover c;
      odd = λ v w mover c. edge_more hope then Odd game (λ i d l j e k. must (extends i d l j e k)) v w (same_owner hope then game v ∙ mover) c;
    }
      where
        hope : Player → Guard → Bool
        hope mover guard = keeps_in_hope mover (value guard)

        then : Player → Guard → Bool
        then mover guard = keeps_in_hope mover (later guard)

        may : {guard : Guard} → (value guard ≡ Yes → later guard ≡ Yes) × (value guard ≡ No → later guard ≡ No) → keeps_in_hope Even (later guard) ≡ true → keeps_in_hope Even (value guard) ≡ true
        may {guard} h t = hope_even (value guard) (λ n. hope_even_from (later guard) t (h.1 n))

        must : {guard : Guard} → (value guard ≡ Yes → later guard ≡ Yes) × (value guard ≡ No → later guard ≡ No) → keeps_in_hope Odd (value guard) ≡ true → keeps_in_hope Odd (later guard) ≡ true
        must {guard} h k = rw (h.0 (hope_odd (value guard) k)) refl

    pub full_same : (truth : Guard → Bool) (game : GuardedGame Guard) → IsFullOf value truth game → hopeful_game value game ≡ product_game truth game
    full_same truth game full = restrict_same (λ mover guard. keeps_in_hope mover (value guard)) (λ mover guard. truth guard) game (λ i d l j e k mover. same mover (full i d l j e k))
      where
        same_tri : (mover : Player) (b : Bool) → keeps_in_hope mover (cond b Yes No) ≡ b
        same_tri Even true = refl
        same_tri Even false = refl
        same_tri Odd true = refl
        same_tri Odd false = refl

        same : (mover : Player) {guard : Guard} → value guard ≡ cond (truth guard) Yes No → keeps_in_hope mover (value guard) ≡ truth guard
        same mover {guard} e = ap (keeps_in_hope mover) e ∙ same_tri mover (truth guard)
