-- The vertices of a player that have no move, in all products at once.
use Rattle.std.proofs.Common.{◌≡◌, ℕ, ◌+◌, ◌<◌, ◌⊎◌, inl, inr, ◌↔◌, List, [], ◌∷◌, ◌++◌, Bool, true, false, length, sym, ◌∙◌, ap, subst, length-append, arith}
use Rattle.std.proofs.lemmas.Bool.{cases_eq}
use Rattle.std.proofs.lemmas.List.{get_or_append_left}
use Rattle.std.proofs.Math.Seq.{get_or-append_seam}
use Rattle.vpg_sides.specs.declared.player.Player.{Player}
use Rattle.vpg_guards.specs.Formula.{Formula}
use Rattle.vpg_game.specs.Guarded.{GuardedGame}
use Rattle.vpg_game.specs.Game.{vertex_in}
use Rattle.vpg_hope.specs.Games.{HasEdge, owner_of, successors_of}
use Rattle.vpg_determined.proofs.Masks.{Decided, is_in, search_list}
use Rattle.vpg_zielonka.specs.declared.subset.Subset.{Subset}
use Rattle.vpg_zielonka.specs.declared.universe.Universe.{Universe}
use Rattle.vpg_zielonka.specs.Universes.{no_subset, IsInside, has, IsSetOf, IsGrown}
use Rattle.vpg_zielonka.proofs.Growing.{grown_self, grown_then, inside_grown}
use Rattle.vpg_zielonka.specs.Drawing.{Confines}
use Rattle.vpg_zielonka.specs.Parts.{set_at, game_in, part_in, AreSets}
use Rattle.vpg_zielonka.specs.Rounds.{AreStuck}
use Rattle.vpg_zielonka.proofs.Confining.{owner_is}
use Rattle.vpg_zielonka.proofs.Filling.{part_inside, part_below, part_grown}

module _ (old : Universe) (graph : GuardedGame Formula) (player : Player) (part : List Subset) where
  -- the vertex is the player's, and no edge leads from it to the part
  abbrev pub IsStuckAt : ℕ → List Bool → Type 0
  IsStuckAt v p = (owner_of (game_in graph p) v ≡ player) × (has old (set_at part v) p ≡ true) ×
      ((w : ℕ) → HasEdge (game_in graph p) v w → part_in old part p w ≡ true → ⊥)

  pub record AreStuckUpTo (now : Universe) (count : ℕ) (seeds : List Subset) : Type 0 where
    pub count_is : length seeds ≡ count
    pub inside : (v : ℕ) → v < count → IsInside now (set_at seeds v)
    pub each : (v : ℕ) → v < count → (p : List Bool) → (has now (set_at seeds v) p ≡ true) ↔ IsStuckAt v p

  pub stuck_more : (a b : Universe) → IsGrown a b → (count : ℕ) (seeds : List Subset) (new : Subset) → IsInside b new →
      ((p : List Bool) → (has b new p ≡ true) ↔ IsStuckAt count p) → AreStuckUpTo a count seeds →
      AreStuckUpTo b (count + 1) (seeds ++ new ∷ [])
  stuck_more a b g count seeds new new_in is are = record {
    count_is = length-append seeds (new ∷ []) ∙ ap (λ n. n + 1) are.count_is;
    inside = λ v l. inner v l (cases_eq v count);
    each = λ v l. of v l (cases_eq v count);
  }
    where
      last : set_at (seeds ++ new ∷ []) (length seeds) ≡ new
      last = get_or-append_seam seeds new [] no_subset

      at_last : set_at (seeds ++ new ∷ []) count ≡ new
      at_last = ap (λ n. set_at (seeds ++ new ∷ []) n) (sym are.count_is) ∙ last

      stays : (v : ℕ) → v < count → set_at (seeds ++ new ∷ []) v ≡ set_at seeds v
      stays v l = get_or_append_left seeds (new ∷ []) no_subset v (subst (λ n. v < n) (sym are.count_is) l)

      inner : (v : ℕ) → v < count + 1 → (v ≡ count) ⊎ (v ≡ count → ⊥) → IsInside b (set_at (seeds ++ new ∷ []) v)
      inner v l (inl e) = subst (λ (s : Subset). IsInside b s) (sym (ap (λ n. set_at (seeds ++ new ∷ []) n) e ∙ at_last)) new_in
      inner v l (inr n) = subst (λ (s : Subset). IsInside b s) (sym (stays v (omega (arith, n))))
          (inside_grown a b g (set_at seeds v) (are.inside v (omega (arith, n))))

      of : (v : ℕ) → v < count + 1 → (v ≡ count) ⊎ (v ≡ count → ⊥) → (p : List Bool) →
          (has b (set_at (seeds ++ new ∷ []) v) p ≡ true) ↔ IsStuckAt v p
      of v l (inl e) p = subst (λ n. (has b (set_at (seeds ++ new ∷ []) n) p ≡ true) ↔ IsStuckAt n p) (sym e)
          (subst (λ (s : Subset). (has b s p ≡ true) ↔ IsStuckAt count p) (sym at_last) (is p))
      of v l (inr n) p = subst (λ (s : Subset). (has b s p ≡ true) ↔ IsStuckAt v p) (sym (stays v (omega (arith, n))))
          (subst (λ (c : Bool). (c ≡ true) ↔ IsStuckAt v p)
          (sym (g.same (set_at seeds v) (are.inside v (omega (arith, n))) p)) (are.each v (omega (arith, n)) p))

  pub stuck_all : (now : Universe) (seeds : List Subset) → AreSets old (length graph) part →
      AreStuckUpTo now (length graph) seeds → (p : List Bool) →
      AreStuck (game_in graph p) player (part_in old part p) (part_in now seeds p)
  stuck_all now seeds parts are p = record {
    inside = λ v e. part_inside old part p v (in_part v e) ∙ (at v e).1;
    owner = λ v e. (at v e).0;
    none = λ v w e. (at v e).2 w;
    all = λ v m o f. moving v m o f (search_list (successors_of (game_in graph p) v)
        (λ w. part_in old part p w ≡ true → ⊥) (λ w. part_in old part p w ≡ true)
        (λ w. turned (is_in (part_in old part p) w)));
  }
    where
      below : (v : ℕ) → part_in now seeds p v ≡ true → v < length seeds
      below v e = part_below now seeds p v e

      in_part : (v : ℕ) → part_in now seeds p v ≡ true → v < length part
      in_part v e = subst (λ n. v < n) (are.count_is ∙ sym parts.count_is) (below v e)

      at : (v : ℕ) → part_in now seeds p v ≡ true → IsStuckAt v p
      at v e = (are.each v (subst (λ n. v < n) are.count_is (below v e)) p).0
          (sym (part_inside now seeds p v (below v e)) ∙ e)

      turned : {P : Type 0} → Decided P → (P → ⊥) ⊎ P
      turned (inl e) = inr e
      turned (inr n) = inl n

      moving : (v : ℕ) → part_in old part p v ≡ true → owner_of (game_in graph p) v ≡ player →
          part_in now seeds p v ≡ false →
          ((w : ℕ) → HasEdge (game_in graph p) v w → part_in old part p w ≡ true → ⊥) ⊎
          ((w : ℕ) × HasEdge (game_in graph p) v w × (part_in old part p w ≡ true)) →
          (w : ℕ) × HasEdge (game_in graph p) v w × (part_in old part p w ≡ true)
      moving v m o f (inr w) = w
      moving v m o f (inl none) = absurd (clash f seeded)
        where
          l : v < length part
          l = part_below old part p v m

          in_graph : v < length graph
          in_graph = subst (λ n. v < n) parts.count_is l

          seeded : part_in now seeds p v ≡ true
          seeded = part_inside now seeds p v (subst (λ n. v < n) (sym are.count_is) in_graph)
              ∙ (are.each v in_graph p).1 (o, sym (part_inside old part p v l) ∙ m, none)

          clash : part_in now seeds p v ≡ false → part_in now seeds p v ≡ true → ⊥
          clash a b = cc (a, b)

-- one vertex more
module _ (old : Universe) (graph : GuardedGame Formula) (player : Player) (part : List Subset)
    (parts : AreSets old (length graph) part) (i : ℕ) (inside : i < length graph) (a : Universe) (g : IsGrown old a)
    (seeds more : List Subset) (new : Subset) (more_is : more ≡ seeds ++ new ∷ []) where
  -- the player moves there: it has no move where it is confined to nothing
  pub stuck_confined : AreStuckUpTo old graph player part a i seeds → (vertex_in graph i).owner ≡ player → (b : Universe) →
      IsGrown a b → IsInside b new → (nothing : List Subset) → ((p : List Bool) (v : ℕ) → part_in a nothing p v ≡ false) →
      ((p : List Bool) → (has b new p ≡ true) ↔ ((has a (set_at part i) p ≡ true) ×
      Confines (game_in graph p) (part_in a part p) (part_in a nothing p) i)) →
      IsGrown old b × AreStuckUpTo old graph player part b (i + 1) more
  stuck_confined are own b h new_in nothing none is = (
    grown_then old a b g h,
    subst (λ (xs : List Subset). AreStuckUpTo old graph player part b (i + 1) xs) (sym more_is)
        (stuck_more old graph player part a b h i seeds new new_in
        (λ p. (λ e. there p ((is p).0 e), λ s. (is p).1 (back p s))) are),
  )
    where
      part_same : (p : List Bool) (w : ℕ) → part_in a part p w ≡ part_in old part p w
      part_same p w = part_grown old a g (length graph) part parts p w

      set_same_at : (p : List Bool) → has a (set_at part i) p ≡ has old (set_at part i) p
      set_same_at p = g.same (set_at part i) (parts.inside i (subst (λ n. i < n) (sym parts.count_is) inside)) p

      clash : {b : Bool} → b ≡ false → b ≡ true → ⊥
      clash f t = cc (f, t)

      there : (p : List Bool) → (has a (set_at part i) p ≡ true) ×
          Confines (game_in graph p) (part_in a part p) (part_in a nothing p) i → IsStuckAt old graph player part i p
      there p h = (
        owner_is graph p i ∙ own,
        sym (set_same_at p) ∙ h.0,
        λ w edge m. clash (none p w) (h.1 w edge (part_same p w ∙ m)),
      )

      back : (p : List Bool) → IsStuckAt old graph player part i p → (has a (set_at part i) p ≡ true) ×
          Confines (game_in graph p) (part_in a part p) (part_in a nothing p) i
      back p s = (set_same_at p ∙ s.1, λ w edge m. absurd (s.2 w edge (sym (part_same p w) ∙ m)))

  -- the opponent moves there
  pub stuck_passed : AreStuckUpTo old graph player part a i seeds → ((vertex_in graph i).owner ≡ player → ⊥) →
      IsSetOf a (λ p. false) new → IsGrown old a × AreStuckUpTo old graph player part a (i + 1) more
  stuck_passed are other none = (
    g,
    subst (λ (xs : List Subset). AreStuckUpTo old graph player part a (i + 1) xs) (sym more_is)
        (stuck_more old graph player part a a (grown_self a) i seeds new none.inside
        (λ p. (λ e. absurd (clash (none.each p) e), λ s. absurd (other (sym (owner_is graph p i) ∙ s.0)))) are),
  )
    where
      clash : {b : Bool} → b ≡ false → b ≡ true → ⊥
      clash f t = cc (f, t)
