-- The vertices that wait are looked at one after another, in all products at once.
use Rattle.std.proofs.Common.{◌≡◌, ℕ, ◌⊎◌, inl, inr, List, Bool, true, false, length, get_or, set, sym, ◌∙◌, ap, subst}
use Rattle.std.proofs.lemmas.Bool.{cases_eq}
use Rattle.vpg_sides.specs.declared.player.Player.{Player}
use Rattle.vpg_guards.specs.Formula.{Formula}
use Rattle.vpg_game.specs.Guarded.{GuardedGame}
use Rattle.vpg_zielonka.specs.declared.subset.Subset.{Subset}
use Rattle.vpg_zielonka.specs.declared.universe.Universe.{Universe}
use Rattle.vpg_zielonka.specs.Universes.{IsGrown}
use Rattle.vpg_zielonka.proofs.Growing.{grown_self, grown_then}
use Rattle.vpg_zielonka.specs.Attractors.{Vertices, IsAttractor, IsWithin}
use Rattle.vpg_zielonka.specs.Drawing.{IsSettled, IsDrawnFrom}
use Rattle.vpg_zielonka.specs.Parts.{game_in, part_in, AreSets}
use Rattle.vpg_zielonka.specs.Rounds.{IsLiveOrSeed}
use Rattle.vpg_zielonka.proofs.Drawing.{drawn_self, drawn_then, settled_later, settled_start, attractor_end}
use Rattle.vpg_zielonka.proofs.Draws.{set_there}
use Rattle.vpg_zielonka.proofs.Filling.{part_grown}

module _ (old : Universe) (graph : GuardedGame Formula) (player : Player) (part seeds : List Subset) where
  abbrev Waits : List Bool → ℕ → ℕ → Type 0
  Waits waiting v x = get_or waiting x false ≡ true

  -- so far these are drawn, and these vertices wait
  pub record IsSpread (now : Universe) (drawn : List Subset) (waiting : List Bool) : Type 0 where
    pub grown : IsGrown old now
    pub sets : AreSets now (length graph) drawn
    pub count : length waiting ≡ length graph
    pub more : (p : List Bool) → IsDrawnFrom (game_in graph p) player (part_in old part p) (part_in old seeds p)
        (part_in now drawn p)
    pub settled : (p : List Bool) → IsSettled (game_in graph p) player (part_in old part p) (part_in now drawn p)
        (Waits waiting)

  -- at first the seeds wait
  pub spread_start : (waiting : List Bool) → AreSets old (length graph) seeds → length waiting ≡ length graph →
      ((p : List Bool) → IsWithin (part_in old seeds p) (part_in old part p)) →
      ((p : List Bool) (v : ℕ) → part_in old seeds p v ≡ true → get_or waiting v false ≡ true) →
      IsSpread old seeds waiting
  spread_start waiting are count inside waits = record {
    grown = grown_self old;
    sets = are;
    count = count;
    more = λ p. drawn_self (game_in graph p) player (part_in old part p) (part_in old seeds p);
    settled = λ p. settled_start (game_in graph p) player (part_in old part p) (part_in old seeds p) (Waits waiting)
        (inside p) (λ v w e. waits p w e);
  }

  module _ (parts : AreSets old (length graph) part) where
    same_part : (now : Universe) → IsGrown old now → (p : List Bool) → part_in now part p ≡ part_in old part p
    same_part now g p = λ x v. part_grown old now g (length graph) part parts p v x

    -- a vertex that was taken from those that wait is to be looked at
    pub spread_pop : (now : Universe) (drawn : List Subset) (waiting left : List Bool) (w : ℕ) → IsSpread now drawn waiting →
        left ≡ set waiting w false → (p : List Bool) →
        IsSettled (game_in graph p) player (part_in now part p) (part_in now drawn p)
        (λ v x. (get_or left x false ≡ true) ⊎ (x ≡ w))
    spread_pop now drawn waiting left w is e p =
        subst (λ (m : Vertices). IsSettled (game_in graph p) player m (part_in now drawn p)
        (λ v x. (get_or left x false ≡ true) ⊎ (x ≡ w))) (sym (same_part now is.grown p))
        (settled_later (game_in graph p) player (part_in old part p) (part_in now drawn p) (Waits waiting)
        (λ v x. (get_or left x false ≡ true) ⊎ (x ≡ w)) (λ v x m edge h. of x h (cases_eq x w)) (is.settled p))
      where
        of : (x : ℕ) → get_or waiting x false ≡ true → (x ≡ w) ⊎ (x ≡ w → ⊥) → (get_or left x false ≡ true) ⊎ (x ≡ w)
        of x h (inl s) = inr s
        of x h (inr n) = inl (ap (λ (l : List Bool). get_or l x false) e ∙ set_there waiting w x false false n ∙ h)

    -- it was looked at
    pub spread_more : (a b : Universe) (drawn more : List Subset) (waiting later : List Bool) → IsSpread a drawn waiting →
        IsGrown a b → AreSets b (length graph) more → length later ≡ length graph →
        ((p : List Bool) → IsDrawnFrom (game_in graph p) player (part_in a part p) (part_in a drawn p) (part_in b more p)) →
        ((p : List Bool) → IsSettled (game_in graph p) player (part_in a part p) (part_in b more p) (Waits later)) →
        IsSpread b more later
    spread_more a b drawn more waiting later is g sets count from settled = record {
      grown = grown_then old a b is.grown g;
      sets = sets;
      count = count;
      more = λ p. drawn_then (game_in graph p) player (part_in old part p) (part_in old seeds p) (part_in a drawn p)
          (part_in b more p) (is.more p)
          (subst (λ (m : Vertices). IsDrawnFrom (game_in graph p) player m (part_in a drawn p) (part_in b more p))
          (same_part a is.grown p) (from p));
      settled = λ p. subst (λ (m : Vertices). IsSettled (game_in graph p) player m (part_in b more p) (Waits later))
          (same_part a is.grown p) (settled p);
    }

  -- no vertex waits any more
  pub spread_end : (now : Universe) (drawn : List Subset) (waiting : List Bool) → IsSpread now drawn waiting →
      ((p : List Bool) → IsWithin (part_in old seeds p) (part_in old part p)) →
      ((p : List Bool) → IsLiveOrSeed (game_in graph p) player (part_in old part p) (part_in old seeds p)) →
      ((v : ℕ) → get_or waiting v false ≡ false) → (p : List Bool) →
      IsAttractor (game_in graph p) player (part_in old part p) (part_in old seeds p) (part_in now drawn p)
  spread_end now drawn waiting is inside live none p =
      attractor_end (game_in graph p) player (part_in old part p) (part_in old seeds p) (part_in now drawn p)
      (inside p) (live p) (is.more p)
      (settled_later (game_in graph p) player (part_in old part p) (part_in now drawn p) (Waits waiting) (λ v x. ⊥)
      (λ v x m edge h. clash (none x) h) (is.settled p))
    where
      clash : {b : Bool} → b ≡ false → b ≡ true → ⊥
      clash f h = cc (f, h)
