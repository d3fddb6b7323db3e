-- One step after another of an attractor, in the game of one product.
use Rattle.std.proofs.Common.{◌≡◌, ℕ, ◌⊎◌, inl, inr, ◌↔◌, Bool, true, false, ◌||◌, refl, sym, ◌∙◌, subst}
use Rattle.std.proofs.lemmas.Bool.{cases_eq, cases_Bool}
use Rattle.vpg_sides.specs.declared.player.Player.{Player}
use Rattle.vpg_sides.specs.Players.{opponent}
use Rattle.vpg_hope.specs.Games.{Game, HasEdge, owner_of, successors_of}
use Rattle.vpg_hope.proofs.Reach.{cases_player}
use Rattle.vpg_determined.proofs.Masks.{Decided, Mask, In, Out, is_in, search_list}
use Rattle.vpg_zielonka.specs.Attractors.{Attracted, IsAttractor, IsWithin, seed, moved, forced}
use Rattle.vpg_zielonka.specs.Drawing.{Confines, Joins, IsDrawn, IsSettled, IsDrawnFrom}
use Rattle.vpg_zielonka.specs.Rounds.{IsLiveOrSeed}

module _ (game : Game) (player : Player) (part : Mask) where
  -- what is drawn to vertices that are drawn to seeds is drawn to the seeds
  pub attracted_then : (seeds set : Mask) → ((v : ℕ) → In set v → Attracted game player part seeds v) →
      {v : ℕ} → Attracted game player part set v → Attracted game player part seeds v
  attracted_then seeds set only (seed {v} e) = only v e
  attracted_then seeds set only (moved {v} {w} m o edge r) = moved m o edge (attracted_then seeds set only r)
  attracted_then seeds set only (forced {v} m o all) =
      forced m o (λ w edge k. attracted_then seeds set only (all w edge k))

  pub drawn_self : (set : Mask) → IsDrawnFrom game player part set set
  drawn_self set = record { more = λ v e. e; only = λ v e. seed e }

  pub drawn_then : (few set many : Mask) → IsDrawnFrom game player part few set →
      IsDrawnFrom game player part set many → IsDrawnFrom game player part few many
  drawn_then few set many a b = record {
    more = λ v e. b.more v (a.more v e);
    only = λ v e. attracted_then few set a.only (b.only v e);
  }

  -- what joins by an edge is drawn
  pub joins_drawn : (set : Mask) (v w : ℕ) → HasEdge game v w → Joins game player part set v w →
      Attracted game player part set v
  joins_drawn set v w edge joins = of joins.draws
    where
      of : (owner_of game v ≡ player) ⊎ Confines game part set v → Attracted game player part set v
      of (inl o) = moved joins.inside o edge (seed joins.there)
      of (inr all) = decide (cases_player (owner_of game v) player)
        where
          decide : (owner_of game v ≡ player) ⊎ (owner_of game v ≡ opponent player) →
              Attracted game player part set v
          decide (inl o) = moved joins.inside o edge (seed joins.there)
          decide (inr o) = forced joins.inside o (λ x e k. seed (all x e k))

  -- One edge was looked at: its source joined, if it joins by it, and waits if it grew.
  module _ (set more : Mask) (v0 w0 : ℕ) (Looked : Type 0) (Waits Later : ℕ → ℕ → Type 0)
      (grows : (v : ℕ) → In set v → In more v) (same : (v : ℕ) → (v ≡ v0 → ⊥) → more v ≡ set v)
      (joined : Looked → Joins game player part set v0 w0 → In more v0)
      (waits : In more v0 → Out set v0 → (v : ℕ) → Later v v0)
      (later : (v w : ℕ) → Waits v w → Later v w ⊎ ((v ≡ v0) × (w ≡ w0) × Looked)) where
    back : (v : ℕ) → In more v → In set v ⊎ ((v ≡ v0) × Out set v0)
    back v e = of (cases_eq v v0) (is_in set v)
      where
        of : Decided (v ≡ v0) → Decided (In set v) → In set v ⊎ ((v ≡ v0) × Out set v0)
        of d (inl k) = inl k
        of (inl eq) (inr out) = inr (eq, subst (Out set) eq out)
        of (inr n) (inr out) = absurd (out (sym (same v n) ∙ e))

    abbrev Goal : ℕ → Type 0
    Goal v = (more v ≡ true) ⊎ ((w : ℕ) × HasEdge game v w × (more w ≡ true) × Later v w)

    pub settled_step : IsSettled game player part set Waits → IsSettled game player part more Later
    settled_step settled v m drawn = of drawn
      where
        -- an edge to the vertex that grew waits
        grown : (w : ℕ) → HasEdge game v w → In more w → (w ≡ v0) × Out set v0 → Goal v
        grown w edge e g =
            inr (w, edge, e, subst (Later v) (sym g.0) (waits (subst (In more) g.0 e) g.1 v))

        -- what was drawn before
        before : (joins : (w : ℕ) → In set w → (v ≡ v0) → Out set v0 → Joins game player part set v0 w) →
            IsDrawn game player part set v → Goal v
        before joins drawn = old (settled v m drawn)
          where
            old : In set v ⊎ ((w : ℕ) × HasEdge game v w × In set w × Waits v w) → Goal v
            old (inl e) = inl (grows v e)
            old (inr w) = next (later v w.0 w.3)
              where
                next : Later v w.0 ⊎ ((v ≡ v0) × (w.0 ≡ w0) × Looked) → Goal v
                next (inl l) = inr (w.0, w.1, grows w.0 w.2, l)
                next (inr e) = decide (is_in set v)
                  where
                    decide : Decided (In set v) → Goal v
                    decide (inl k) = inl (grows v k)
                    decide (inr out) = inl (subst (In more) (sym e.0) (joined e.2
                        (subst (Joins game player part set v0) e.1
                        (joins w.0 w.2 e.0 (subst (Out set) e.0 out)))))

        false_of : (x : ℕ) → Out set x → set x ≡ false
        false_of x out = pick (cases_Bool (set x))
          where
            pick : (set x ≡ true) ⊎ (set x ≡ false) → set x ≡ false
            pick (inl e) = absurd (out e)
            pick (inr e) = e

        of : IsDrawn game player part more v → Goal v
        of (inl d) = edge_back (back d.1 d.4)
          where
            edge_back : In set d.1 ⊎ ((d.1 ≡ v0) × Out set v0) → Goal v
            edge_back (inr g) = grown d.1 d.2 d.4 g
            edge_back (inl e) = before
                (λ w k eq out. record {
                  inside = subst (In part) eq m;
                  there = k;
                  new = false_of v0 out;
                  draws = inl (subst (λ y. owner_of game y ≡ player) eq d.0);
                })
                (inl (d.0, d.1, d.2, d.3, e))
        of (inr d) = searched (search_list (successors_of game v) (λ w. HasEdge game v w → In part w → In set w)
            (λ w. In part w × (w ≡ v0) × Out set v0) (λ w. each w (is_in part w) (is_in set w)))
          where
            each : (w : ℕ) → Decided (In part w) → Decided (In set w) →
                (HasEdge game v w → In part w → In set w) ⊎ (In part w × (w ≡ v0) × Out set v0)
            each w p (inl e) = inl (λ edge k. e)
            each w (inr p) e = inl (λ edge k. absurd (p k))
            each w (inl p) (inr out) = found (cases_eq w v0)
              where
                found : Decided (w ≡ v0) →
                    (HasEdge game v w → In part w → In set w) ⊎ (In part w × (w ≡ v0) × Out set v0)
                found (inl eq) = inr (p, eq, subst (Out set) eq out)
                found (inr n) = inl (λ edge k. sym (same w n) ∙ d.1 w edge k)

            searched : ((w : ℕ) → HasEdge game v w → HasEdge game v w → In part w → In set w) ⊎
                ((w : ℕ) × HasEdge game v w × (In part w × (w ≡ v0) × Out set v0)) → Goal v
            searched (inr w) = grown w.0 w.1 (d.1 w.0 w.1 w.2.0) (w.2.1, w.2.2)
            searched (inl h) = confined (λ w edge k. h w edge edge k)
              where
                confined : Confines game part set v → Goal v
                confined all = before
                    (λ w k eq out. record {
                      inside = subst (In part) eq m;
                      there = k;
                      new = false_of v0 out;
                      draws = inr (subst (Confines game part set) eq all);
                    })
                    (inr (d.0, all, d.2, d.3, d.4))

  -- at the start each seed waits
  pub settled_start : (seeds : Mask) (Waits : ℕ → ℕ → Type 0) → IsWithin seeds part →
      ((v w : ℕ) → In seeds w → Waits v w) → IsSettled game player part seeds Waits
  settled_start seeds Waits inside waits v m (inl d) = inr (d.1, d.2, d.4, waits v d.1 d.4)
  settled_start seeds Waits inside waits v m (inr d) =
      inr (d.2, d.3, d.1 d.2 d.3 d.4, waits v d.2 (d.1 d.2 d.3 d.4))

  -- Once nothing waits, all that is drawn is there.
  pub attractor_end : (seeds set : Mask) → IsWithin seeds part → IsLiveOrSeed game player part seeds →
      IsDrawnFrom game player part seeds set → IsSettled game player part set (λ v w. ⊥) →
      IsAttractor game player part seeds set
  attractor_end seeds set inside live from settled v = (from.only v, λ r. has_all r)
    where
      in_part : {v : ℕ} → Attracted game player part seeds v → In part v
      in_part (seed {v} e) = inside v e
      in_part (moved {v} {w} m o edge r) = m
      in_part (forced {v} m o all) = m

      there : (v : ℕ) → In part v → IsDrawn game player part set v → In set v
      there v m drawn = of (settled v m drawn)
        where
          of : In set v ⊎ ((w : ℕ) × HasEdge game v w × In set w × ⊥) → In set v
          of (inl e) = e
          of (inr w) = absurd w.3

      from_edge : (v : ℕ) → In part v → owner_of game v ≡ opponent player → Confines game part set v →
          (seeds v ≡ true) ⊎ (seeds v ≡ false) → In set v
      from_edge v m o all (inl e) = from.more v e
      from_edge v m o all (inr f) = by (live v m o f)
        where
          by : (w : ℕ) × HasEdge game v w × In part w → In set v
          by w = there v m (inr (o, all, w.0, w.1, w.2))

      has_all : {v : ℕ} → Attracted game player part seeds v → In set v
      has_all (seed {v} e) = from.more v e
      has_all (moved {v} {w} m o edge r) = there v m (inl (o, w, edge, in_part r, has_all r))
      has_all (forced {v} m o all) = from_edge v m o (λ w edge k. has_all (all w edge k)) (cases_Bool (seeds v))

  -- what waits may be told in another way
  pub settled_later : (set : Mask) (Waits Later : ℕ → ℕ → Type 0) →
      ((v w : ℕ) → In part v → HasEdge game v w → Waits v w → Later v w) → IsSettled game player part set Waits →
      IsSettled game player part set Later
  settled_later set Waits Later later settled v m drawn = of (settled v m drawn)
    where
      of : In set v ⊎ ((w : ℕ) × HasEdge game v w × In set w × Waits v w) →
          In set v ⊎ ((w : ℕ) × HasEdge game v w × In set w × Later v w)
      of (inl e) = inl e
      of (inr w) = inr (w.0, w.1, w.2, later v w.0 m w.1 w.3)

  -- The products in which the source of one edge joins were added to it.
  module _ (set more : Mask) (v0 w0 : ℕ) (joins : Bool) (Looked : Type 0)
      (added : more v0 ≡ (set v0 || joins)) (same : (v : ℕ) → (v ≡ v0 → ⊥) → more v ≡ set v)
      (joining : (joins ≡ true) ↔ (Looked × Joins game player part set v0 w0)) where
    grows : (v : ℕ) → In set v → In more v
    grows v e = of (cases_eq v v0)
      where
        left : (a b c : Bool) → a ≡ (b || c) → b ≡ true → a ≡ true
        left a true c f g = f
        left a false c f g = cc

        of : Decided (v ≡ v0) → In more v
        of (inl eq) = subst (In more) (sym eq) (left (more v0) (set v0) joins added (subst (In set) eq e))
        of (inr n) = same v n ∙ e

    came : In more v0 → Out set v0 → joins ≡ true
    came e out = right (more v0) (set v0) joins added e out
      where
        right : (a b c : Bool) → a ≡ (b || c) → a ≡ true → (b ≡ true → ⊥) → c ≡ true
        right a true c f g n = absurd (n refl)
        right a false c f g n = sym f ∙ g

    pub step_drawn : (Looked → HasEdge game v0 w0) → IsDrawnFrom game player part set more
    step_drawn edge = record { more = grows; only = λ v e. of v e (cases_eq v v0) (is_in set v) }
      where
        joined : In more v0 → Out set v0 → Attracted game player part set v0
        joined e out = found (joining.0 (came e out))
          where
            found : Looked × Joins game player part set v0 w0 → Attracted game player part set v0
            found j = joins_drawn set v0 w0 (edge j.0) j.1

        of : (v : ℕ) → In more v → Decided (v ≡ v0) → Decided (In set v) → Attracted game player part set v
        of v e d (inl k) = seed k
        of v e (inr n) (inr out) = absurd (out (sym (same v n) ∙ e))
        of v e (inl eq) (inr out) = subst (Attracted game player part set) (sym eq)
            (joined (subst (In more) eq e) (subst (Out set) eq out))

    pub step_settled : (Waits Later : ℕ → ℕ → Type 0) → (joins ≡ true → (v : ℕ) → Later v v0) →
        ((v w : ℕ) → Waits v w → Later v w ⊎ ((v ≡ v0) × (w ≡ w0) × Looked)) →
        IsSettled game player part set Waits → IsSettled game player part more Later
    step_settled Waits Later waits later settled =
        settled_step set more v0 w0 Looked Waits Later grows same joined (λ e out v. waits (came e out) v) later settled
      where
        right : (a b c : Bool) → a ≡ (b || c) → c ≡ true → a ≡ true
        right a true c f g = f
        right a false c f g = f ∙ g

        joined : Looked → Joins game player part set v0 w0 → In more v0
        joined l j = right (more v0) (set v0) joins added (joining.1 (l, j))
