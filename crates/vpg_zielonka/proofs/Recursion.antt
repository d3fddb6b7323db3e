-- The loop of the recursion, in the game of one product: what is given away, and the part that goes on.
use Rattle.std.proofs.Common.{◌≡◌, ℕ, ◌<◌, ◌≤◌, ◌⊎◌, inl, inr, Bool, true, false, not, ◌&&◌, ◌||◌, refl, sym, ◌∙◌, ap, subst, None, arith}
use Rattle.std.proofs.lemmas.Bool.{cases_eq, cases_Bool}
use Rattle.vpg_sides.specs.declared.player.Player.{Player}
use Rattle.vpg_sides.specs.declared.player.Player.TheVariants.{Even, Odd}
use Rattle.vpg_sides.specs.Players.{WinsAt, opponent}
use Rattle.vpg_hope.specs.Games.{Game, priority_of}
use Rattle.vpg_hope.proofs.Reach.{cases_player}
use Rattle.vpg_determined.proofs.Masks.{Mask, In, Out}
use Rattle.vpg_determined.proofs.Solved.{nothing_won}
use Rattle.vpg_zielonka.specs.Attractors.{IsRest, IsJoined, seed}
use Rattle.vpg_zielonka.specs.Rounds.{IsLive, IsBelowTops, IsGivenAway, IsWithoutStuck}
use Rattle.vpg_zielonka.specs.Solutions.{IsSolution}
use Rattle.vpg_zielonka.proofs.Turns.{all_won, without_others}
use Rattle.vpg_zielonka.proofs.Solutions.{none_drawn, of_and, of_less, own_lives, other_lives, both_live, live_left}
use Rattle.vpg_zielonka.proofs.Stuck.{without_stuck}

-- what solves the part that is left solves the whole with what is given away already
abbrev pub Continues : Game → Mask → Mask → (Player → Mask) → Type 0
Continues game mask part given = (wins more : Player → Mask) → IsSolution game part wins →
    ((p : Player) → IsJoined (more p) (given p) (wins p)) → IsSolution game mask more

pub continues_begin : (game : Game) (mask : Mask) (given : Player → Mask) →
    ((p : Player) (v : ℕ) → given p v ≡ false) → Continues game mask mask given
continues_begin game mask given none wins more s joined =
    subst (λ (w : Player → Mask). IsSolution game mask w) (λ i p v. same p v i) s
  where
    drop : (a b c : Bool) → a ≡ false → c ≡ (a || b) → b ≡ c
    drop true b c e f = cc
    drop false b c e f = sym f

    same : (p : Player) (v : ℕ) → wins p v ≡ more p v
    same p v = drop (given p v) (wins p v) (more p v) (none p v) (joined p v)

-- an empty part is solved by no vertices
pub nothing_left : (game : Game) (mask : Mask) (wins : Player → Mask) → ((v : ℕ) → Out mask v) →
    ((p : Player) (v : ℕ) → wins p v ≡ false) → IsSolution game mask wins
nothing_left game mask wins none empty = record {
  moves = λ v. None;
  won = λ p. nothing_won game p mask (In (wins p)) (λ v. None) (λ v h. cc (empty p v, h));
  each = λ v m. absurd (none v m);
  apart = λ p v a b. cc (empty p v, a);
}

-- so once nothing is left, what is given away solves the whole
pub continues_end : (game : Game) (mask part : Mask) (given : Player → Mask) → Continues game mask part given →
    ((v : ℕ) → part v ≡ false) → IsSolution game mask given
continues_end game mask part given continues none =
    continues (λ p v. false) given
    (nothing_left game part (λ p v. false) (λ v h. cc (none v, h)) (λ p v. refl)) (λ p v. alone (given p v))
  where
    alone : (b : Bool) → b ≡ (b || false)
    alone true = refl
    alone false = refl

-- ---- what a player has, and what the other has

by_player : Player → Mask → Mask → Player → Mask
by_player Even mine others Even = mine
by_player Even mine others Odd = others
by_player Odd mine others Odd = mine
by_player Odd mine others Even = others

by_own : (q : Player) (mine others : Mask) (v : ℕ) → by_player q mine others q v ≡ mine v
unfolding by_player
by_own Even mine others v = refl
by_own Odd mine others v = refl

by_other : (q : Player) (mine others : Mask) (v : ℕ) → by_player q mine others (opponent q) v ≡ others v
unfolding by_player
by_other Even mine others v = refl
by_other Odd mine others v = refl

-- what holds of a player and of its opponent holds of both
of_both : (q : Player) (P : Player → Type 0) → P q → P (opponent q) → (p : Player) → P p
of_both q P own other p = of (cases_player p q)
  where
    of : (p ≡ q) ⊎ (p ≡ opponent q) → P p
    of (inl e) = subst P (sym e) own
    of (inr e) = subst P (sym e) other

-- ---- tests

-- more is what was given, this, and what is won of the rest
or_chain : (more after before drawn wins : Bool) → more ≡ (after || wins) → after ≡ (before || drawn) →
    more ≡ (before || (drawn || wins))
or_chain more after true drawn wins e f = e ∙ ap (λ (b : Bool). b || wins) f
or_chain more after false drawn wins e f = e ∙ ap (λ (b : Bool). b || wins) f

or_same : (more after before wins : Bool) → more ≡ (after || wins) → after ≡ before → more ≡ (before || wins)
or_same more after before wins e f = e ∙ ap (λ (b : Bool). b || wins) f

module _ (game : Game) (n : ℕ) (mask part left : Mask) (q : Player) (before after : Player → Mask)
    (continues : Continues game mask part before) (below : (v : ℕ) → In part v → v < n) where
  -- vertices without a move are given away
  pub continues_stuck : IsWithoutStuck game q part left before after → Continues game mask left after
  continues_stuck step wins more s joined =
      with (by_player q (λ v. step.drawn v || wins q v) (wins (opponent q)))
      (by_own q (λ v. step.drawn v || wins q v) (wins (opponent q)))
      (by_other q (λ v. step.drawn v || wins q v) (wins (opponent q)))
    where
      with : (mid : Player → Mask) → ((v : ℕ) → mid q v ≡ (step.drawn v || wins q v)) →
          ((v : ℕ) → mid (opponent q) v ≡ wins (opponent q) v) → IsSolution game mask more
      with mid mid_own mid_other =
          continues mid more solved (of_both q (λ p. IsJoined (more p) (before p) (mid p)) own other)
        where
          solved : IsSolution game part mid
          solved = without_stuck game q part step.seeds step.stuck n step.drawn left wins mid below step.attractor
              step.rest mid_own mid_other s

          own : IsJoined (more q) (before q) (mid q)
          own v = or_chain (more q v) (after q v) (before q v) (step.drawn v) (wins q v) (joined q v) (step.own_more v)
              ∙ ap (λ (b : Bool). before q v || b) (sym (mid_own v))

          other : IsJoined (more (opponent q)) (before (opponent q)) (mid (opponent q))
          other v = or_same (more (opponent q) v) (after (opponent q) v) (before (opponent q) v)
              (wins (opponent q) v) (joined (opponent q) v) (step.others_stay v)
              ∙ ap (λ (b : Bool). before (opponent q) v || b) (sym (mid_other v))

  -- a round is given away
  module _ (d : ℕ) (inner : Mask) (found : Player → Mask) (live : IsLive game part)
      (greatest : (v : ℕ) → In part v → priority_of game v ≤ d) (parity : WinsAt q d)
      (lower : IsBelowTops game q d part inner) (solution : IsSolution game inner found)
      (step : IsGivenAway game q part (found (opponent q)) left before after) where
    -- the opponent won something: its attractor is its, and the rest goes on
    some_won : step.some ≡ true → Continues game mask left after
    some_won e wins more s joined =
        with (by_player q (wins q) (λ v. step.drawn v || wins (opponent q) v))
        (by_own q (wins q) (λ v. step.drawn v || wins (opponent q) v))
        (by_other q (wins q) (λ v. step.drawn v || wins (opponent q) v))
      where
        all_on : (a b : Bool) → b ≡ true → (a && b) ≡ a
        all_on true b f = f
        all_on false b f = refl

        none_on : (a b : Bool) → b ≡ true → (a && not b) ≡ false
        none_on true b f = ap not f
        none_on false b f = refl

        or_none : (b : Bool) → (b || false) ≡ b
        or_none true = refl
        or_none false = refl

        rest : IsRest left part step.drawn
        rest v = step.rest v ∙ ap (λ (b : Bool). b && not (step.drawn v)) (all_on (part v) step.some e)

        stays : (v : ℕ) → after q v ≡ before q v
        stays v = step.own_more v ∙ ap (λ (b : Bool). before q v || b) (none_on (part v) step.some e)
            ∙ or_none (before q v)

        with : (mid : Player → Mask) → ((v : ℕ) → mid q v ≡ wins q v) →
            ((v : ℕ) → mid (opponent q) v ≡ (step.drawn v || wins (opponent q) v)) → IsSolution game mask more
        with mid mid_own mid_other =
            continues mid more solved (of_both q (λ p. IsJoined (more p) (before p) (mid p)) own other)
          where
            solved : IsSolution game part mid
            solved = without_others game n q part lower.seeds lower.drawn inner found d below live greatest parity
                lower.tops lower.attractor lower.rest solution step.drawn step.attractor left rest wins mid mid_other
                mid_own s

            own : IsJoined (more q) (before q) (mid q)
            own v = or_same (more q v) (after q v) (before q v) (wins q v) (joined q v) (stays v)
                ∙ ap (λ (b : Bool). before q v || b) (sym (mid_own v))

            other : IsJoined (more (opponent q)) (before (opponent q)) (mid (opponent q))
            other v = or_chain (more (opponent q) v) (after (opponent q) v) (before (opponent q) v) (step.drawn v)
                (wins (opponent q) v) (joined (opponent q) v) (step.others_more v)
                ∙ ap (λ (b : Bool). before (opponent q) v || b) (sym (mid_other v))

    -- it won nothing: the player wins all of the part
    none_won : step.some ≡ false → Continues game mask left after
    none_won e wins more s joined =
        with (by_player q part (λ v. false)) (by_own q part (λ v. false)) (by_other q part (λ v. false))
      where
        lost : {b : Bool} → b ≡ false → b ≡ true → ⊥
        lost f g = cc (f, g)

        out : (v : ℕ) → Out (found (opponent q)) v
        out v h = lost (step.none e v) h

        off : (a b : Bool) → b ≡ false → (a && b) ≡ false
        off true b f = f
        off false b f = refl

        all_on : (a b : Bool) → b ≡ false → (a && not b) ≡ a
        all_on true b f = ap not f
        all_on false b f = refl

        left_none : (v : ℕ) → left v ≡ false
        left_none v = step.rest v ∙ ap (λ (b : Bool). b && not (step.drawn v)) (off (part v) step.some e)

        drawn_none : (v : ℕ) → step.drawn v ≡ false
        drawn_none v = of (cases_Bool (step.drawn v))
          where
            of : (step.drawn v ≡ true) ⊎ (step.drawn v ≡ false) → step.drawn v ≡ false
            of (inl h) = absurd (none_drawn game (opponent q) part (found (opponent q)) live out
                ((step.attractor v).0 h))
            of (inr f) = f

        wins_none : (p : Player) (v : ℕ) → wins p v ≡ false
        wins_none p v = of (cases_Bool (wins p v))
          where
            of : (wins p v ≡ true) ⊎ (wins p v ≡ false) → wins p v ≡ false
            of (inl h) = absurd (lost (left_none v) ((s.won p).inside v h))
            of (inr f) = f

        drop : (more after before given wins : Bool) → more ≡ (after || wins) → after ≡ (before || given) →
            wins ≡ false → more ≡ (before || given)
        drop more true before given true e f g = cc
        drop more true before given false e f g = e ∙ f
        drop more false before given true e f g = cc
        drop more false before given false e f g = e ∙ f

        with : (mid : Player → Mask) → ((v : ℕ) → mid q v ≡ part v) → ((v : ℕ) → mid (opponent q) v ≡ false) →
            IsSolution game mask more
        with mid mid_own mid_other =
            continues mid more solved (of_both q (λ p. IsJoined (more p) (before p) (mid p)) own other)
          where
            solved : IsSolution game part mid
            solved = all_won game n q part lower.seeds lower.drawn inner found d below live greatest parity
                lower.tops lower.attractor lower.rest solution out mid mid_own mid_other

            own : IsJoined (more q) (before q) (mid q)
            own v = drop (more q v) (after q v) (before q v) (part v && not step.some) (wins q v) (joined q v)
                (step.own_more v) (wins_none q v)
                ∙ ap (λ (b : Bool). before q v || b) (all_on (part v) step.some e ∙ sym (mid_own v))

            other : IsJoined (more (opponent q)) (before (opponent q)) (mid (opponent q))
            other v = drop (more (opponent q) v) (after (opponent q) v) (before (opponent q) v) (step.drawn v)
                (wins (opponent q) v) (joined (opponent q) v) (step.others_more v) (wins_none (opponent q) v)
                ∙ ap (λ (b : Bool). before (opponent q) v || b) (drawn_none v ∙ sym (mid_other v))

    pub continues_round : Continues game mask left after
    continues_round = of (cases_Bool step.some)
      where
        of : (step.some ≡ true) ⊎ (step.some ≡ false) → Continues game mask left after
        of (inl e) = some_won e
        of (inr e) = none_won e

    -- from each vertex of what goes on some edge leads on
    pub left_lives : IsLive game left
    left_lives = of (cases_Bool step.some)
      where
        off : (a b : Bool) → b ≡ false → (a && b) ≡ false
        off true b f = f
        off false b f = refl

        all_on : (a b : Bool) → b ≡ true → (a && b) ≡ a
        all_on true b f = f
        all_on false b f = refl

        lost : {b : Bool} → b ≡ false → b ≡ true → ⊥
        lost f h = cc (f, h)

        of : (step.some ≡ true) ⊎ (step.some ≡ false) → IsLive game left
        of (inl e) = live_left game (opponent q) part (found (opponent q)) step.drawn left live step.attractor
            (λ v. step.rest v ∙ ap (λ (b : Bool). b && not (step.drawn v)) (all_on (part v) step.some e))
        of (inr e) = λ v h. absurd (lost (step.rest v
            ∙ ap (λ (b : Bool). b && not (step.drawn v)) (off (part v) step.some e)) h)

-- ---- what stays of a part

pub below_less : (game : Game) (q : Player) (d : ℕ) (part left : Mask) →
    ((v : ℕ) → In part v → priority_of game v ≤ d) → IsBelowTops game q d part left → (v : ℕ) → In left v →
    priority_of game v < d
below_less game q d part left greatest lower v h = of (of_less (part v) (lower.drawn v) (sym (lower.rest v) ∙ h))
  where
    of : In part v × Out lower.drawn v → priority_of game v < d
    of (m, out) = strict (greatest v m) (cases_eq (priority_of game v) d)
      where
        strict : priority_of game v ≤ d → (priority_of game v ≡ d) ⊎ (priority_of game v ≡ d → ⊥) →
            priority_of game v < d
        strict l (inl e) = absurd (out ((lower.attractor v).1 (seed (lower.tops.all v m e))))
        strict l (inr n) = omega (arith, n)

pub below_within : (game : Game) (q : Player) (d : ℕ) (part left : Mask) → IsBelowTops game q d part left →
    (v : ℕ) → In left v → In part v
below_within game q d part left lower v h = (of_less (part v) (lower.drawn v) (sym (lower.rest v) ∙ h)).0

pub below_lives : (game : Game) (q : Player) (d : ℕ) (part left : Mask) → IsLive game part →
    IsBelowTops game q d part left → IsLive game left
below_lives game q d part left live lower =
    live_left game q part lower.seeds lower.drawn left live lower.attractor lower.rest

pub given_within : (game : Game) (q : Player) (part others left : Mask) (before after : Player → Mask) →
    IsGivenAway game q part others left before after → (v : ℕ) → In left v → In part v
given_within game q part others left before after step v h =
    (of_and (part v) step.some (of_less (part v && step.some) (step.drawn v) (sym (step.rest v) ∙ h)).0).0

-- what a player wins below the tops is in the part
pub found_within : (game : Game) (q : Player) (d : ℕ) (part left : Mask) (wins : Player → Mask) (p : Player) →
    IsBelowTops game q d part left → IsSolution game left wins → (v : ℕ) → In (wins p) v → In part v
found_within game q d part left wins p lower s v h = below_within game q d part left lower v ((s.won p).inside v h)

-- ---- vertices without a move first

-- once the vertices without a move are given away for both players, each vertex that is left has an edge
pub stuck_lives : (game : Game) (whole middle left : Mask) (before between after : Player → Mask) →
    IsWithoutStuck game Even whole middle before between → IsWithoutStuck game Odd middle left between after →
    IsLive game left
stuck_lives game whole middle left before between after one two =
    both_live game Odd left
    (own_lives game Odd middle two.seeds two.drawn left
    (other_lives game Even whole one.seeds one.drawn middle one.attractor one.rest) two.attractor two.rest)
    (other_lives game Odd middle two.seeds two.drawn left two.attractor two.rest)

pub stuck_within : (game : Game) (q : Player) (part left : Mask) (before after : Player → Mask) →
    IsWithoutStuck game q part left before after → (v : ℕ) → In left v → In part v
stuck_within game q part left before after step v h =
    (of_less (part v) (step.drawn v) (sym (step.rest v) ∙ h)).0

-- both players get what they win of the rest
pub whole_solved : (game : Game) (n : ℕ) (whole middle left : Mask) (before between after wins more : Player → Mask) →
    ((v : ℕ) → In whole v → v < n) → ((p : Player) (v : ℕ) → before p v ≡ false) →
    IsWithoutStuck game Even whole middle before between → IsWithoutStuck game Odd middle left between after →
    IsSolution game left wins → ((p : Player) → IsJoined (more p) (after p) (wins p)) → IsSolution game whole more
whole_solved game n whole middle left before between after wins more below none one two s joined =
    continues_stuck game n whole middle left Odd between after
    (continues_stuck game n whole whole middle Even before between (continues_begin game whole before none) below one)
    (λ v h. below v (stuck_within game Even whole middle before between one v h)) two wins more s joined
