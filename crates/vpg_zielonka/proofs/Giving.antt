-- The same set at each vertex, and what the players have when one of them is given more.
use Rattle.std.proofs.Common.{◌≡◌, ℕ, ◌<◌, ◌≤◌, ◌⊎◌, inl, inr, List, Bool, false, length, get_or, replicate, sym, ◌∙◌, ap, subst}
use Rattle.std.proofs.lemmas.Bool.{cases_lt}
use Rattle.std.proofs.lemmas.List.{length-replicate, get_or-replicate}
use Rattle.vpg_sides.specs.declared.player.Player.{Player}
use Rattle.vpg_sides.specs.declared.player.Player.TheVariants.{Even, Odd}
use Rattle.vpg_sides.specs.Players.{opponent}
use Rattle.vpg_zielonka.specs.declared.subset.Subset.{Subset}
use Rattle.vpg_zielonka.specs.declared.universe.Universe.{Universe}
use Rattle.vpg_zielonka.specs.Universes.{no_subset, has, IsGrown}
use Rattle.vpg_zielonka.specs.Parts.{part_in, AreSets}
use Rattle.vpg_zielonka.specs.Winners.{AreWinners, sets_of, wins_in}
use Rattle.vpg_zielonka.specs.declared.winners.Winners.{Winners}
use Rattle.vpg_zielonka.proofs.Filling.{part_inside, part_beyond, part_grown}

pub part_same : (universe : Universe) (set : Subset) (n : ℕ) (part : List Subset) → part ≡ replicate n set → (p : List Bool) (v : ℕ) →
    v < n → part_in universe part p v ≡ has universe set p
part_same universe set n part e p v l =
    part_inside universe part p v (subst (λ m. v < m) (sym (ap (λ (xs : List Subset). length xs) e ∙ length-replicate n set)) l)
    ∙ ap (λ (s : Subset). has universe s p) (ap (λ (xs : List Subset). get_or xs v no_subset) e
    ∙ get_or-replicate n v set no_subset l)

pub part_nothing : (universe : Universe) (set : Subset) (n : ℕ) (part : List Subset) → AreSets universe n part →
    ((p : List Bool) (v : ℕ) → v < n → part_in universe part p v ≡ has universe set p) →
    ((p : List Bool) → has universe set p ≡ false) → (p : List Bool) (v : ℕ) → part_in universe part p v ≡ false
part_nothing universe set n part are each none p v = of (cases_lt v n)
  where
    of : (v < n) ⊎ (n ≤ v) → part_in universe part p v ≡ false
    of (inl l) = each p v l ∙ none p
    of (inr l) = part_beyond universe part p v (subst (λ m. m ≤ v) (sym are.count_is) l)

pub wins_nothing : (universe : Universe) (winners : Winners) (p : List Bool) (v : ℕ) →
    part_in universe winners.won.items p v ≡ false → part_in universe winners.lost.items p v ≡ false →
    (player : Player) → wins_in universe winners p player v ≡ false
wins_nothing universe winners p v won lost Even = won
wins_nothing universe winners p v won lost Odd = lost

-- the other player's sets stay
pub others_stay : (a b : Universe) → IsGrown a b → (n : ℕ) (before after : Winners) → AreWinners a n before →
    (q player : Player) → q ≡ player → sets_of after (opponent player) ≡ sets_of before (opponent player) →
    (p : List Bool) (v : ℕ) → wins_in b after p (opponent q) v ≡ wins_in a before p (opponent q) v
others_stay a b g n before after are q player e same p v =
    ap (λ (xs : List Subset). part_in b xs p v) (subst (λ (r : Player). sets_of after (opponent r) ≡ sets_of before (opponent r)) (sym e) same)
    ∙ part_grown a b g n (sets_of before (opponent q)) (sets_in (opponent q)) p v
  where
    sets_in : (r : Player) → AreSets a n (sets_of before r)
    sets_in Even = are.won
    sets_in Odd = are.lost
