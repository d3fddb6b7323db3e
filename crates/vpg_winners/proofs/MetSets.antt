-- Products that meet an aim, by the sets of a page.
use Rattle.std.proofs.Common.{◌≡◌, ℕ, ◌<◌, ◌⊎◌, inl, inr, Bool, true, List, [], length, refl, sym, ◌∙◌}
use Rattle.std.specs.Prelude.{Option, Some, None, IfSome}
use Rattle.std.proofs.lemmas.Bool.{both_ways}
use Rattle.vpg_guards.specs.Formula.{truth}
use Rattle.vpg_diagram.specs.DiagramText.{NamedDiagram}
use Rattle.vpg_diagram.specs.FeatureDiagram.{feature_count}
use Rattle.vpg_diagram.specs.declared.clause.Literal.{Literal}
use Rattle.vpg_game.specs.Game.{NamedGame, IsGame, graph_of}
use Rattle.vpg_hope.specs.Hope.{product_game}
use Rattle.vpg_hope.proofs.Both.{not_both}
use Rattle.vpg_partial.specs.KnownLaws.{IsRemaining}
use Rattle.vpg_sides.specs.declared.which.Which.TheVariants.{Hopeful, Dual}
use Rattle.vpg_sets.specs.declared.node.Set.{Set}
use Rattle.vpg_sets.specs.Sets.{Arena, has}
use Rattle.vpg_why.specs.declared.question.Aim.{Aim}
use Rattle.vpg_why.specs.declared.question.Aim.TheVariants as aims
use Rattle.vpg_why.specs.declared.searching.Found.{Found}
use Rattle.vpg_why.specs.declared.searching.Found.TheVariants as founds
use Rattle.vpg_why.specs.Found.{IsFound}
use Rattle.vpg_why.specs.Products.{Meets}
use Rattle.vpg_winners.specs.declared.two_sets.TwoSets.{TwoSets}
use Rattle.vpg_winners.specs.Cutting.{StandFor}
use Rattle.vpg_winners.specs.Decided.{IsDecidedAs, decided_by}
use Rattle.vpg_winners.specs.Finding.{IsSetOfMet, IsFirstFound}
use Rattle.vpg_winners.proofs.OneWins.{decided_is}

module _ (game : NamedGame) (diagram : NamedDiagram) (vertex : ℕ) (choices : List Literal) (arena : Arena) (even odd : Set)
    (count : feature_count diagram.lines ≡ arena.features)
    (stand : StandFor (graph_of game) diagram.lines vertex choices [] arena even odd) where
  not_two : (p : List Bool) → Meets game (aims.Won Hopeful vertex) p → Meets game (aims.Won Dual vertex) p → ⊥
  not_two p s t = not_both (product_game (truth p) (graph_of game)) s.0 t.0 vertex s.1 t.1

  in_one : (p : List Bool) → IsRemaining diagram.lines choices p →
      (has arena even p ≡ true) ⊎ (has arena odd p ≡ true)
  in_one p r = stand.all p (record { remaining = r; begins = refl })

  -- those of one set are those that Even wins, and those of the other the ones that Odd wins
  pub won_met : IsSetOfMet game diagram (aims.Won Hopeful vertex) choices arena even
  won_met = record {
    features = count;
    each = λ p long h. stand.won p (long ∙ sym count) refl h;
    all = λ p r m. of p r m (in_one p r);
  }
    where
      of : (p : List Bool) → IsRemaining diagram.lines choices p → Meets game (aims.Won Hopeful vertex) p →
          (has arena even p ≡ true) ⊎ (has arena odd p ≡ true) → has arena even p ≡ true
      of p r m (inl h) = h
      of p r m (inr h) = absurd (not_two p m (stand.lost p r.product.length_is refl h).1)

  pub lost_met : IsSetOfMet game diagram (aims.Won Dual vertex) choices arena odd
  lost_met = record {
    features = count;
    each = λ p long h. stand.lost p (long ∙ sym count) refl h;
    all = λ p r m. of p r m (in_one p r);
  }
    where
      of : (p : List Bool) → IsRemaining diagram.lines choices p → Meets game (aims.Won Dual vertex) p →
          (has arena even p ≡ true) ⊎ (has arena odd p ≡ true) → has arena odd p ≡ true
      of p r m (inl h) = absurd (not_two p (stand.won p r.product.length_is refl h).1 m)
      of p r m (inr h) = h

module _ (game : NamedGame) (diagram : NamedDiagram) (aim : Aim) (choices : List Literal) (arena : Arena) (set : Set)
    (met : IsSetOfMet game diagram aim choices arena set) where
  -- the first product of the set is the first that meets the aim
  pub first_is_found : (found : Found) → IsFirstFound arena set found → IsFound game diagram aim choices found
  first_is_found (founds.Product example) (first, told) =
      let both = met.each example.features.items first.features first.member in
      record {
        remaining = both.0;
        meets = both.1;
        is_first = λ shown other r before m. first.first other (r.product.length_is ∙ met.features) (met.all other r m)
            (record { feature = before.feature; has_it = before.has; lacks = before.lacks; same = before.same });
      }
  first_is_found founds.Nothing none = λ p r m. both_ways (has arena set p) (none p) (met.all p r m)
  first_is_found founds.Unsettled none = absurd none

-- the winner by the first products of both sets
module _ (game : NamedGame) (diagram : NamedDiagram) (vertex : ℕ) (choices : List Literal) (arena : Arena) (even odd : Set)
    (won lost : Found) (first : IsFirstFound arena even won) (also : IsFirstFound arena odd lost) where
  pub firsts_decide : IsGame game → vertex < length game.vertices → feature_count diagram.lines ≡ arena.features →
      StandFor (graph_of game) diagram.lines vertex choices [] arena even odd →
      IsDecidedAs (graph_of game) diagram.lines choices vertex (decided_by won lost)
  firsts_decide is inside count stand =
      decided_is game diagram choices vertex is inside won lost
      (first_is_found game diagram (aims.Won Hopeful vertex) choices arena even
      (won_met game diagram vertex choices arena even odd count stand) won first)
      (first_is_found game diagram (aims.Won Dual vertex) choices arena odd
      (lost_met game diagram vertex choices arena even odd count stand) lost also)

-- if there are two sets
module _ (game : NamedGame) (diagram : NamedDiagram) (vertex : ℕ) (choices : List Literal) where
  pub some_won : (found : Option TwoSets) → IfSome found (λ two. feature_count diagram.lines ≡ two.sets.features) →
      IfSome found (λ two. StandFor (graph_of game) diagram.lines vertex choices [] two.sets two.won two.lost) →
      IfSome found (λ two. IsSetOfMet game diagram (aims.Won Hopeful vertex) choices two.sets two.won)
  some_won (Some two) count stand = won_met game diagram vertex choices two.sets two.won two.lost count stand
  some_won None count stand = tt

  pub some_lost : (found : Option TwoSets) → IfSome found (λ two. feature_count diagram.lines ≡ two.sets.features) →
      IfSome found (λ two. StandFor (graph_of game) diagram.lines vertex choices [] two.sets two.won two.lost) →
      IfSome found (λ two. IsSetOfMet game diagram (aims.Won Dual vertex) choices two.sets two.lost)
  some_lost (Some two) count stand = lost_met game diagram vertex choices two.sets two.won two.lost count stand
  some_lost None count stand = tt
