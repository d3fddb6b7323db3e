-- Who wins in the products that are left, by what two searches found.
use Rattle.std.proofs.Common.{ℕ, ◌<◌, ◌⊎◌, inl, inr, Bool, List, length, sym, subst, ◌∙◌}
use Rattle.vpg_sides.specs.declared.player.Player.TheVariants.{Even, Odd}
use Rattle.vpg_guards.specs.Formula.{Formula, truth}
use Rattle.vpg_diagram.specs.DiagramText.{NamedDiagram}
use Rattle.vpg_diagram.specs.declared.clause.Literal.{Literal}
use Rattle.vpg_game.specs.Game.{NamedGame, IsGame, graph_of}
use Rattle.vpg_game.proofs.Graphs.{games_have_graphs, same_count as graph_count}
use Rattle.vpg_hope.specs.Hope.{product_game}
use Rattle.vpg_hope.proofs.Guards.{restrict_closed, same_count}
use Rattle.vpg_determined.proofs.Winning.{determined}
use Rattle.vpg_why.specs.declared.question.Aim.TheVariants as aims
use Rattle.vpg_why.specs.declared.searching.Found.{Found}
use Rattle.vpg_why.specs.declared.searching.Found.TheVariants as founds
use Rattle.vpg_why.specs.Found.{IsFound, IsFoundExact}
use Rattle.vpg_why.specs.Products.{NoneMeets}
use Rattle.vpg_sides.specs.declared.which.Which.TheVariants.{Hopeful, Dual}
use Rattle.vpg_winners.specs.Decided.{WinsProduct, WinsEach, NoneRemains, IsDecidedAs, IsDecidedExact, decided_by}

module _ (game : NamedGame) (diagram : NamedDiagram) (choices : List Literal) (vertex : ℕ) (is : IsGame game)
    (inside : vertex < length game.vertices) where
  one_wins : (set : List Bool) →
      WinsProduct (graph_of game) Even vertex set ⊎ WinsProduct (graph_of game) Odd vertex set
  one_wins set = determined (product_game (truth set) (graph_of game)) vertex
      (restrict_closed Formula (λ mover guard. truth set guard) (graph_of game) (games_have_graphs game is).closed)
      (subst (λ n. vertex < n)
      (sym (same_count Formula (λ mover guard. truth set guard) (graph_of game) ∙ graph_count game)) inside)

  -- where Even wins none, Odd wins each, and the other way round
  pub odd_wins : NoneMeets game diagram (aims.Won Hopeful vertex) choices →
      WinsEach (graph_of game) diagram.lines choices Odd vertex
  odd_wins none set remains = of (one_wins set)
    where
      of : WinsProduct (graph_of game) Even vertex set ⊎ WinsProduct (graph_of game) Odd vertex set →
          WinsProduct (graph_of game) Odd vertex set
      of (inl h) = absurd (none set remains h)
      of (inr h) = h

  pub even_wins : NoneMeets game diagram (aims.Won Dual vertex) choices →
      WinsEach (graph_of game) diagram.lines choices Even vertex
  even_wins none set remains = of (one_wins set)
    where
      of : WinsProduct (graph_of game) Even vertex set ⊎ WinsProduct (graph_of game) Odd vertex set →
          WinsProduct (graph_of game) Even vertex set
      of (inl h) = h
      of (inr h) = absurd (none set remains h)

  none_left : NoneMeets game diagram (aims.Won Hopeful vertex) choices →
      NoneMeets game diagram (aims.Won Dual vertex) choices → NoneRemains diagram.lines choices
  none_left even odd set remains = odd set remains (odd_wins even set remains)

  pub decided_is : (won lost : Found) → IsFound game diagram (aims.Won Hopeful vertex) choices won →
      IsFound game diagram (aims.Won Dual vertex) choices lost →
      IsDecidedAs (graph_of game) diagram.lines choices vertex (decided_by won lost)
  decided_is (founds.Product w) (founds.Product l) p q = (
    record { remaining = p.remaining; wins = p.meets; is_first = p.is_first },
    record { remaining = q.remaining; wins = q.meets; is_first = q.is_first },
  )
  decided_is (founds.Product w) founds.Nothing p q = ((w.features.items, p.remaining), even_wins q)
  decided_is (founds.Product w) founds.Unsettled p q = tt
  decided_is founds.Nothing (founds.Product l) p q = ((l.features.items, q.remaining), odd_wins p)
  decided_is founds.Nothing founds.Nothing p q = none_left p q
  decided_is founds.Nothing founds.Unsettled p q = tt
  decided_is founds.Unsettled lost p q = tt

pub decided_exactly : (won lost : Found) → IsFoundExact won → IsFoundExact lost → IsDecidedExact (decided_by won lost)
decided_exactly (founds.Product w) (founds.Product l) p q = (p, q)
decided_exactly (founds.Product w) founds.Nothing p q = tt
decided_exactly (founds.Product w) founds.Unsettled p q = absurd q
decided_exactly founds.Nothing (founds.Product l) p q = tt
decided_exactly founds.Nothing founds.Nothing p q = tt
decided_exactly founds.Nothing founds.Unsettled p q = absurd q
decided_exactly founds.Unsettled lost p q = absurd p
