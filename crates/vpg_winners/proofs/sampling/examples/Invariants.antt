use Rattle.std.proofs.Common.{◌≡◌, true, List, length, vec_len}
use Rattle.std.specs.Prelude.{All}
use Rattle.vpg_diagram.specs.DiagramText.{NamedDiagram}
use Rattle.vpg_diagram.specs.declared.clause.Literal.{Literal}
use Rattle.vpg_game.specs.Game.{NamedGame}
use Rattle.vpg_sets.specs.Sets.{has}
use Rattle.vpg_why.specs.declared.question.Aim.{Aim}
use Rattle.vpg_winners.specs.Sampled.{AreFound, IsSetOfSome}
use Rattle.vpg_winners.proofs.sampling.examples.Given as goal

abbrev pub invariant-loop-features : goal.invariant-loop-features
invariant-loop-features l = record {
  left : All (λ p. (length p.items ≡ l.sets.features) × (has l.sets l.set p.items ≡ true)) l.left.items;
  found : (game : NamedGame) (diagram : NamedDiagram) (aim : Aim) (own : List Literal) →
      IsSetOfSome game diagram aim own l.sets l.set → AreFound game diagram aim own l.found.items;
}

abbrev pub decreases-loop-features : goal.decreases-loop-features
decreases-loop-features l = vec_len l.left
