-- The specification's small game and diagram are a setting.
use Rattle.std.proofs.Common.{◌<◌, true, false, [], ◌∷◌, refl, All, arith}
use Rattle.std.proofs.lemmas.List.Elements.{All-cons, All-nil}
use Rattle.vpg_guards.specs.Formula.{Formula, IsBelow, always, feature}
use Rattle.vpg_sides.specs.declared.player.Player.TheVariants.{Even, Odd}
use Rattle.vpg_diagram.specs.FeatureDiagram.{IsDiagram, MeetsLines}
use Rattle.vpg_diagram.specs.Clauses.{clauses_of, counts_of}
use Rattle.vpg_diagram.proofs.FormulaLemmas.{formula_from_lines}
use Rattle.vpg_partial.proofs.KnownLemmas.{no_set_with_conflict}
use Rattle.vpg_game.specs.Guarded.{GuardedVertex, GuardedEdge}
use Rattle.vpg_desk.specs.Example.{small_diagram, SmallIsSetting}

is_diagram : IsDiagram small_diagram
is_diagram = ((omega arith, refl), ((omega arith, refl), tt))

meets : MeetsLines small_diagram (true ∷ false ∷ false ∷ [])
meets = record { length_is = refl; root = refl; each = ((λ h. refl), ((λ h. refl), tt)) }

two : {X : Type 0} (P : X → Type 0) (a b : X) → P a → P b → All P (a ∷ b ∷ [])
two P a b h k = All-cons P a (b ∷ []) h (All-cons P b [] k (All-nil P))

zero_two : 0 < 2
zero_two = omega arith

one_two : 1 < 2
one_two = omega arith

one_three : 1 < 3
one_three = omega arith

two_three : 2 < 3
two_three = omega arith

first_to : GuardedEdge Formula
first_to = record { to = 1; guard = feature 1 }

first_stay : GuardedEdge Formula
first_stay = record { to = 0; guard = always }

second_to : GuardedEdge Formula
second_to = record { to = 0; guard = feature 2 }

second_stay : GuardedEdge Formula
second_stay = record { to = 1; guard = always }

pub small_is_setting : SmallIsSetting
unfolding first_to first_stay second_to second_stay
small_is_setting = record {
  closed = two (λ (vertex : GuardedVertex Formula). All (λ edge. edge.to < 2) vertex.edges) (record { owner = Even; priority = 1; edges = first_to ∷ first_stay ∷ [] }) (record { owner = Odd; priority = 2; edges = second_to ∷ second_stay ∷ [] })
      (two (λ (edge : GuardedEdge Formula). edge.to < 2) first_to first_stay one_two zero_two) (two (λ (edge : GuardedEdge Formula). edge.to < 2) second_to second_stay zero_two one_two);
  named = two (λ (vertex : GuardedVertex Formula). All (λ edge. IsBelow 3 edge.guard) vertex.edges) (record { owner = Even; priority = 1; edges = first_to ∷ first_stay ∷ [] }) (record { owner = Odd; priority = 2; edges = second_to ∷ second_stay ∷ [] })
      (two (λ (edge : GuardedEdge Formula). IsBelow 3 edge.guard) first_to first_stay one_three tt) (two (λ (edge : GuardedEdge Formula). IsBelow 3 edge.guard) second_to second_stay two_three tt);
  diagram = is_diagram;
  opens = λ c. no_set_with_conflict (clauses_of small_diagram) (counts_of small_diagram) [] (true ∷ false ∷ false ∷ []) (formula_from_lines small_diagram (true ∷ false ∷ false ∷ []) meets) tt c;
}
