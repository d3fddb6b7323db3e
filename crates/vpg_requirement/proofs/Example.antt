-- The game of the small family.
use Rattle.std.proofs.Common.{ℕ, ◌<◌, [], ◌∷◌, Bool, true, false, refl, arith}
use Rattle.std.proofs.lemmas.List.Elements.{All-cons, All-nil}
use Rattle.vpg_sides.specs.declared.player.Player.TheVariants.{Even}
use Rattle.vpg_guards.specs.Formula.{Formula as Guard, always as sure, feature, truth}
use Rattle.vpg_hope.proofs.Edges.{Contains-first, not_in_nil}
use Rattle.vpg_requirement.specs.Actions.{action}
use Rattle.vpg_requirement.specs.Systems.{Transition, PlainSystem, product_system, IsClosedFamily}
use Rattle.vpg_requirement.specs.Formulas.{Means, IsPositive}
use Rattle.vpg_requirement.specs.Building.{IsBuiltOf}
use Rattle.vpg_requirement.specs.Words.{can, Leads, stay, go}
use Rattle.vpg_requirement.specs.Example.{small_forth, small_back, small_system, small_formula, small_places, small_game, SmallFamilyIsDecided}
use Rattle.vpg_requirement.proofs.Decided.{formula_decides, closed_product}
use Rattle.vpg_requirement.proofs.Worded.{words_mean}

pub small_built : IsBuiltOf Even 0 small_system small_places small_game
small_built = (
  record { owner = refl; priority = refl; named = record { to = 1; guard = sure } ∷ []; edges = refl; moves = (record { guard = refl; inside = omega arith; target = refl }, tt) },
  (
    record { owner = refl; priority = refl; named = record { to = 2; guard = sure } ∷ record { to = 3; guard = sure } ∷ []; edges = refl; moves = (record { guard = refl; inside = omega arith; target = refl }, (record { guard = refl; inside = omega arith; target = refl }, tt)) },
    (
      record { owner = refl; priority = refl; named = []; edges = refl; moves = tt },
      (
        record { owner = refl; priority = refl; named = record { to = 4; guard = feature 1 } ∷ []; edges = refl; moves = (record { guard = refl; inside = omega arith; target = refl }, tt) },
        (
          record { owner = refl; priority = refl; named = record { to = 5; guard = sure } ∷ []; edges = refl; moves = (record { guard = refl; inside = omega arith; target = refl }, tt) },
          (
            record { owner = refl; priority = refl; named = record { to = 6; guard = sure } ∷ record { to = 7; guard = sure } ∷ []; edges = refl; moves = (record { guard = refl; inside = omega arith; target = refl }, (record { guard = refl; inside = omega arith; target = refl }, tt)) },
            (
              record { owner = refl; priority = refl; named = record { to = 8; guard = sure } ∷ []; edges = refl; moves = (record { guard = refl; inside = omega arith; target = refl }, tt) },
              (
                record { owner = refl; priority = refl; named = record { to = 0; guard = sure } ∷ []; edges = refl; moves = (record { guard = refl; inside = omega arith; target = refl }, tt) },
                (
                  record { owner = refl; priority = refl; named = []; edges = refl; moves = tt },
                  tt,
                ),
              ),
            ),
          ),
        ),
      ),
    ),
  ),
)

abbrev IsInside : Transition Guard → Type 0
IsInside t = t.step.target < 2

pub small_closed : IsClosedFamily small_system
small_closed = All-cons IsInside small_forth (small_back ∷ []) first (All-cons IsInside small_back [] second (All-nil IsInside))
  where
    first : 1 < 2
    first = omega arith

    second : 0 < 2
    second = omega arith

pub small_positive : IsPositive [] false small_formula
small_positive = (tt, (omega arith, refl))

abbrev small_product : Bool → PlainSystem
small_product b = product_system (truth (true ∷ b ∷ [])) small_system

-- without the feature no step leads from state 0, and action 2 is not possible there
stays : (t : ℕ) → Leads (small_product false) 0 t → Means (small_product false) [] (can (action 2)) t → ⊥
stays t stay m = not_in_nil m.0 m.1
stays t (go c r) m = not_in_nil _ c

pub small_family_is_decided : SmallFamilyIsDecided
small_family_is_decided = record {
  decided = λ set. formula_decides small_system small_formula small_places small_game small_closed small_positive small_built 0 0 (omega arith) (omega arith) refl set;
  holds = (words_mean (small_product true) (closed_product small_system small_closed (true ∷ true ∷ [])) (can (action 2)) (action 2) tt 0 (omega arith)).possibly_means.1
      (1, go (Contains-first 1 []) stay, (0, Contains-first 0 [], tt));
  constructs = refl;
  fails = λ m. none ((words_mean (small_product false) (closed_product small_system small_closed (true ∷ false ∷ [])) (can (action 2)) (action 2) tt 0 (omega arith)).possibly_means.0 m);
}
  where
    none : (t : ℕ) × Leads (small_product false) 0 t × Means (small_product false) [] (can (action 2)) t → ⊥
    none t = stays t.0 t.1 t.2
