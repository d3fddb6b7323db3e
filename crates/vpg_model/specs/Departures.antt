-- Transitions and moves without their places in memory, and the codes by which models hold them. This project's own.
use Rattle.std.specs.Prelude.{ℕ, refl}
use Rattle.std.specs.Coded.{Coded, code_by, coded×, coded_ℕ}
use Rattle.vpg_guards.specs.Formula.{Formula as Guard}
use Rattle.vpg_guards.specs.Coding.{formula_code}

-- a transition from a known state
pub record Departure : Type 0 where
  pub action : ℕ
  pub guard : Guard
  pub target : ℕ

abbrev pub departure_code : Coded Departure
departure_code =
    code_by ((ℕ × ℕ) × Guard) (coded× (coded× coded_ℕ coded_ℕ) formula_code) (λ t. ((t.action, t.target), t.guard))
    (λ p. record { action = p.0.0; guard = p.1; target = p.0.1 }) (λ _. refl)

-- a move to a pair of a state and a part
pub record PairMove : Type 0 where
  pub guard : Guard
  pub to : ℕ × ℕ

abbrev pub move_code : Coded PairMove
move_code = code_by (Guard × (ℕ × ℕ)) (coded× formula_code (coded× coded_ℕ coded_ℕ)) (λ m. (m.guard, m.to))
    (λ p. record { guard = p.0; to = p.1 }) (λ _. refl)
