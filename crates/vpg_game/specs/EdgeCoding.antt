-- Codes for edges, by which a model holds them.
use Rattle.std.specs.Prelude.{ℕ, refl}
use Rattle.std.specs.Coded.{Coded, code_by, coded×, coded_ℕ}
use Rattle.vpg_guards.specs.Formula.{Formula}
use Rattle.vpg_guards.specs.Coding.{formula_code}
use Rattle.vpg_game.specs.Edges.{GuardedEdge}

abbrev pub edge_code : Coded (GuardedEdge Formula)
edge_code = code_by (ℕ × Formula) (coded× coded_ℕ formula_code) (λ s. (s.to, s.guard))
    (λ p. record { to = p.0; guard = p.1 }) (λ _. refl)
