-- Systems as lists of numbers, for models that hold them. This project's own.
use Rattle.std.specs.Prelude.{ℕ, List, refl}
use Rattle.std.specs.Coded.{Coded, code_by, coded×, coded_ℕ, coded_list}
use Rattle.vpg_guards.specs.Formula.{Formula}
use Rattle.vpg_guards.specs.Coding.{formula_code}
use Rattle.vpg_system.specs.SystemText.{Transition, NamedSystem}

abbrev pub transition_code : Coded Transition
transition_code =
    code_by ((ℕ × ℕ) × (ℕ × Formula)) (coded× (coded× coded_ℕ coded_ℕ) (coded× coded_ℕ formula_code))
    (λ t. ((t.source, t.action), (t.target, t.guard)))
    (λ p. record { source = p.0.0; action = p.0.1; guard = p.1.1; target = p.1.0 }) (λ _. refl)

abbrev pub system_code : Coded NamedSystem
system_code =
    code_by ((ℕ × (ℕ × ℕ)) × (List (List ℕ) × List Transition))
    (coded× (coded× coded_ℕ (coded× coded_ℕ coded_ℕ)) (coded× (coded_list (coded_list coded_ℕ))
    (coded_list transition_code)))
    (λ s. ((s.features, (s.first, s.states)), (s.actions, s.transitions)))
    (λ p. record {
      features = p.0.0;
      first = p.0.1.0;
      states = p.0.1.1;
      actions = p.1.0;
      transitions = p.1.1;
    }) (λ _. refl)
