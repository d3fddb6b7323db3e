-- Codes for the names of actions, by which a model holds them.
use Rattle.std.specs.Prelude.{ℕ, List, Bool, refl}
use Rattle.std.specs.Coded.{Coded, code_by, coded×, coded_ℕ, coded_list, coded_bool}
use Rattle.vpg_formula.specs.Regular.{Label}

abbrev pub label_code : Coded Label
label_code =
    code_by (Bool × List ℕ) (coded× coded_bool (coded_list coded_ℕ)) (λ l. (l.quoted, l.name))
    (λ p. record { quoted = p.0; name = p.1 }) (λ _. refl)
