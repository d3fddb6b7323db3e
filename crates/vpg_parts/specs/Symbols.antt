-- Normal forms in Polish notation (Łukasiewicz): a symbol, and then its operands. This project's own.
use Rattle.std.specs.Prelude.{◌≡◌, ℕ, List, [], ◌∷◌, ◌++◌}
use Rattle.vpg_requirement.specs.Actions.{ActionFormula}
use Rattle.vpg_requirement.specs.NormalForms.{NormalForm, met, unmet, both, either, some_step, every_step, fixpoint, variable}
use Rattle.vpg_parts.specs.declared.part.Kind.{Kind as PartKind}
use Rattle.vpg_parts.specs.declared.symbol.Symbol.{Symbol}
use Rattle.vpg_parts.specs.declared.symbol.Symbol.TheVariants.{True, False, And, Or, SomeStep, EveryStep, Fixpoint, Variable}
use Rattle.vpg_parts.specs.Parts.{kind_of}
use Rattle.vpg_parts.specs.Sets.{actions_at}

-- The symbols are the normal form, if sets of actions stand for these action formulas. Priorities are not written.
abbrev pub IsSpelled : List ActionFormula → NormalForm → List Symbol → Type 0
IsSpelled actions met ss = ss ≡ True ∷ []
IsSpelled actions unmet ss = ss ≡ False ∷ []
IsSpelled actions (both f g) ss =
    (us : List Symbol) × (vs : List Symbol) × (ss ≡ And ∷ (us ++ vs)) × IsSpelled actions f us × IsSpelled actions g vs
IsSpelled actions (either f g) ss =
    (us : List Symbol) × (vs : List Symbol) × (ss ≡ Or ∷ (us ++ vs)) × IsSpelled actions f us × IsSpelled actions g vs
IsSpelled actions (some_step x f) ss =
    (n : ℕ) × (us : List Symbol) × (ss ≡ SomeStep n ∷ us) × (actions_at actions n ≡ x) × IsSpelled actions f us
IsSpelled actions (every_step x f) ss =
    (n : ℕ) × (us : List Symbol) × (ss ≡ EveryStep n ∷ us) × (actions_at actions n ≡ x) × IsSpelled actions f us
IsSpelled actions (fixpoint kind p f) ss =
    (k : PartKind) × (us : List Symbol) × (ss ≡ Fixpoint k ∷ us) × (kind_of k ≡ kind) × IsSpelled actions f us
IsSpelled actions (variable i) ss = ss ≡ Variable i ∷ []
