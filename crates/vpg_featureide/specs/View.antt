-- The code's values in the words of the definitions. This project's own.
use Rattle.std.specs.Prelude.{◌≡◌, ℕ, List, map, Option, option_map, Result, Err, ◌⊎◌}
use Rattle.std.specs.Borrow.{Bor}
use Rattle.vpg_rules.specs.View.{constraint_of}
use Rattle.vpg_featureide.specs.Model.{Seen}
use Rattle.vpg_featureide.specs.Formulas.{FeatureModel}
use Rattle.vpg_featureide.specs.declared.model.Model as code_model
use Rattle.vpg_featureide.specs.declared.builder.Builder.{Builder}
use Rattle.vpg_featureide.specs.declared.fault.ModelFault.{ModelFault}
use Rattle.vpg_featureide.specs.declared.fault.ModelFault.TheVariants as faults

abbrev pub seen_of : Builder → Seen
seen_of b = record {
  names = b.names;
  kinds = b.kinds.items;
  members = b.members.items;
  roles = b.roles.items;
  numbers = b.numbers.items;
}

-- a model of the code, in the words of the definitions
abbrev pub model_in : code_model.Model → FeatureModel
model_in m = record {
  names = m.names;
  kinds = m.kinds.items;
  members = m.members.items;
  constraints = map constraint_of m.rules.items;
}

abbrev pub value_in : Option (Bor (List ℕ)) → Option (List ℕ)
value_in o = option_map (λ w. w.now) o

-- memory ran out, or it is the fault of this reading
abbrev pub IsRefused : {A : Type 0} → Result A ModelFault → ModelFault → Type 0
IsRefused read fault = (fault ≡ faults.Memory) ⊎ (read ≡ Err fault)
