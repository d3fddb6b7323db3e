-- Lists of clauses that stop at the limit, for private contracts. This project's own.
use Rattle.std.specs.Prelude.{◌≡◌, List, length, Option, Some, None, option_map, leb, if◌then◌else◌}
use Rattle.std.specs.Global.{Vec}
use Rattle.vpg_rules.specs.declared.clause.Literal.{Literal}
use Rattle.vpg_rules.specs.declared.distributing.NormalForms.{NormalForms}

-- the list, if it has at most 64 clauses
abbrev pub limited : List (List Literal) → Option (List (List Literal))
limited clauses = if leb (length clauses) 64 then Some clauses else None

-- the clauses of a list of the code
abbrev pub clauses_in : Option (Vec (List Literal)) → Option (List (List Literal))
clauses_in list = option_map (λ clauses. clauses.items) list

-- both lists are these, each as far as the limit
pub record AreLimited (forms : NormalForms) (met unmet : List (List Literal)) : Type 0 where
  pub met_is : clauses_in forms.met ≡ limited met
  pub unmet_is : clauses_in forms.unmet ≡ limited unmet
