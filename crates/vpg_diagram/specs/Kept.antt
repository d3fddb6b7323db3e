-- The clauses, counts and index that a diagram keeps with its names and lines.
use Rattle.std.specs.Prelude.{◌≡◌, ℕ, List}
use Rattle.vpg_diagram.specs.Clauses.{clauses_of, counts_of}
use Rattle.vpg_diagram.specs.DiagramText.{NamedDiagram, IsNamedDiagram}
use Rattle.vpg_diagram.specs.Rules.{IsIndex}
use Rattle.vpg_diagram.specs.Tally.{Tally}
use Rattle.vpg_diagram.specs.declared.clause.Literal.{Literal}

-- a named diagram with its clauses and counts, and an index of them
pub record IsKept (d : NamedDiagram) (clauses : List (List Literal)) (counts : List Tally)
    (index : List (List ℕ)) : Type 0 where
  pub named : IsNamedDiagram d
  pub clauses_are : clauses ≡ clauses_of d.lines
  pub counts_are : counts ≡ counts_of d.lines
  pub indexed : IsIndex clauses counts index
