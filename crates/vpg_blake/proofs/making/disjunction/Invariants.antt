use Rattle.std.proofs.Common.{◌≡◌, drop}
use Rattle.vpg_guards.specs.Grammar.{joined}
use Rattle.vpg_guards.specs.View.{formulas_of}
use Rattle.vpg_blake.specs.Blake.{cube_parts, cubes_in}
use Rattle.vpg_blake.proofs.making.disjunction.Given as goal

-- what is made and what is still to make is the whole
abbrev pub invariant-loop-cube : goal.invariant-loop-cube
invariant-loop-cube l = joined (formulas_of l.parts.items) (cube_parts (cubes_in (drop l.cube-index l.cubes))) ≡ cube_parts (cubes_in l.fn.cubes)
