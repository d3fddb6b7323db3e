use Rattle.std.proofs.Common.{◌≡◌, drop}
use Rattle.vpg_guards.specs.Grammar.{joined}
use Rattle.vpg_guards.specs.View.{formulas_of}
use Rattle.vpg_blake.specs.Blake.{literal_parts}
use Rattle.vpg_blake.proofs.making.cube_guard.Given as goal

-- what is made and what is still to make is the whole
abbrev pub invariant-loop-literal : goal.invariant-loop-literal
invariant-loop-literal l = joined (formulas_of l.parts.items) (literal_parts (drop l.literal-index l.cube)) ≡ literal_parts l.fn.cube
