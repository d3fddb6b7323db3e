use Rattle.std.proofs.Common.{◌≡◌, ◌++◌}
use Rattle.vpg_blake.specs.Blake.{cubes_in, unshared, with_literal}
use Rattle.vpg_blake.proofs.implicants.push_others.Given as goal

-- what is added and what is still to add is the whole
abbrev pub invariant-loop-cube : goal.invariant-loop-cube
invariant-loop-cube l =
    cubes_in l.out.items ++ with_literal l.literal (unshared (cubes_in l.cube-iterator.rest.items) (cubes_in l.shared))
    ≡ cubes_in l.fn.out.items ++ with_literal l.literal (unshared (cubes_in l.fn.cubes.items) (cubes_in l.shared))
