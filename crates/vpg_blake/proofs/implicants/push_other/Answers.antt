use Rattle.std.proofs.Common.{true, false}
use Rattle.vpg_blake.specs.Blake.{cubes_in}
use Rattle.vpg_blake.proofs.Steps.{among_code, other_left, other_added}
use Rattle.vpg_blake.proofs.implicants.push_other.Goals as goal

pub returns-then-contains : goal.returns-then-contains
returns-then-contains c =
    other_left c.args.literal (cubes_in c.args.shared.now) (cubes_in c.args.out.now.items) c.args.cube.items
    (among_code c.args.shared.now c.args.cube.items c.contains.result true c.contains.ensures.value c.if-contains.true)

pub returns : goal.returns
returns c =
    other_added c.args.literal (cubes_in c.args.shared.now) c.args.out.now.items c.push.new.self.items c.insert.new.self c.args.cube.items
    (among_code c.args.shared.now c.args.cube.items c.contains.result false c.contains.ensures.value c.if-contains.false)
    c.in_ok-insert.ensures.items c.in_ok-push.ensures.items
