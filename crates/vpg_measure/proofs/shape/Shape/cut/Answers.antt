use Rattle.std.proofs.Common.{◌<◌, arith}
use Rattle.vpg_game.specs.Levels.{top_of}
use Rattle.vpg_measure.proofs.Numbers.{weight_pos, prog_sum_at_most}
use Rattle.vpg_measure.proofs.shape.Shape.cut.Goals as goal

pub nonzero_div-quotient : goal.nonzero_div-quotient
nonzero_div-quotient c = rw c.weight-weight.ensures (weight_pos c.args.priority c.args.self.now)

pub returns-clause-within : goal.returns-clause-within
returns-clause-within c =
    let less : c.args.value < top_of c.args.self.now = omega (arith, c.top.ensures.top, c.if-value-top.false) in
    rw c.weight-weight.ensures (prog_sum_at_most c.args.self.now c.args.priority c.args.value less)

pub overflow_mul-result : goal.overflow_mul-result
overflow_mul-result c =
    let less : c.args.value < top_of c.args.self.now = omega (arith, c.top.ensures.top, c.if-value-top.false) in
    let most = prog_sum_at_most c.args.self.now c.args.priority c.args.value less in
    rw c.weight-weight.ensures (omega (arith, most, c.top.ensures.top, c.top.type_inv))
