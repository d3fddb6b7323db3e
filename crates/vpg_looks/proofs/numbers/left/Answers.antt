use Rattle.std.proofs.Common.{refl}
use Rattle.vpg_texts.specs.Scene.{scene_of}
use Rattle.vpg_looks.specs.Answers.{TellsNumber}
use Rattle.vpg_looks.proofs.Told.{told_text}
use Rattle.vpg_looks.proofs.numbers.left.Goals as goal

pub number-requires : goal.number-requires
number-requires c = rw (c.deref.ensures, c.diagram.ensures.diagram, c.decisions.ensures.decisions) c.decisions.ensures.order.named

pub returns : goal.returns
returns c = λ names.
    let order = c.args.order.now in
    let number = rw (c.deref.ensures, c.diagram.ensures.diagram, c.decisions.ensures.decisions) at c.in_ok-count.ensures.number in
    let settled = rw (c.deref.ensures, c.diagram.ensures.diagram, c.decisions.ensures.decisions) at c.in_ok-count.ensures.settled in
    told_text (TellsNumber (scene_of names order.game order.diagram) c.args.limits order.decisions) _
    (c.in_ok-count.count, record { number = number; settled = λ ends. settled ends.0 ends.1 ends.2 }, refl)
    c.line.result c.done.result c.done.ensures c.args.out.now.items c.line.new.out.items c.line.ensures
