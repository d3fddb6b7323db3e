use Rattle.std.specs.Arc.{arc_value}
use Rattle.vpg_script.proofs.Given.{done_gives}
use Rattle.vpg_texts.specs.Scene.{IsCounted, scene_of}
use Rattle.vpg_looks.specs.Looked.{IsCountAnswer, left_mark}
use Rattle.vpg_looks.proofs.counting.counted.Goals as goal

pub returns : goal.returns
returns c = λ names.
    let page = c.args.page.now in
    let scene = scene_of names (arc_value c.args.game.now) (arc_value c.args.diagram.now) in
    let left = rw c.as_slice-decisions.ensures at c.in_ok-left.ensures in
    done_gives (IsCounted scene page.decisions page.hopeful page.dual (left_mark c.in_ok-left.left))
    (IsCountAnswer scene c.args.limits page.decisions page.hopeful page.dual) (λ answer is. (c.in_ok-left.left, (left, is)))
    c.count.result c.done.result c.done.ensures c.args.out.now.items c.count.new.out.items
    (rw (c.deref-2.ensures, c.deref-3.ensures, c.mark_of-mark.ensures) at c.count.ensures.counted)
