use Rattle.std.proofs.Common.{sym, ◌∙◌}
use Rattle.std.proofs.lemmas.Result.{on_ok_weaker}
use Rattle.vpg_system.specs.SystemView.{transition_of}
use Rattle.vpg_system_draw.specs.Arrows.{looks, joined, arrow_of, label_text}
use Rattle.vpg_system_draw.specs.Joining.{arrows_in}
use Rattle.vpg_system_draw.proofs.Joins.{not_added, added}
use Rattle.vpg_system_draw.proofs.arrows.add.Goals as goal

pub returns-then-not-looks : goal.returns-then-not-looks
returns-then-not-looks c =
    not_added (looks c.args.known.now c.args.look (transition_of c.args.transition.now) c.args.is_marked) c.args.ends.now.keys c.args.labels.now.items
    (joined (arrows_in c.args.ends.now.keys c.args.labels.now.items) (arrow_of c.args.names.now c.args.system.now.actions (transition_of c.args.transition.now)))
    (sym c.looks.ensures ∙ c.if-not-looks.true) c.requires.labels

pub returns : goal.returns
returns c =
    on_ok_weaker c.join.result
    (added (looks c.args.known.now c.args.look (transition_of c.args.transition.now) c.args.is_marked) c.args.ends.now.keys c.join.new.ends.keys c.args.labels.now.items c.join.new.labels.items
    c.args.transition.now.source c.args.transition.now.target c.transition_label.new.out.items (label_text c.args.names.now c.args.system.now.actions (transition_of c.args.transition.now))
    (sym c.looks.ensures ∙ c.if-not-looks.false) (rw c.new-text.ensures.items at c.in_ok-transition_label.ensures))
    c.join.ensures
