use Rattle.std.proofs.lemmas.Grind.{common_steps}
use Rattle.std.proofs.Common.{◌≤◌, length, ◌∙◌, arith}
use Rattle.std.specs.Arc.{arc_slice_items}
use Rattle.vpg_game.specs.Game.{graph_of}
use Rattle.vpg_hope.proofs.Drafts.{copy_held}
use Rattle.vpg_hope.proofs.arena.Arena.reselected.Goals as goal

pub replace_marked-requires-clause-held : goal.replace_marked-requires-clause-held
replace_marked-requires-clause-held c =
    let old = c.self.inside in
    let one = c.in_ok-one-2.one in
    let few : length old.own.items ≤ 262144 = omega (arith, c.if-len.false, c.len.ensures, c.len-2.ensures, old.own.ok.0, c.self.invariant.few) in
    copy_held c.args.first c.args.marks.now (graph_of c.args.game.now) c.args.self.now old.rows.items one.rows.items (arc_slice_items old.shared) (arc_slice_items one.shared) old.own.items one.own.items
    c.self.invariant c.self.view_is c.requires.count few c.requires.held
    (c.in_ok-one-2.ensures.rows ∙ c.deref.ensures.value) c.in_ok-one-2.ensures.shared (c.in_ok-one-2.ensures.own ∙ c.deref-2.ensures.value)

pub replace_marked-requires-clause-second_held : goal.replace_marked-requires-clause-second_held
replace_marked-requires-clause-second_held c =
    let old = c.other.inside in
    let two = c.in_ok-two-2.two in
    let few : length old.own.items ≤ 262144 = omega (arith, c.if-len-2.false, c.len-else-len.ensures, c.len-else-len-2.ensures, old.own.ok.0, c.other.invariant.few) in
    copy_held c.args.second c.args.marks.now (graph_of c.args.game.now) c.args.other.now old.rows.items two.rows.items (arc_slice_items old.shared) (arc_slice_items two.shared) old.own.items two.own.items
    c.other.invariant c.other.view_is c.requires.other_count few c.requires.other_held
    (c.in_ok-two-2.ensures.rows ∙ c.deref-3.ensures.value) c.in_ok-two-2.ensures.shared (c.in_ok-two-2.ensures.own ∙ c.deref-4.ensures.value)

pub returns-clause-first : goal.returns-clause-first
returns-clause-first c = c.arena.ensures ∙ c.in_ok-replace_marked.ensures.first.vertices

pub returns-clause-second : goal.returns-clause-second
returns-clause-second c = c.arena-2.ensures ∙ c.in_ok-replace_marked.ensures.second.vertices

pub arena-requires : goal.arena-requires
arena-requires c = c.in_ok-replace_marked.ensures.first.lists

pub arena-requires-2 : goal.arena-requires-2
arena-requires-2 c = c.in_ok-replace_marked.ensures.second.lists

pub replace_marked-requires-clause-features : goal.replace_marked-requires-clause-features
replace_marked-requires-clause-features c = c.requires.features

pub replace_marked-requires-clause-second_features : goal.replace_marked-requires-clause-second_features
replace_marked-requires-clause-second_features c = c.requires.second_features

pub replace_marked-requires-clause-marks : goal.replace_marked-requires-clause-marks
replace_marked-requires-clause-marks c = c.requires.marks

pub gathered-requires-then-len-clause-marks : goal.gathered-requires-then-len-clause-marks
gathered-requires-then-len-clause-marks c = grind (arith, common_steps)

pub gathered-requires-then-len-clause-count : goal.gathered-requires-then-len-clause-count
gathered-requires-then-len-clause-count c = grind (arith, common_steps)

pub gathered-requires-clause-count : goal.gathered-requires-clause-count
gathered-requires-clause-count c = grind (arith, common_steps)

pub gathered-requires-clause-marks : goal.gathered-requires-clause-marks
gathered-requires-clause-marks c = grind (arith, common_steps)

pub gathered-requires-then-len-clause-held : goal.gathered-requires-then-len-clause-held
gathered-requires-then-len-clause-held c = grind (arith, common_steps)

pub gathered-requires-then-len-clause-features : goal.gathered-requires-then-len-clause-features
gathered-requires-then-len-clause-features c = grind (arith, common_steps)

pub returns-then-len-clause-second : goal.returns-then-len-clause-second
returns-then-len-clause-second c = grind (arith, common_steps)

pub gathered-requires-clause-held : goal.gathered-requires-clause-held
gathered-requires-clause-held c = grind (arith, common_steps)
