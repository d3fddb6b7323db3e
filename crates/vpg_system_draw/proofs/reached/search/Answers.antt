use Rattle.std.proofs.Common.{rules, length}
use Rattle.vpg_system_draw.proofs.Searching.{blank_length, searching_begun, targets_inside, visited_next, searched, less_work}
use Rattle.vpg_system_draw.proofs.reached.search.Goals as goal

pub note-requires : goal.note-requires
note-requires c = blank_length (length c.args.rows.now) c.args.first c.args.marks.now.items c.requires.marks c.requires.first

pub loop-s-init : goal.loop-s-init
loop-s-init c = searching_begun c.args.rows.now c.args.first c.args.marks.now.items c.note.new.marks.items c.args.waiting.now.items c.note.new.waiting.items c.requires.marks c.requires.waiting c.in_ok-note.ensures

pub note_each-requires : goal.note_each-requires
note_each-requires c =
    targets_inside c.args.rows.now c.args.first c.loop-s.marks.items c.loop-s.waiting.items c.pop.new.self.items c.in-Some.s c.loop-s.invariant c.in-Some.ensures.items c.targets.result.now c.requires.inside c.targets.ensures

pub loop-s-preserved : goal.loop-s-preserved
loop-s-preserved c =
    visited_next c.args.rows.now c.args.first c.loop-s.marks.items c.loop-s.waiting.items c.pop.new.self.items c.in-Some.s c.loop-s.invariant c.in-Some.ensures.items c.targets.result.now
    c.note_each.new.marks.items c.note_each.new.waiting.items c.targets.ensures c.in_ok-note_each.ensures

pub loop-s-smaller : goal.loop-s-smaller
loop-s-smaller c =
    less_work c.loop-s.marks.items c.note_each.new.marks.items c.loop-s.waiting.items c.pop.new.self.items c.note_each.new.waiting.items c.in-Some.s c.in-Some.ensures.items c.in_ok-note_each.ensures.work

pub returns : goal.returns
returns c = searched c.args.rows.now c.args.first c.loop-s.marks.items c.loop-s.waiting.items (search rules) c.loop-s.invariant
