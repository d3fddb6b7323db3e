use Rattle.vpg_why.proofs.SearchSteps.{begun, blank_queued}
use Rattle.vpg_why.proofs.reaching.reached.Goals as goal

pub note-requires-clause-queued : goal.note-requires-clause-queued
note-requires-clause-queued c = blank_queued c.vertices.result c.in_ok-marks.marks.items c.new-queue.result.items
    (c.in_ok-marks.ensures.items_if_clones_equal (λ y e. e)) c.new-queue.ensures.items

pub search-requires-clause-begun : goal.search-requires-clause-begun
search-requires-clause-begun c = begun c.in_ok-marks.marks.items c.note.new.marks.items c.new-queue.result.items c.note.new.queue.items c.args.first c.new-queue.ensures.items c.in_ok-note.ensures
