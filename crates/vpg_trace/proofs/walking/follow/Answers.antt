use Rattle.std.proofs.Common.{◌≡◌, ◌++◌, [], List, ap, length, reverse, rules, vec_len, ◌∙◌}
use Rattle.std.specs.Prelude.{not}
use Rattle.vpg_trace.specs.declared.walking.Waiting.{Waiting}
use Rattle.vpg_trace.specs.Walks.{is_left, start_at, walk, walked}
use Rattle.vpg_trace.proofs.Stepped.{left_is}
use Rattle.vpg_trace.proofs.Whole.{is_walk, shows_all, shows_trace}
use Rattle.vpg_trace.proofs.walking.follow.Goals as goal
use Rattle.vpg_trace.proofs.walking.follow.Goals.{After-drop-pending-2}

-- what is made is the walk
made : (c : After-drop-pending-2) → walked c.in_ok-visits.visits.items (reverse c.walk.new.pending.items) ≡ walk c.args.arena.now c.args.moves.now 1000 (start_at c.args.first) []
made c =
    c.in_ok-visits.ensures
    ∙ ap (λ (os : List Waiting). walk c.args.arena.now c.args.moves.now 1000 (reverse os) [])
    (c.in_ok-push.ensures.items ∙ ap (λ (os : List Waiting). os ++ start_at c.args.first) c.new-pending.ensures.items)

-- whether some wait
left : (c : After-drop-pending-2) → not c.is_empty-is_cut.result ≡ is_left (reverse c.walk.new.pending.items)
left c =
    let count : vec_len c.walk.new.pending ≡ length c.walk.new.pending.items = search rules in
    ap not c.is_empty-is_cut.ensures ∙ left_is c.walk.new.pending.items (vec_len c.walk.new.pending) count

pub returns-clause-trace : goal.returns-clause-trace
returns-clause-trace c = shows_trace c.args.arena.now c.args.moves.now c.args.first c.in_ok-visits.visits.items (reverse c.walk.new.pending.items) (made c)

pub returns-clause-complete : goal.returns-clause-complete
returns-clause-complete c = shows_all c.args.arena.now c.args.moves.now c.args.first c.in_ok-visits.visits.items (reverse c.walk.new.pending.items) (made c) (not c.is_empty-is_cut.result) (left c)

pub returns-clause-walk : goal.returns-clause-walk
returns-clause-walk c = is_walk c.args.arena.now c.args.moves.now c.args.first c.in_ok-visits.visits.items (reverse c.walk.new.pending.items) (made c) (not c.is_empty-is_cut.result) (left c)
