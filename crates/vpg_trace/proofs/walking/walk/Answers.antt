use Rattle.std.proofs.Common.{◌≡◌, ◌∙◌, length, reverse, rules, sym, vec_len, []}
use Rattle.vpg_trace.specs.Walks.{walk}
use Rattle.vpg_trace.proofs.Stepped.{walk_ends, walk_more}
use Rattle.vpg_trace.proofs.walking.walk.Goals as goal

pub returns-in_default : goal.returns-in_default
returns-in_default c =
    let none : vec_len c.loop.pending ≡ length c.loop.pending.items = search rules in
    let gone : vec_len c.pop.new.self ≡ length c.pop.new.self.items = search rules in
    walk_ends c.args.arena.now c.args.moves.now _ c.loop.pending.items c.pop.new.self.items c.loop.visits.items _ (sym none ∙ c.in_default.ensures.cases.0) (sym gone ∙ c.in_default.ensures.cases.1) c.loop.invariant

pub loop-preserved : goal.loop-preserved
loop-preserved c =
    walk_more c.args.arena.now c.args.moves.now c.args.most c.loop.counter c.loop.pending.items c.pop.new.self.items c.make_visit.new.pending.items c.in-Some.next c.loop.visits.items c.make_visit.new.visits.items
    (walk c.args.arena.now c.args.moves.now c.args.most (reverse c.args.pending.now.items) [])
    c.loop-test.true c.in-Some.ensures.items c.in_ok-make_visit.ensures.visits c.in_ok-make_visit.ensures.pending c.loop.invariant
