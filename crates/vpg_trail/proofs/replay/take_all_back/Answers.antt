use Rattle.std.proofs.Common.{◌≡◌, ◌-◌, ◌+◌, ◌<◌, ◌∙◌, length, refl, arith}
use Rattle.vpg_trail.specs.Page.{Hopeful, Dual}
use Rattle.vpg_trail.specs.Shown.{entry_of, VertexBelow}
use Rattle.vpg_trail.proofs.Lifting.{table_less}
use Rattle.vpg_trail.proofs.Replays.{read_below}
use Rattle.vpg_trail.proofs.replay.take_all_back.Goals as goal

pub loop-place-preserved : goal.loop-place-preserved
loop-place-preserved c =
    let place = c.loop-place.place - 1 in
    let within : place < length c.args.entries.now = omega (arith, c.loop-place-test.true, c.loop-place.auto.place) in
    let next : c.loop-place.place ≡ place + 1 = omega (arith, c.loop-place-test.true) in
    let vertex : VertexBelow c.args.vertices (entry_of c.index-entries-place.result) = read_below c.args.entries.now place c.args.vertices c.args.vertices c.index-entries-place.result within c.index-entries-place.is c.requires.below refl in
    record {
      hopeful_len = c.take_back.ensures.hopeful_len ∙ c.loop-place.invariant.hopeful_len;
      dual_len = c.take_back.ensures.dual_len ∙ c.loop-place.invariant.dual_len;
      hopeful = λ page w e. table_less Hopeful page c.args.entries.now c.loop-place.place place c.args.vertices c.index-entries-place.result c.loop-place.hopeful c.take_back.new.hopeful
          next within c.index-entries-place.is vertex w (c.loop-place.invariant.hopeful page w e) c.take_back.ensures.hopeful;
      dual = λ page w e. table_less Dual page c.args.entries.now c.loop-place.place place c.args.vertices c.index-entries-place.result c.loop-place.dual c.take_back.new.dual
          next within c.index-entries-place.is vertex w (c.loop-place.invariant.dual page w e) c.take_back.ensures.dual;
    }
