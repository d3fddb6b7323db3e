use Rattle.std.proofs.Common.{◌≡◌, ◌++◌, [], ◌∷◌, arith}
use Rattle.vpg_journal.specs.Frames.{texts}
use Rattle.vpg_journal.proofs.Framing.{texts_push, push_framed}
use Rattle.vpg_journal.proofs.frames.found_in.Goals as goal

pub loop-text-preserved : goal.loop-text-preserved
loop-text-preserved c =
    let read = c.loop-text.records.items in
    let text = c.in-Some.text.now in
    let is : texts c.push.new.self.items ≡ texts read ++ text ∷ [] = grind (arith, texts_push) in
    let next = push_framed c.args.bytes.now c.loop-text.rest.now (texts read) text c.in-Some.behind.now (texts c.push.new.self.items) is
    c.loop-text.invariant.whole c.loop-text.invariant.short c.in-Some.ensures.some in
    record { whole = next.0; short = next.1 }
