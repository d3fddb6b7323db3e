use Rattle.std.proofs.Common.{◌∙◌, ◌++◌, sym, ap}
use Rattle.vpg_journal.specs.Frames.{frame, texts}
use Rattle.vpg_journal.proofs.Framing.{member_refused, item_at, low_text, frames_next, short_next}
use Rattle.vpg_journal.proofs.frames.batch_of.Goals as goal

pub returns-in-Err-clause-refused : goal.returns-in-Err-clause-refused
returns-in-Err-clause-refused c =
    let records = c.args.records.now in
    let i = c.loop-text.text-index in
    let v = c.text-item.result in
    member_refused (texts records) i c.deref.result.now c.in-Err.fault (low_text records i v c.loop-text-test.true c.text-item.is)
    (c.deref.ensures.value ∙ item_at records i v c.loop-text-test.true c.text-item.is) c.in-Err.ensures.refused

pub loop-text-preserved : goal.loop-text-preserved
loop-text-preserved c =
    let records = c.args.records.now in
    let i = c.loop-text.text-index in
    let v = c.text-item.result in
    record {
      bytes = c.in_default.ensures.bytes ∙ ap (λ l. l ++ frame c.deref.result.now) c.loop-text.invariant.bytes
          ∙ sym (frames_next records i v c.loop-text-test.true c.text-item.is c.deref.result.now c.deref.ensures.value);
      short = short_next records i v c.loop-text-test.true c.text-item.is c.deref.result.now c.deref.ensures.value c.loop-text.invariant.short c.in_default.ensures.short;
    }
