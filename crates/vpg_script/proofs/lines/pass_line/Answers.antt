use Rattle.std.proofs.Common.{◌≡◌, ◌++◌, Err, ap, ◌∙◌, arith}
use Rattle.std.proofs.lemmas.Grind.{common_steps}
use Rattle.std.specs.List.{prefix_len}
use Rattle.std.specs.Io.KnownBytes.{prepend_known}
use Rattle.vpg_script.specs.Lines.{is_within_line}
use Rattle.vpg_script.specs.declared.lines.NextFault.TheVariants as faults
use Rattle.vpg_script.proofs.LineLemmas.{all_unended, passed_more, passed_held, passed_unread, passed_ended, passed_last}
use Rattle.vpg_script.proofs.lines.pass_line.Goals as goal

pub returns-then-n-len-clause-passed : goal.returns-then-n-len-clause-passed
returns-then-n-len-clause-passed g c =
    let so = c.pass.invariant.passed in
    passed_ended (prepend_known c.args.held.now.items (g.R.Source.remaining c.args.reader.now)) (g.R.Source.remaining c.pass.reader) so.0 c.pass.held.items c.drop_line.new.held.items
    c.line_len-n.result so.1.0 so.1.1 (c.line_len-n.ensures.len ∙ ap (prefix_len is_within_line) c.deref.ensures.value)
    (omega (arith, c.pass.held.ok.0, c.len.ensures, c.if-n-len.true)) c.drop_line.ensures.rest

pub returns-then-reads-ge-MOST_READS-clause-read : goal.returns-then-reads-ge-MOST_READS-clause-read
returns-then-reads-ge-MOST_READS-clause-read g c = λ _.
    let so = c.pass.invariant.passed in
    passed_held (prepend_known c.args.held.now.items (g.R.Source.remaining c.args.reader.now)) (g.R.Source.remaining c.pass.reader) so.0 c.pass.held.items so.1.0
    (all_unended c.pass.held.items c.line_len-n.result (c.line_len-n.ensures.len ∙ ap (prefix_len is_within_line) c.deref.ensures.value)
    (omega (arith, c.pass.held.ok.0, c.len.ensures, c.if-n-len.false))) so.1.1

pub returns-in-Err-clause-read : goal.returns-in-Err-clause-read
returns-in-Err-clause-read g c = λ h.
    let so = c.pass.invariant.passed in
    let is : c.in-Err.fault ≡ faults.Read = cc h in
    passed_unread (prepend_known c.args.held.now.items (g.R.Source.remaining c.args.reader.now)) (g.R.Source.remaining c.pass.reader) (g.R.Source.remaining c.more.new.reader)
    so.0 c.pass.held.items c.clear.new.self.items c.more.new.held.items so.1.0
    (all_unended c.pass.held.items c.line_len-n.result (c.line_len-n.ensures.len ∙ ap (prefix_len is_within_line) c.deref.ensures.value)
    (omega (arith, c.pass.held.ok.0, c.len.ensures, c.if-n-len.false)))
    c.clear.ensures.items (c.in-Err.ensures.read_same (ap Err is)) so.1.1 (c.in-Err.ensures.read (ap Err is))

pub returns-then-not-came-clause-passed : goal.returns-then-not-came-clause-passed
returns-then-not-came-clause-passed g c =
    let so = c.pass.invariant.passed in
    let both = passed_more (prepend_known c.args.held.now.items (g.R.Source.remaining c.args.reader.now)) (g.R.Source.remaining c.pass.reader) (g.R.Source.remaining c.more.new.reader)
    so.0 c.pass.held.items c.clear.new.self.items c.more.new.held.items so.1.0
    (all_unended c.pass.held.items c.line_len-n.result (c.line_len-n.ensures.len ∙ ap (prefix_len is_within_line) c.deref.ensures.value)
    (omega (arith, c.pass.held.ok.0, c.len.ensures, c.if-n-len.false)))
    c.clear.ensures.items so.1.1 c.in-Ok.ensures.ok in
    passed_last (prepend_known c.args.held.now.items (g.R.Source.remaining c.args.reader.now)) (g.R.Source.remaining c.more.new.reader) (so.0 ++ c.pass.held.items) c.more.new.held.items both.0 both.1
    (c.in-Ok.ensures.same c.if-not-came.true ∙ c.clear.ensures.items) (c.in-Ok.ensures.end c.if-not-came.true)

pub pass-preserved : goal.pass-preserved
pass-preserved g c =
    let so = c.pass.invariant.passed in
    let both = passed_more (prepend_known c.args.held.now.items (g.R.Source.remaining c.args.reader.now)) (g.R.Source.remaining c.pass.reader) (g.R.Source.remaining c.more.new.reader)
    so.0 c.pass.held.items c.clear.new.self.items c.more.new.held.items so.1.0
    (all_unended c.pass.held.items c.line_len-n.result (c.line_len-n.ensures.len ∙ ap (prefix_len is_within_line) c.deref.ensures.value)
    (omega (arith, c.pass.held.ok.0, c.len.ensures, c.if-n-len.false)))
    c.clear.ensures.items so.1.1 c.in-Ok.ensures.ok in
    record {
      passed = (so.0 ++ c.pass.held.items, (both.0, both.1));
      few = omega (arith, c.if-reads-ge-MOST_READS.false);
      readable = c.in-Ok.ensures.readable ∙ c.pass.invariant.readable;
      calls = omega (arith, c.more.ensures.counted, c.pass.invariant.calls);
      left = omega (arith, c.pass.invariant.left, c.in-Ok.ensures.few, c.clear.ensures.len, c.if-reads-ge-MOST_READS.false);
    }

pub returns-in-Err-clause-readable : goal.returns-in-Err-clause-readable
returns-in-Err-clause-readable g c = grind (arith, common_steps)

pub returns-in-Err-clause-cause : goal.returns-in-Err-clause-cause
returns-in-Err-clause-cause g c = grind (arith, common_steps)

pub returns-then-not-came-clause-read : goal.returns-then-not-came-clause-read
returns-then-not-came-clause-read g c = grind (arith, common_steps)

pub returns-then-not-came-clause-cause : goal.returns-then-not-came-clause-cause
returns-then-not-came-clause-cause g c = grind (arith, common_steps)
