use Rattle.std.proofs.Common.{ℕ, List, subst}
use Rattle.std.specs.Io.KnownBytes.{prepend_known}
use Rattle.vpg_script.specs.Lines.{ComesKnown}
use Rattle.vpg_script.specs.Results.{AskedBy}
use Rattle.vpg_script.specs.Script.{said}
use Rattle.vpg_script.specs.declared.lines.Next.{Next}
use Rattle.vpg_script.proofs.MannerLemmas.{left_there, line_asked, passed_over}
use Rattle.vpg_script.proofs.answering.next_request.Goals as goal
use Rattle.vpg_script.proofs.answering.next_request.Goals.{then-goes_on+in_ok-pass_line-in-TooLong, else-goes_on}

pub returns-in-Line-clause-outcome : goal.returns-in-Line-clause-outcome
returns-in-Line-clause-outcome g c =
    let a = prepend_known c.args.held.now.items (g.R.Source.remaining c.args.reader.now) in
    let b = prepend_known c.next_line.new.held.items (g.R.Source.remaining c.next_line.new.reader) in
    line_asked c.args.goes_on a b (g.R.Source.remaining c.next_line.new.reader) c.in-Line.read c.asked_by.result
    (subst (λ (n : Next). ComesKnown n a b) c.in-Line.is c.in_ok-read.ensures.next)
    (subst (λ (bytes : List ℕ). AskedBy (said bytes) c.asked_by.result) c.deref.ensures.value c.asked_by.ensures)

pub returns-after-goes_on-clause-outcome : goal.returns-after-goes_on-clause-outcome
returns-after-goes_on-clause-outcome g c =
    let a = prepend_known c.args.held.now.items (g.R.Source.remaining c.args.reader.now) in
    let m = prepend_known c.next_line.new.held.items (g.R.Source.remaining c.next_line.new.reader) in
    let b = prepend_known c.if-goes_on.held.items (g.R.Source.remaining c.if-goes_on.reader) in
    let comes = subst (λ (n : Next). ComesKnown n a m) c.in-TooLong.is c.in_ok-read.ensures.next in
    elim c.if-goes_on.branch [
      | then-goes_on+in_ok-pass_line-in-TooLong w ↦ passed_over c.args.goes_on a m b comes (rw (w.held-is, w.reader-is) w.in_ok-pass_line-in-TooLong.ensures.passed)
      | else-goes_on w ↦ left_there c.args.goes_on a m b comes w.if-goes_on.false
    ]
