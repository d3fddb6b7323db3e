use Rattle.vpg_script.specs.declared.lines.Next.{Next}
use Rattle.vpg_script.specs.declared.lines.NextFault.TheVariants as faults
use Rattle.std.proofs.Common.{Bool, Err, ◌≡◌, ap, ◌∙◌, arith, sym, subst}
use Rattle.std.proofs.lemmas.Grind.{common_steps}
use Rattle.std.specs.List.{prefix_len}
use Rattle.std.specs.Io.KnownBytes.{prepend_known}
use Rattle.vpg_script.specs.Lines.{is_within_line, IsUnended, UnlessUnread}
use Rattle.vpg_script.proofs.LineLemmas.{line_comes, too_long_comes, all_unended}
use Rattle.vpg_script.proofs.lines.next_line.Goals as goal

pub returns-then-n-len-clause-next : goal.returns-then-n-len-clause-next
returns-then-n-len-clause-next g c =
    line_comes (prepend_known c.args.held.now.items (g.R.Source.remaining c.args.reader.now)) (g.R.Source.remaining c.fill.reader) c.fill.held.items c.cut.new.held.items
    c.line_len-n.result c.in-Ok.line c.fill.invariant.kept
    (c.line_len-n.ensures.len ∙ ap (prefix_len is_within_line) c.deref.ensures.value)
    (omega (arith, c.fill.held.ok.0, c.len.ensures, c.if-n-len.true)) c.in-Ok.ensures.line c.in-Ok.ensures.rest

pub returns-then-len-clause-next : goal.returns-then-len-clause-next
returns-then-len-clause-next g c =
    too_long_comes (prepend_known c.args.held.now.items (g.R.Source.remaining c.args.reader.now)) (g.R.Source.remaining c.fill.reader) c.fill.held.items c.line_len-n.result
    c.fill.invariant.kept
    (c.line_len-n.ensures.len ∙ ap (prefix_len is_within_line) c.deref.ensures.value)
    (omega (arith, c.fill.held.ok.0, c.len.ensures, c.if-n-len.false)) (omega (arith, c.fill.held.ok.0, c.len-in-fill.ensures, c.if-len.true))

pub returns-then-reads-ge-MOST_READS-clause-unended : goal.returns-then-reads-ge-MOST_READS-clause-unended
returns-then-reads-ge-MOST_READS-clause-unended g c = λ _.
    all_unended c.fill.held.items c.line_len-n.result (c.line_len-n.ensures.len ∙ ap (prefix_len is_within_line) c.deref.ensures.value)
    (omega (arith, c.fill.held.ok.0, c.len.ensures, c.if-n-len.false))

pub returns-in-Err-clause-unended : goal.returns-in-Err-clause-unended
returns-in-Err-clause-unended g c = λ h.
    let is : c.in-Err.fault ≡ faults.Read = cc h in
    subst IsUnended (sym (c.in-Err.ensures.read_same (ap Err is)))
    (all_unended c.fill.held.items c.line_len-n.result (c.line_len-n.ensures.len ∙ ap (prefix_len is_within_line) c.deref.ensures.value)
    (omega (arith, c.fill.held.ok.0, c.len.ensures, c.if-n-len.false)))

pub returns-in-Err-clause-readable : goal.returns-in-Err-clause-readable
returns-in-Err-clause-readable g c =
    subst (λ (b : Bool). UnlessUnread {A = Next} (Err c.in-Err.fault) (g.R.Source.has_failed c.more.new.reader ≡ b)) c.fill.invariant.readable c.in-Err.ensures.readable

pub last-requires : goal.last-requires
last-requires g c =
    subst IsUnended (sym (c.in-Ok-more.ensures.same c.if-not-came.true))
    (all_unended c.fill.held.items c.line_len-n.result (c.line_len-n.ensures.len ∙ ap (prefix_len is_within_line) c.deref.ensures.value)
    (omega (arith, c.fill.held.ok.0, c.len.ensures, c.if-n-len.false)))

pub returns-in-Err-clause-read : goal.returns-in-Err-clause-read
returns-in-Err-clause-read g c = grind (arith, common_steps)

pub returns-then-not-came-clause-cause : goal.returns-then-not-came-clause-cause
returns-then-not-came-clause-cause g c = grind (arith, common_steps)

pub returns-in-Err-clause-cause : goal.returns-in-Err-clause-cause
returns-in-Err-clause-cause g c = grind (arith, common_steps)

pub returns-then-not-came-clause-read : goal.returns-then-not-came-clause-read
returns-then-not-came-clause-read g c = grind (arith, common_steps)

pub fill-preserved : goal.fill-preserved
fill-preserved g c = grind (arith, common_steps)

pub returns-then-not-came-clause-fewer : goal.returns-then-not-came-clause-fewer
returns-then-not-came-clause-fewer g c = grind (arith, common_steps)

pub returns-then-not-came-clause-next : goal.returns-then-not-came-clause-next
returns-then-not-came-clause-next g c = grind (arith, common_steps)
