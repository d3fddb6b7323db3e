use Rattle.std.proofs.Common.{◌∙◌, ◌-◌, nat_eq, length, take, drop, sym, ap, refl, arith}
use Rattle.std.proofs.lemmas.Bool.Decides.{nat_tests}
use Rattle.std.proofs.lemmas.List.{take_rest}
use Rattle.std.specs.Cmp.Lexicographic.{pointwise, same_text, other_text}
use Rattle.vpg_journal.specs.Head.{head_under}
use Rattle.vpg_journal.proofs.Reading.{head_parts, is_other, not_other}
use Rattle.vpg_journal.proofs.head.refusal.Goals as goal

pub returns-then-version-ne-VERSION : goal.returns-then-version-ne-VERSION
returns-then-version-ne-VERSION c =
    let rest = c.in-Some.rest.now in
    (grind (arith, nat_tests), (drop 1 rest, head_parts c.args.text.now rest _ (same_text _ _ (sym c.in-Some.ensures.cases.0)) c.in-Some.ensures.cases.1 c.in-len1-up.len_at_least refl))

pub returns-then-ne : goal.returns-then-ne
returns-then-ne c =
    let rest = c.in-Some.rest.now in
    let found = take (length rest - 1) (drop 1 rest) in
    let family = c.args.family.now in (
      drop 1 rest,
      λ same. other_text found family (is_other (pointwise nat_eq found family) c.ne.result c.ne.ensures c.if-ne.true) (take_rest rest 1 ∙ same),
      head_parts c.args.text.now rest 1 (same_text _ _ (sym c.in-Some.ensures.cases.0)) c.in-Some.ensures.cases.1 c.in-len1-up.len_at_least (grind (arith, nat_tests)),
    )

pub returns : goal.returns
returns c =
    let rest = c.in-Some.rest.now in
    let found = take (length rest - 1) (drop 1 rest) in
    let family = c.args.family.now in
    head_parts c.args.text.now rest 1 (same_text _ _ (sym c.in-Some.ensures.cases.0)) c.in-Some.ensures.cases.1 c.in-len1-up.len_at_least (grind (arith, nat_tests))
    ∙ ap (head_under 1) (sym (take_rest rest 1) ∙ same_text found family (not_other (pointwise nat_eq found family) c.ne.result c.ne.ensures c.if-ne.false))
