use Rattle.std.proofs.Common.{◌≡◌, ◌-◌, suc, drop, take, true, Some, sym, ap, ◌∙◌, subst, arith}
use Rattle.std.proofs.lemmas.List.{take_rest}
use Rattle.vpg_system.specs.SystemText.{lacks}
use Rattle.vpg_system.proofs.Cuts.{last_at, last_none}
use Rattle.vpg_system.proofs.text.cut_last.Goals as goal

pub returns-then-text-len : goal.returns-then-text-len
returns-then-text-len c =
    let len = c.loop-len.len in
    let text = c.args.text.now in
    let more = c.loop-len-test.true in
    let within = c.loop-len.invariant.within in
    let e : len ≡ suc (len - 1) = omega (arith, more) in
    ap (λ rest. Some (take (len - 1) text, rest)) (take_rest text len ∙ ap (λ k. drop k text) e)
    ∙ sym (last_at c.args.sign text (len - 1) 0 (omega (arith, more, within)) c.if-text-len.true
    (subst (λ k. lacks c.args.sign (drop k text) ≡ true) e c.loop-len.invariant.none))

pub returns : goal.returns
returns c =
    let done = c.loop-len-test.false in
    let e : c.loop-len.len ≡ 0 = omega (arith, done) in
    sym (last_none c.args.sign c.args.text.now (subst (λ k. lacks c.args.sign (drop k c.args.text.now) ≡ true) e c.loop-len.invariant.none))
