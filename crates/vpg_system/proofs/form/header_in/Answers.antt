use Rattle.std.proofs.Common.{sym, ◌∙◌, arith}
use Rattle.vpg_system.proofs.Headers.{header_short, header_long, eight_words}
use Rattle.vpg_system.proofs.form.header_in.Goals as goal

pub returns-in-empty : goal.returns-in-empty
returns-in-empty c = header_short c.args.words.now (let l = c.in-empty.len_below in omega (arith, l))

pub returns-in-len7 : goal.returns-in-len7
returns-in-len7 c = header_short c.args.words.now c.in-len7.len_below

pub returns-in-len9-up : goal.returns-in-len9-up
returns-in-len9-up c = header_long c.args.words.now c.in-len9-up.len_at_least

pub returns-then-same : goal.returns-then-same
returns-then-same c =
    eight_words c.args.words.now _ _ _ _ _ c.in-len8.len_at_least c.in-len8.len_below
    (sym c.same.ensures ∙ c.if-same.true) c.source_of-first.ensures c.middle_of-count.ensures c.target_of-states.ensures c.make_header.ensures
