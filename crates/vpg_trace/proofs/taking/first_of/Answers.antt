use Rattle.std.proofs.Common.{sym, ◌∙◌}
use Rattle.vpg_trace.specs.Taking.{fits}
use Rattle.vpg_trace.proofs.Fitting.{first_at, none_at, none_more}
use Rattle.vpg_trace.proofs.taking.first_of.Goals as goal

pub returns-then-fits : goal.returns-then-fits
returns-then-fits c =
    sym (first_at (fits c.args.known.now c.args.source.now.sets.items c.args.source.now.parts.items c.args.wanted.set c.args.wanted.place c.args.wanted.to c.args.wanted.value) c.args.transitions.now
    c.loop-i.i c.index-transitions-i.result c.loop-i-test.true c.index-transitions-i.is c.loop-i.invariant (sym c.fits.ensures ∙ c.if-fits.true))

pub loop-i-preserved : goal.loop-i-preserved
loop-i-preserved c =
    none_more (fits c.args.known.now c.args.source.now.sets.items c.args.source.now.parts.items c.args.wanted.set c.args.wanted.place c.args.wanted.to c.args.wanted.value) c.args.transitions.now
    c.loop-i.i c.index-transitions-i.result c.loop-i-test.true c.index-transitions-i.is c.loop-i.invariant (sym c.fits.ensures ∙ c.if-fits.false)

pub returns : goal.returns
returns c =
    sym (none_at (fits c.args.known.now c.args.source.now.sets.items c.args.source.now.parts.items c.args.wanted.set c.args.wanted.place c.args.wanted.to c.args.wanted.value) c.args.transitions.now
    c.loop-i.i c.loop-i-test.false c.loop-i.invariant)
