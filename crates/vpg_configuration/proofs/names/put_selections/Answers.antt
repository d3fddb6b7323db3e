use Rattle.vpg_configuration.specs.Configurations.{selection}
use Rattle.vpg_configuration.proofs.Growing.{grown_mapped, grown_all_mapped}
use Rattle.vpg_configuration.proofs.names.put_selections.Goals as goal

pub loop-line-preserved : goal.loop-line-preserved
loop-line-preserved c =
    grown_mapped selection (λ w. w.now) c.args.lines.now c.loop-line.line-index _ c.args.out.now.items c.loop-line.out.items c.put_selection.new.out.items c.loop-line-test.true c.loop-line.invariant c.in_ok-put_selection.ensures

pub returns : goal.returns
returns c =
    grown_all_mapped selection (λ w. w.now) c.args.lines.now c.loop-line.line-index c.args.out.now.items c.loop-line.out.items c.loop-line-test.false c.loop-line.invariant
