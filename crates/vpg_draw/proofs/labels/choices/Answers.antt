use Rattle.vpg_draw.proofs.Growing.{grown_mapped, grown_all_mapped}
use Rattle.vpg_partial.specs.Known.{literal_of}
use Rattle.vpg_draw.specs.Labels.{choice_text}
use Rattle.vpg_draw.proofs.labels.choices.Goals as goal

pub loop-d-preserved : goal.loop-d-preserved
loop-d-preserved c =
    grown_mapped (choice_text c.args.names.now) literal_of c.args.decisions.now c.loop-d.d-index _ c.args.out.now.items c.loop-d.out.items c.choice.new.out.items c.loop-d-test.true c.loop-d.invariant c.in_ok-choice.ensures

pub returns : goal.returns
returns c =
    grown_all_mapped (choice_text c.args.names.now) literal_of c.args.decisions.now c.loop-d.d-index c.args.out.now.items c.loop-d.out.items c.loop-d-test.false c.loop-d.invariant
