use Rattle.std.proofs.Common.{refl}
use Rattle.vpg_winners.proofs.Samples.{findings_found}
use Rattle.vpg_winners.proofs.gathering.findings_by.Goals as goal

pub returns : goal.returns
returns c game diagram aim own are =
    findings_found game diagram aim own (record { met = c.args.met; forced = c.new.result }) c.args.met.items refl
    c.new.ensures.items are
