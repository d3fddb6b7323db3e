use Rattle.vpg_why.proofs.Ahead.{none_found}
use Rattle.vpg_why.proofs.foreseeing.no_findings.Goals as goal

pub returns : goal.returns
returns c = λ game diagram aim own. none_found game diagram aim own _ c.new.ensures.items c.new-2.ensures.items
