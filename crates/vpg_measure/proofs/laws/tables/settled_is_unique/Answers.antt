use Rattle.vpg_measure.proofs.NumberTables.{settled_unique}
use Rattle.vpg_measure.proofs.laws.tables.settled_is_unique.Goals as goal

pub returns : goal.returns
returns c = λ levels arena s t hs ht ss st bs bt. settled_unique levels arena s t hs ht (bs t ht st) (bt s hs ss)
