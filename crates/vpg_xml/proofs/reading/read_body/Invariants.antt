use Rattle.std.proofs.Common.{◌≡◌, ◌≤◌, List, Ok, length}
use Rattle.vpg_xml.specs.Elements.{Placed}
use Rattle.vpg_xml.specs.Tokens.{HasPieces}
use Rattle.vpg_xml.specs.Reading.{run, start}
use Rattle.vpg_xml.specs.View.{state_of}
use Rattle.vpg_xml.proofs.reading.read_body.Given as goal

abbrev pub invariant-loop-rest : goal.invariant-loop-rest
invariant-loop-rest l = record {
  pieces : List Placed;
  has : HasPieces l.size l.body pieces l.rest;
  reads : run pieces start ≡ Ok (state_of l.reader);
  within : length l.rest ≤ length l.body;
}

abbrev pub decreases-loop-rest : goal.decreases-loop-rest
decreases-loop-rest l = length l.rest
