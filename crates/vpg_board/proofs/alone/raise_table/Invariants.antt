use Rattle.vpg_board.specs.Alone.{Rises, AreLifted}
use Rattle.vpg_board.proofs.alone.raise_table.Given as goal

abbrev pub invariant-claims : goal.invariant-claims
invariant-claims g l = record {
  rises : Rises l.fn.harvest l.harvest;
  lifted : AreLifted l.which l.fn.harvest l.harvest l.v;
}
