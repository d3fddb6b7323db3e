use Rattle.vpg_measure.proofs.Below.{least_of_numbers, least_table_exists, least_number_decides, win_gives_numbers, dual_top_refutes}
use Rattle.vpg_measure.proofs.laws.tables.least.Goals as goal

pub returns : goal.returns
returns c = record {
  numbers = least_of_numbers;
  exists = least_table_exists;
  decides = least_number_decides;
  win = win_gives_numbers;
  dual = dual_top_refutes;
}
