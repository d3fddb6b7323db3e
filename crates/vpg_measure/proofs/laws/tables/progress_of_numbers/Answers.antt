use Rattle.vpg_measure.proofs.NumberTables.{progress_to, progress_from}
use Rattle.vpg_measure.proofs.laws.tables.progress_of_numbers.Goals as goal

pub returns : goal.returns
returns c = λ levels arena table is_table. (progress_to levels arena table is_table, progress_from levels arena table is_table)
