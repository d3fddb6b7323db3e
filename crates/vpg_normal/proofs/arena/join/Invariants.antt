use Rattle.std.proofs.Common.{◌≡◌, ◌+◌, ◌*◌, ◌≤◌, ◌++◌, length, take, drop}
use Rattle.vpg_normal.specs.Placing.{all_symbols, starts_from}
use Rattle.vpg_normal.proofs.arena.join.Given as goal

abbrev pub invariant-loop-form : goal.invariant-loop-form
invariant-loop-form l = record {
  symbols : l.symbols.items ≡ all_symbols (take l.form-index l.forms);
  roots : l.roots.items ++ starts_from (length l.symbols.items) (drop l.form-index l.forms) ≡ starts_from 2 l.forms;
  few : length l.symbols.items ≤ 2 + 65536 * l.form-index;
}
