use Rattle.std.proofs.Common.{◌≡◌, ◌≤◌, [], drop, None}
use Rattle.std.specs.Prelude.{IfSome}
use Rattle.vpg_game.specs.SpelledNames.{no_identifier}
use Rattle.vpg_game.specs.declared.scanning.Mode.TheVariants.{Between}
use Rattle.vpg_game.specs.Scanning.{at, run}
use Rattle.vpg_game.proofs.scanning.scan.Given as goal

abbrev pub invariant-loop-b : goal.invariant-loop-b
invariant-loop-b l = record {
  reads : run l.scanner (drop l.b-index l.text) ≡ run (at Between None [] []) l.text;
  small : IfSome l.scanner.start (λ n. n ≤ no_identifier);
}
