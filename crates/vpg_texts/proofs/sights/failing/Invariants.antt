use Rattle.std.proofs.Common.{◌≡◌, ◌++◌, take}
use Rattle.std.specs.Prelude.{flat_map}
use Rattle.vpg_texts.specs.Sights.{failing_text}
use Rattle.vpg_texts.proofs.sights.failing.Given as goal

abbrev pub invariant-loop-c : goal.invariant-loop-c
invariant-loop-c l = l.out.items ≡ l.fn.out.items ++ flat_map (failing_text l.settled l.hopeless l.sure) (take l.c-index l.claims)
