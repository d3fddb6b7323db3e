use Rattle.std.proofs.Common.{◌≡◌, take, map}
use Rattle.serde_json.specs.Data.{string}
use Rattle.serde_json.specs.View.{view}
use Rattle.vpg_script.proofs.framing.strings.Given as goal

abbrev pub invariant-loop-line : goal.invariant-loop-line
invariant-loop-line l = map view l.list.items ≡ map (λ w. string w.now) (take l.line-index l.lines)
