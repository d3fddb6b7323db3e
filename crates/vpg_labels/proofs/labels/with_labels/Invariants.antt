use Rattle.std.proofs.Common.{◌≡◌, ◌≤◌, ◌++◌, drop}
use Rattle.vpg_labels.specs.declared.labels.Mode.TheVariants.{Front}
use Rattle.vpg_labels.specs.Labelling.{labelled_text}
use Rattle.vpg_labels.proofs.labels.with_labels.Given as goal

abbrev pub invariant-loop-b : goal.invariant-loop-b
invariant-loop-b l = record {
  written : l.out.items ++ labelled_text l.labels l.is_started l.place.mode l.place.v (drop l.b-index l.text) ≡ labelled_text l.labels l.is_started Front 0 l.text;
  few : l.place.v ≤ l.b-index;
}
