use Rattle.std.proofs.Common.{◌∙◌, ap}
use Rattle.vpg_written.proofs.Tasks.{tree_at_place}
use Rattle.vpg_written.proofs.Lookups.{around_more}
use Rattle.vpg_written.specs.Naming.{around_of}
use Rattle.vpg_written.specs.declared.task.Binder.TheVariants as binders
use Rattle.vpg_written.proofs.opening.at_inside.Goals as goal

pub returns : goal.returns
returns c = λ g t h k. tree_at_place g _ _ _ _ _ t k h (ap around_of c.in_ok-push.ensures.items ∙ around_more c.args.place.scope.items (binders.Named c.args.name))
