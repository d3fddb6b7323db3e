use Rattle.std.proofs.Common.{List, sym, subst}
use Rattle.vpg_partial.specs.TableLaws.{AreChoicesOf}
use Rattle.vpg_partial.specs.declared.decision.Decision.{Decision}
use Rattle.vpg_why.specs.Explained.{choices}
use Rattle.vpg_why.proofs.Reasons.{marked_choices}
use Rattle.vpg_why.proofs.grounds.is_shown.Goals as goal

pub closed-requires : goal.closed-requires
closed-requires c = subst (λ (ds : List Decision). AreChoicesOf c.args.order.now.diagram.lines (choices ds)) (sym c.deref.ensures.value)
    (marked_choices c.args.order.now.diagram.lines c.in_ok-kept.ensures.0 (choices c.args.decisions.now) (choices c.in_ok-kept.kept.items) c.in_ok-kept.ensures.1 c.requires.named)
