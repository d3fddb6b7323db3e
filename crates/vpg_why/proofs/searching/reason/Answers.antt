use Rattle.std.proofs.Common.{ℕ, true, List, replicate, sym, ap, subst, ◌∙◌}
use Rattle.std.proofs.lemmas.List.{length-map}
use Rattle.vpg_partial.specs.Known.{literal_of}
use Rattle.vpg_partial.specs.TableLaws.{AreChoicesOf}
use Rattle.vpg_partial.specs.declared.decision.Decision.{Decision}
use Rattle.vpg_why.specs.Explained.{choices}
use Rattle.vpg_why.proofs.Reasons.{all_are_reason, marked_choices}
use Rattle.vpg_why.proofs.searching.reason.Goals as goal

pub look-requires-clause-named : goal.look-requires-clause-named
look-requires-clause-named c = subst (λ (ds : List Decision). AreChoicesOf c.args.order.now.diagram.lines (choices ds)) (sym c.deref-then-decisions-begun.ensures.value)
    (marked_choices c.args.order.now.diagram.lines c.deref.result.now (choices c.args.decisions.now) (choices c.in_ok-kept.kept.items) c.in_ok-kept.ensures c.requires.named)

pub returns-clause-reason : goal.returns-clause-reason
returns-clause-reason c =
    all_are_reason c.args.order.now.game c.args.order.now.diagram c.args.aim (choices c.args.decisions.now) c.in_ok-all.all.items
    (c.in_ok-all.ensures.items_if_clones_equal (λ y e. e) ∙ ap (λ (n : ℕ). replicate n true) (sym (length-map c.args.decisions.now literal_of))) c.requires.lost
