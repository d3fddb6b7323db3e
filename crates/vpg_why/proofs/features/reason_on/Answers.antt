use Rattle.std.proofs.Common.{ℕ, true, List, replicate, sym, ap, subst, ◌∙◌}
use Rattle.std.proofs.lemmas.List.{length-map}
use Rattle.vpg_partial.specs.Known.{literal_of}
use Rattle.vpg_partial.specs.TableLaws.{AreChoicesOf}
use Rattle.vpg_partial.specs.declared.decision.Decision.{Decision}
use Rattle.vpg_products.specs.Growing.{AreRefuted}
use Rattle.vpg_why.specs.declared.question.Aim.TheVariants as aims
use Rattle.vpg_why.specs.Explained.{choices}
use Rattle.vpg_why.proofs.Reasons.{all_are_reason, marked_choices}
use Rattle.vpg_why.proofs.ByFeatures.{refuted_reason}
use Rattle.vpg_why.proofs.features.reason_on.Goals as goal

pub is_refuted-requires-clause-named : goal.is_refuted-requires-clause-named
is_refuted-requires-clause-named c = subst (λ (ds : List Decision). AreChoicesOf c.args.diagram.now.lines (choices ds)) (sym c.deref-2.ensures.value)
    (marked_choices c.args.diagram.now.lines c.deref.result.now (choices c.args.decisions.now) (choices c.in_ok-kept.kept.items) c.in_ok-kept.ensures c.requires.named)

pub returns : goal.returns
returns c = λ game.
    all_are_reason game c.args.diagram.now aims.Any (choices c.args.decisions.now) c.in_ok-all.all.items
    (c.in_ok-all.ensures.items_if_clones_equal (λ y e. e) ∙ ap (λ (n : ℕ). replicate n true) (sym (length-map c.args.decisions.now literal_of))) (c.requires.lost game)

pub returns-then-branch : goal.returns-then-branch
returns-then-branch c = λ game.
    refuted_reason game c.args.diagram.now c.args.decisions.now c.in_ok-kept.kept.items c.args.begun c.in_ok-marks.marks.items c.args.base.now c.in_ok-marks.ensures.count c.in_ok-marks.ensures.first c.requires.base
    (rw c.deref.ensures.value at c.in_ok-kept.ensures)
    (subst (λ (ds : List Decision). AreRefuted c.args.diagram.now.lines c.args.base.now (choices ds)) c.deref-2.ensures.value (c.in_ok-is_refuted.ensures c.if-branch.true))
