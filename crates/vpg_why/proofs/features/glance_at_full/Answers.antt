use Rattle.std.proofs.Common.{ℕ, true, replicate, sym, ap, refl, ◌∙◌}
use Rattle.std.proofs.lemmas.List.{length-map}
use Rattle.vpg_partial.specs.Known.{literal_of}
use Rattle.vpg_why.specs.declared.question.Aim.TheVariants as aims
use Rattle.vpg_why.specs.Explained.{choices}
use Rattle.vpg_why.proofs.Reasons.{all_are_reason}
use Rattle.vpg_why.proofs.features.glance_at_full.Goals as goal

pub returns-in-Some : goal.returns-in-Some
returns-in-Some c = rw c.in-Some.is at c.in_ok-only.ensures.some

pub returns : goal.returns
returns c = λ game.
    all_are_reason game c.args.diagram.now aims.Any (choices c.args.decisions.now) c.in_ok-marks.marks.items
    (c.in_ok-marks.ensures.items_if_clones_equal (λ y e. e) ∙ ap (λ (n : ℕ). replicate n true) (sym (length-map c.args.decisions.now literal_of))) ((rw c.in_default.is at c.in_ok-only.ensures.none) refl game)
