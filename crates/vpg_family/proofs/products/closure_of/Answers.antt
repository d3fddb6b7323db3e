use Rattle.std.proofs.Common.{ℕ, ◌<◌, All, subst}
use Rattle.vpg_family.proofs.Choices.{choices_below}
use Rattle.vpg_family.proofs.products.closure_of.Goals as goal

pub known_under-requires : goal.known_under-requires
known_under-requires c =
    choices_below c.args.diagram.now.lines c.args.decisions.now
    (subst (λ (n : ℕ). All (λ d. d.feature < n) c.args.decisions.now) c.features-features.ensures.count (c.are_below.ensures.0 c.if-not-are_below.false))
