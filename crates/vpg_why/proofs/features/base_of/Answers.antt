use Rattle.std.proofs.Common.{List, take, refl, sym, ◌∙◌, subst}
use Rattle.vpg_diagram.specs.declared.clause.Literal.{Literal}
use Rattle.vpg_guards.specs.declared.tri.Tri.{Tri}
use Rattle.vpg_products.specs.Growing.{AreShown}
use Rattle.vpg_why.specs.Explained.{choices}
use Rattle.vpg_why.proofs.ByFeatures.{first_choices, first_named, shown_of_table}
use Rattle.vpg_why.proofs.features.base_of.Goals as goal

pub closed-requires : goal.closed-requires
closed-requires c = first_named c.args.order.now.diagram.lines c.args.decisions.now (take c.args.begun c.args.decisions.now) c.args.begun refl c.requires.named

pub returns-in_ok-from_slice-in-Some : goal.returns-in_ok-from_slice-in-Some
returns-in_ok-from_slice-in-Some c =
    let lines = c.args.order.now.diagram.lines in
    let first = take c.args.begun c.args.decisions.now in
    subst (λ (ts : List Tri). AreShown lines (take c.args.begun (choices c.args.decisions.now)) ts) (sym (c.in_ok-from_slice-in-Some.ensures.items ∙ c.values.ensures))
    (subst (λ (cs : List Literal). AreShown lines cs c.in-Some.known) (first_choices c.args.decisions.now first c.args.begun refl)
    (shown_of_table lines (choices first) c.in-Some.known c.game-order.ensures.order.diagram.diagram (rw c.in-Some.is at c.in_ok-known.ensures.known)))
