use Rattle.std.proofs.Common.{◌≡◌, ◌<◌, ◌++◌, sym, ◌∙◌}
use Rattle.vpg_diagram.specs.FeatureDiagram.{feature_count}
use Rattle.vpg_diagram.proofs.Lists.{All-append}
use Rattle.vpg_why.specs.Explained.{choices}
use Rattle.vpg_looks.proofs.winners.amount.Goals as goal

pub number-requires : goal.number-requires
number-requires c =
    let order = c.args.order.now in
    rw (c.deref-2.ensures, c.diagram.ensures.diagram, c.deref-3.ensures.value, c.in_ok-more.ensures, c.decisions.ensures.decisions, c.deref.ensures.value)
    (All-append (λ l. l.feature < feature_count order.diagram.lines) (choices order.decisions) c.args.part.now.literals.items
    c.decisions.ensures.order.named c.requires.named)

pub returns : goal.returns
returns c =
    let all : choices c.deref-3.result.now ≡ choices c.args.order.now.decisions ++ c.args.part.now.literals.items =
    rw (c.deref-3.ensures.value, c.in_ok-more.ensures, c.decisions.ensures.decisions, c.deref.ensures.value) in
    let settled = rw (c.deref-2.ensures, c.diagram.ensures.diagram, all) at c.in_ok-count.ensures.settled in record {
      number = rw (c.deref-2.ensures, c.diagram.ensures.diagram, all) at c.in_ok-count.ensures.number;
      settled = λ ends. settled ends.0 ends.1 ends.2;
    }

pub returns-in-Some : goal.returns-in-Some
returns-in-Some c =
    record { number = rw (sym c.in_ok-found.ensures ∙ c.in-Some.is) at c.requires.number; settled = λ ends. tt }
