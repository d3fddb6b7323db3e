use Rattle.std.proofs.Common.{◌∙◌, inl, inr, map, sym, ap, subst}
use Rattle.vpg_measure.specs.Games.{GamesView}
use Rattle.vpg_measure.specs.Orders.{OrderView}
use Rattle.vpg_partial.specs.Known.{literal_of}
use Rattle.vpg_partial.specs.TableLaws.{IsKnownTable}
use Rattle.vpg_desk.proofs.commit.settles.Goals as goal

pub returns-then-was : goal.returns-then-was
returns-then-was c = λ _. inl c.if-was.true

pub returns-then-is_noted : goal.returns-then-is_noted
returns-then-is_noted c = λ t. inr (
  c.is_noted.ensures c.if-is_noted.true,
  subst (λ (o : OrderView). IsKnownTable o.diagram.lines (map literal_of o.decisions) c.args.present.now.known) c.order-order.ensures.order
      (subst (IsKnownTable c.order-order.result.now.diagram.lines (map literal_of c.order-order.result.now.decisions))
      (sym (c.values.ensures ∙ c.known.ensures ∙ ap (λ (g : GamesView). g.known) c.deref.ensures) ∙ c.are_same.ensures t ∙ c.values-then-is_noted.ensures ∙ c.known-then-is_noted.ensures) c.games.ensures.known),
)
