use Rattle.std.proofs.Common.{◌≡◌, ◌∙◌, length, ap, sym, arith}
use Rattle.vpg_game.specs.Game.{NamedGame}
use Rattle.vpg_measure.specs.Orders.{OrderView}
use Rattle.vpg_board.specs.Places.{vertices}
use Rattle.vpg_board.proofs.Lone.{rises_none, rises_trans, less_still, lifted_next}
use Rattle.vpg_board.proofs.alone.raise_table.Goals as goal

pub claims-init : goal.claims-init
claims-init g c = record { rises = rises_none c.args.harvest.now c.order.ensures.harvest; lifted = λ v less. absurd (omega (arith, less)) }

pub claims-preserved : goal.claims-preserved
claims-preserved g c =
    let i = c.claims.invariant in
    let r = c.raise_and_hint.ensures in
    let h = c.raise_hinted.ensures in
    let count : c.vertices-count.result ≡ vertices c.args.harvest.now.order =
    c.vertices-count.ensures.count ∙ ap (λ (g : NamedGame). length g.vertices) (c.deref.ensures ∙ c.game.ensures.game ∙ ap (λ (o : OrderView). o.game) c.order.ensures.order) in record {
      rises = rises_trans c.args.harvest.now c.claims.harvest c.raise_hinted.new.harvest i.rises (rises_trans c.claims.harvest c.raise_and_hint.new.harvest c.raise_hinted.new.harvest r.rises h);
      lifted = lifted_next c.args.harvest.now c.claims.harvest c.raise_and_hint.new.harvest c.raise_hinted.new.harvest c.args.which c.claims.v (omega arith) i.lifted i.rises r.rises r.lifted h;
    }

pub returns-clause-lifted : goal.returns-clause-lifted
returns-clause-lifted g c =
    let count : c.vertices-count.result ≡ vertices c.args.harvest.now.order =
    c.vertices-count.ensures.count ∙ ap (λ (g : NamedGame). length g.vertices) (c.deref.ensures ∙ c.game.ensures.game ∙ ap (λ (o : OrderView). o.game) c.order.ensures.order) in
    λ v less. c.claims.invariant.lifted v (omega arith)

pub raise_and_hint-requires-clause-vertex : goal.raise_and_hint-requires-clause-vertex
raise_and_hint-requires-clause-vertex g c =
    let count : c.vertices-count.result ≡ vertices c.args.harvest.now.order =
    c.vertices-count.ensures.count ∙ ap (λ (g : NamedGame). length g.vertices) (c.deref.ensures ∙ c.game.ensures.game ∙ ap (λ (o : OrderView). o.game) c.order.ensures.order) in
    less_still c.args.harvest.now c.claims.harvest c.claims.v c.claims.invariant.rises (omega arith)

pub raise_hinted-requires-clause-game : goal.raise_hinted-requires-clause-game
raise_hinted-requires-clause-game g c =
    c.requires.game ∙ sym (ap (λ (g : NamedGame). length g.vertices) (c.raise_and_hint.ensures.rises.order.game ∙ c.claims.invariant.rises.order.game))

pub raise_and_hint-requires-clause-predecessors : goal.raise_and_hint-requires-clause-predecessors
raise_and_hint-requires-clause-predecessors g c = c.requires.predecessors

pub raise_hinted-requires-clause-predecessors : goal.raise_hinted-requires-clause-predecessors
raise_hinted-requires-clause-predecessors g c = c.requires.predecessors

pub raise_hinted-requires-clause-harvest : goal.raise_hinted-requires-clause-harvest
raise_hinted-requires-clause-harvest g c = c.raise_and_hint.ensures.rises.to
