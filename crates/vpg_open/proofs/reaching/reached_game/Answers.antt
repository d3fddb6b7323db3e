use Rattle.std.proofs.Common.{List, Bool, subst}
use Rattle.std.specs.Prelude.{IfOk, IfSome}
use Rattle.vpg_game.specs.Game.{NamedGame, graph_of}
use Rattle.vpg_open.specs.ReachedGames.{HasWinnersOf}
use Rattle.vpg_open.proofs.Entries.{settled_none}
use Rattle.vpg_open.proofs.reaching.reached_game.Goals as goal

pub returns-clause-wins : goal.returns-clause-wins
returns-clause-wins c =
    subst (λ (g : NamedGame). IfOk c.reached_settled.result (λ found. IfSome found (λ part. (p : List Bool) →
    HasWinnersOf (graph_of g) c.args.vertex p (graph_of part.game) part.vertex)))
    (settled_none c.args.game.now) c.reached_settled.ensures.wins
