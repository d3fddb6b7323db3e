use Rattle.vpg_why.specs.Explained.{choices}
use Rattle.vpg_winners.proofs.Looking.{won_is_told, lost_is_told, won_alone, lost_alone, unsettled_all}
use Rattle.vpg_winners.proofs.OneWins.{even_wins, odd_wins}
use Rattle.vpg_winners.proofs.standing.look_under.Goals as goal
use Rattle.vpg_winners.proofs.standing.look_under.Goals.{in-Lost-2, in-Met-2, in-Open, in-Unsettled}

pub returns-in-Lost : goal.returns-in-Lost
returns-in-Lost c = record {
  standing = odd_wins c.args.order.now.game c.args.order.now.diagram (choices c.args.decisions.now) c.args.vertex
      c.game-order.ensures.order.game c.requires.vertex (rw c.in-Lost.is at c.in_ok-look_at_games.ensures.outlook);
  settled = λ s t. lost_is_told;
  looks = c.in_ok-look_at_games.ensures.looks;
}

pub returns-in-Met : goal.returns-in-Met
returns-in-Met c = let o = rw c.in-Met.is at c.in_ok-look_at_games.ensures.outlook in record {
  standing = won_alone c.args.order.now.game c.args.order.now.diagram (choices c.args.decisions.now) c.args.vertex
      _ o.0 o.1;
  settled = λ s t. won_is_told;
  looks = c.in_ok-look_at_games.ensures.looks;
}

pub returns-clause-standing : goal.returns-clause-standing
returns-clause-standing c =
    let game = c.args.order.now.game in
    let diagram = c.args.order.now.diagram in
    let now = choices c.args.decisions.now in
    elim c.match-branch-4.branch [
      | in-Lost-2 w ↦ rw w.result-is (even_wins game diagram now c.args.vertex c.game-order.ensures.order.game
          c.requires.vertex (rw w.in-Lost-2.is at c.in_ok-feature.ensures.outlook))
      | in-Met-2 w ↦ let o = rw w.in-Met-2.is at c.in_ok-feature.ensures.outlook in
          rw w.result-is (lost_alone game diagram now c.args.vertex _ o.0 o.1)
      | in-Open w ↦ rw w.result-is (rw w.in-Open.is at c.in_ok-feature.ensures.outlook)
      | in-Unsettled w ↦ rw w.result-is (unsettled_all game diagram now c.args.vertex)
    ]
