-- The standing of a vertex under choices before any split. This project's own.
use Rattle.std.specs.Prelude.{◌≢◌, ℕ, ⊤, List}
use Rattle.vpg_diagram.specs.DiagramText.{NamedDiagram}
use Rattle.vpg_diagram.specs.declared.clause.Literal.{Literal}
use Rattle.vpg_game.specs.Game.{NamedGame, graph_of}
use Rattle.vpg_why.specs.Found.{IsOpen}
use Rattle.vpg_winners.specs.declared.parts.Winner.TheVariants.{Unsettled as LimitMet}
use Rattle.vpg_winners.specs.declared.standing.Standing.{Standing}
use Rattle.vpg_winners.specs.declared.standing.Standing.TheVariants as stands
use Rattle.vpg_winners.specs.Decided.{HasRemaining, NoneRemains}
use Rattle.vpg_winners.specs.Winners.{AreWonAs}

-- No product agrees with the choices. Or one does, with this winner, or a limit was met. Or each that does has this
-- winner, whether there is one or not. Or this is the first feature that is not known.
abbrev pub IsStanding : NamedGame → NamedDiagram → ℕ → List Literal → Standing → Type 0
IsStanding game diagram vertex choices stands.Empty = NoneRemains diagram.lines choices
IsStanding game diagram vertex choices (stands.Only winner) =
    (winner ≢ LimitMet → HasRemaining diagram.lines choices)
    × AreWonAs (graph_of game) diagram.lines choices vertex winner
IsStanding game diagram vertex choices (stands.Each winner) =
    AreWonAs (graph_of game) diagram.lines choices vertex winner
IsStanding game diagram vertex choices (stands.Open feature) = IsOpen diagram choices feature

-- no limit was met
abbrev pub IsStandingExact : Standing → Type 0
IsStandingExact stands.Empty = ⊤
IsStandingExact (stands.Only winner) = winner ≢ LimitMet
IsStandingExact (stands.Each winner) = winner ≢ LimitMet
IsStandingExact (stands.Open feature) = ⊤
