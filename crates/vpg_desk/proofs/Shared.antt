-- Games that are shared.
use Rattle.std.proofs.Common.{◌≡◌, IfOk, Result, Ok, Err, Global, sym, subst}
use Rattle.std.specs.Arc.{arc_value}
use Rattle.std.specs.declared.sync.Arc.{Arc}
use Rattle.vpg_diagram.specs.DiagramText.{NamedDiagram}
use Rattle.vpg_diagram.specs.FeatureDiagram.{feature_count}
use Rattle.vpg_game.specs.Game.{NamedGame, IsAtLimit}
use Rattle.vpg_measure.specs.Games.{GamesView, AreGamesOf, ArePageGames}
use Rattle.vpg_trail.specs.Page.{choices_of}
use Rattle.vpg_desk.specs.DeskFields.{IsDesk}
use Rattle.vpg_desk.specs.declared.desk.Desk.TheInside.{Inside}

-- what holds of games holds of the games that are shared
pub shared_if_ok : {E : Type 0} (P : GamesView → Type 0) (games : GamesView) (r : Result (Arc GamesView Global) E) → P games → IfOk r (λ s. arc_value s ≡ games) →
    IfOk r (λ s. P (arc_value s))
shared_if_ok P games (Ok s) p e = subst P (sym e) p
shared_if_ok P games (Err x) p e = tt

-- the games that a desk holds are made of its game, also as they are read
pub held_at : (d : Inside) → IsDesk d → (game : NamedGame) (diagram : NamedDiagram) (games : GamesView) → game ≡ arc_value d.game → diagram ≡ arc_value d.diagram → games ≡ arc_value d.games →
    AreGamesOf game diagram games
held_at d i game diagram games g e h = (choices_of d.trail.entries, coe 0 1 (k. ArePageGames (sym g k) (sym e k) (choices_of d.trail.entries) (sym h k)) i.games)

-- what the desk was opened with, read through what it shares
pub features_at : (d : Inside) → IsDesk d → (game : NamedGame) (diagram : NamedDiagram) → game ≡ arc_value d.game → diagram ≡ arc_value d.diagram → game.features ≡ feature_count diagram.lines
features_at d i game diagram g e = coe 1 0 (k. (g k).features ≡ feature_count (e k).lines) i.opened.features

pub limit_at : (d : Inside) → IsDesk d → (game : NamedGame) → game ≡ arc_value d.game → ¬ IsAtLimit game
limit_at d i game g = subst (λ (x : NamedGame). ¬ IsAtLimit x) (sym g) i.opened.not_at_limit
