-- Configurations on pages that scripts leave.
use Rattle.std.proofs.Common.{◌≡◌, ℕ, List, length, map, Some, ap, ap₂, sym, ◌∙◌}
use Rattle.vpg_configuration.specs.Exports.{configuration_text}
use Rattle.vpg_configuration.specs.declared.form.ConfigurationForm.{ConfigurationForm}
use Rattle.vpg_diagram.specs.declared.clause.Literal.{Literal}
use Rattle.vpg_diagram.specs.DiagramText.{NamedDiagram}
use Rattle.vpg_game.specs.Game.{NamedGame}
use Rattle.vpg_guards.specs.declared.tri.Tri.{Tri}
use Rattle.vpg_measure.specs.Games.{GamesView, ArePageGames}
use Rattle.vpg_measure.specs.Orders.{OrderView}
use Rattle.vpg_trail.specs.Page.{Decision, literal_of}
use Rattle.vpg_script.specs.declared.serving.Ending.{Ending}
use Rattle.vpg_family.specs.declared.known.Context.{Context}
use Rattle.vpg_report.specs.Left.{IsLeft}
use Rattle.vpg_report.specs.Exports.{IsConfiguration, IsExportedAfter}

-- what is known by the games of a page has one value for each name
pub as_many : (game : NamedGame) (diagram : NamedDiagram) (choices : List Literal) (games : GamesView) (known : List Tri) (names : List (List ℕ)) → ArePageGames game diagram choices games → known ≡ games.known → names ≡ diagram.names →
    length known ≡ length names
as_many game diagram choices games known names are k n =
    ap (λ (ts : List Tri). length ts) k ∙ are.known.length_is ∙ sym (ap (λ (ns : List (List ℕ)). length ns) n ∙ are.is_diagram.each_named)

-- the configuration by the games of a page
pub configured : (form : ConfigurationForm) (game : NamedGame) (diagram : NamedDiagram) (decisions said : List Decision) (games : GamesView) (known : List Tri) (names : List (List ℕ)) (text : List ℕ) → ArePageGames game diagram (map literal_of decisions) games →
    text ≡ configuration_text form names known (map literal_of said) → known ≡ games.known → names ≡ diagram.names → said ≡ decisions → IsConfiguration form diagram game decisions text
configured form game diagram decisions said games known names text are is k n d = (
  games.known,
  (
    are.known,
    is ∙ ap (λ (ts : List Tri). configuration_text form names ts (map literal_of said)) k
        ∙ ap₂ (λ (ns : List (List ℕ)) (ds : List Decision). configuration_text form ns games.known (map literal_of ds)) n d,
  ),
)

-- the page of an order that a script leaves
pub exported_left : (diagram : NamedDiagram) (game : NamedGame) (context : Context) (script : List ℕ) (ending : Ending) (order : OrderView) (form : ConfigurationForm) (text : List ℕ) → IsLeft diagram game context script ending (Some order) →
    IsConfiguration form order.diagram order.game order.decisions text → IsExportedAfter diagram game context form script ending text
exported_left diagram game context script ending order form text is on =
    let of = is.2 in
    (is.0, is.1, coe 0 1 (i. IsConfiguration form (of.diagram_is i) (of.game_is i) (of.decisions_are i) text) on)
