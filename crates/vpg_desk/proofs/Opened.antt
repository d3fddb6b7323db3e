-- What a refused opening tells of the game and the diagram that were handed in.
use Rattle.std.proofs.Common.{◌≡◌, ◌↔◌, ℕ, [], Result, Err, sym, subst}
use Rattle.vpg_diagram.specs.FeatureDiagram.{feature_count}
use Rattle.vpg_measure.specs.Games.{GamesView, ArePageGames}
use Rattle.vpg_desk.specs.State.{IsOpened}
use Rattle.vpg_desk.proofs.Deciding.{setting_stands, known_is_consistent}
use Rattle.vpg_diagram.specs.DiagramText.{NamedDiagram}
use Rattle.vpg_game.specs.Game.{NamedGame, IsAtLimit}
use Rattle.vpg_partial.specs.KnownLaws.{HasConflictOf}
use Rattle.vpg_faults.specs.declared.fault.OpenFault.{OpenFault}
use Rattle.vpg_faults.specs.declared.fault.OpenFault.TheVariants.{AtLimit, Conflict}

err_is : {T : Type 0} (a b : OpenFault) → ◌≡◌ {A = Result T OpenFault} (Err a) (Err b) → a ≡ b
err_is a b e = cc

pub limit_told : {T : Type 0} (read game : NamedGame) (fault : OpenFault) → read ≡ game → ◌≡◌ {A = Result T OpenFault} (Err fault) (Err AtLimit) ↔ IsAtLimit read → (fault ≡ AtLimit) ↔ IsAtLimit game
limit_told read game fault e t = (λ f. subst IsAtLimit e (t.0 (λ k. Err (f k))), λ l. err_is fault AtLimit (t.1 (subst IsAtLimit (sym e) l)))

pub conflict_told : {T : Type 0} (read diagram : NamedDiagram) (fault : OpenFault) (f : ℕ) → read ≡ diagram → (◌≡◌ {A = Result T OpenFault} (Err fault) (Err (Conflict f)) → HasConflictOf read.lines [] × (f ≡ 0)) → fault ≡ Conflict f →
    HasConflictOf diagram.lines [] × (f ≡ 0)
conflict_told read diagram fault f e t is = subst (λ (x : NamedDiagram). HasConflictOf x.lines [] × (f ≡ 0)) e (t (λ k. Err (is k)))

-- a game and a diagram whose games stand open a desk
pub opening_stands : (game : NamedGame) (diagram : NamedDiagram) (games : GamesView) → game.features ≡ feature_count diagram.lines → ArePageGames game diagram [] games → IsOpened game diagram
opening_stands game diagram games features are = record {
  is_setting = setting_stands game diagram are.is_game are.is_diagram features (known_is_consistent diagram.lines [] games.known are.known);
  is_game = are.is_game;
  is_named = are.is_diagram;
  features = features;
  not_at_limit = are.not_at_limit;
}
