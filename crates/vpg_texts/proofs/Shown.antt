-- What is shown of a page: decisions of a diagram's features, without a conflict.
use Rattle.std.specs.Bool.{Decides}
use Rattle.std.proofs.Common.{Bool, length, ap₂, ◌≡◌, ℕ, zero, suc, ◌<◌, List, [], ◌∷◌, ◌++◌, sym, ap, ◌∙◌, arith, subst, Result, Ok, Err}
use Rattle.std.specs.Prelude.{map, All, OnOk, is_ok, if◌then◌else◌}
use Rattle.vpg_diagram.specs.FeatureDiagram.{Line, feature_count}
use Rattle.vpg_diagram.specs.DiagramText.{NamedDiagram}
use Rattle.vpg_game.specs.Game.{NamedGame, graph_of, vertex_ids}
use Rattle.vpg_game.specs.Levels.{top_of}
use Rattle.vpg_guards.specs.Known.{AreAllKnown}
use Rattle.vpg_measure.specs.Games.{GamesView, ArePageGames}
use Rattle.vpg_sides.specs.declared.which.Which.TheVariants.{Hopeful, Dual}
use Rattle.vpg_measure.specs.TwoGames.{top_for}
use Rattle.vpg_diagram.specs.declared.clause.Literal.{Literal}
use Rattle.vpg_partial.specs.declared.decision.Decision.{Decision}
use Rattle.vpg_partial.specs.Known.{literal_of}
use Rattle.vpg_partial.specs.TableLaws.{AreChoicesOf}
use Rattle.vpg_texts.specs.Scene.{AreProgressTables, TellsUnder, shown_lines, scene_of}
use Rattle.vpg_texts.specs.Text.{show_text}

pub named_below : (lines : List Line) (n : ℕ) (decisions : List Decision) → AreChoicesOf lines (map literal_of decisions) → n ≡ feature_count lines →
    All (λ d. d.feature < n) decisions
named_below lines n [] named is k d l = absurd (omega (arith, l))
named_below lines n (x ∷ decisions) named is zero d l = subst (λ (m : ℕ). x.feature < m) (sym is) named.0
named_below lines n (x ∷ decisions) named is (suc k) d l = named_below lines n decisions named.1 is k d (omega (arith, l))

pub on_ok : {E : Type 0} (r : Result (Unit {0}) E) (P Q : Type 0) → (P → Q) → OnOk r P → OnOk r Q
on_ok (Ok done) P Q f p = f p
on_ok (Err e) P Q f p = tt

pub appended : {E : Type 0} (r : Result (Unit {0}) E) (new longer same : List ℕ) → new ≡ (if is_ok r then longer else same) → OnOk r (new ≡ longer)
appended (Ok done) new longer same is = is
appended (Err e) new longer same is = tt

-- what was written into an empty buffer
pub written : (text after before body : List ℕ) → text ≡ after → after ≡ before ++ body → before ≡ [] → text ≡ body
written text after before body same more empty = same ∙ more ∙ ap (λ (bytes : List ℕ). bytes ++ body) empty

-- what is written over the games of a page, into an empty buffer
pub tells : {A : Type 0} (game : NamedGame) (diagram : NamedDiagram) (choices : List Literal) (games : GamesView) → ArePageGames game diagram choices games →
    (text_of : ℕ → ℕ → Bool → Bool → A) (full settled : Bool) (hopeful dual : List ℕ) (text : A) →
    Decides full (AreAllKnown (length games.known) games.known) → Decides settled (AreProgressTables games.known (graph_of game) hopeful dual) →
    text ≡ text_of (top_of games.hopeful_levels) (top_of games.dual_levels) full settled →
    TellsUnder (graph_of game) games.known hopeful dual (text_of (top_for Hopeful (graph_of game)) (top_for Dual (graph_of game))) text
tells game diagram choices games are text_of full settled hopeful dual text full_is settled_is text_is = record {
  full = full;
  settled = settled;
  full_is = full_is;
  settled_is = settled_is;
  text_is = text_is ∙ ap₂ (λ (first second : ℕ). text_of first second full settled) (ap top_of (are.levels Hopeful)) (ap top_of (are.levels Dual));
}

-- the lines of a page
pub shows : (game : NamedGame) (diagram : NamedDiagram) (decisions : List Decision) (games : GamesView) → ArePageGames game diagram (map literal_of decisions) games →
    (full settled : Bool) (hopeful dual before text : List ℕ) (names labels : List (List ℕ)) → names ≡ diagram.names → before ≡ [] →
    Decides full (AreAllKnown (length games.known) games.known) → Decides settled (AreProgressTables games.known (graph_of game) hopeful dual) →
    text ≡ before ++ show_text names (vertex_ids game.vertices) labels (top_of games.hopeful_levels) (top_of games.dual_levels) (map literal_of decisions) full settled hopeful dual →
    TellsUnder (graph_of game) games.known hopeful dual (shown_lines (scene_of labels game diagram) decisions hopeful dual) text
shows game diagram decisions games are full settled hopeful dual before text names labels names_is empty full_is settled_is text_is =
    tells game diagram (map literal_of decisions) games are
    (λ first second full settled. show_text diagram.names (vertex_ids game.vertices) labels first second (map literal_of decisions) full settled hopeful dual)
    full settled hopeful dual text full_is settled_is
    (text_is
    ∙ ap (λ (bytes : List ℕ). bytes ++ show_text names (vertex_ids game.vertices) labels (top_of games.hopeful_levels) (top_of games.dual_levels) (map literal_of decisions) full settled hopeful dual) empty
    ∙ ap (λ (ns : List (List ℕ)). show_text ns (vertex_ids game.vertices) labels (top_of games.hopeful_levels) (top_of games.dual_levels) (map literal_of decisions) full settled hopeful dual) names_is)
