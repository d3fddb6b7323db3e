-- A desk's present page as it is shown.
use Rattle.std.proofs.Common.{◌≡◌, ℕ, ◌+◌, ◌≤◌, ◌++◌, List, length, All, refl, sym, ap, ◌∙◌, subst, inr}
use Rattle.std.specs.Prelude.{map}
use Rattle.std.proofs.lemmas.List.{length-map}
use Rattle.vpg_guards.specs.Formula.{Formula}
use Rattle.vpg_guards.specs.Known.{kleene}
use Rattle.vpg_guards.specs.declared.tri.Tri.{Tri}
use Rattle.vpg_diagram.specs.DiagramText.{NamedDiagram}
use Rattle.vpg_game.specs.Game.{NamedGame, unnamed, graph_of, vertex_ids}
use Rattle.vpg_diagram.specs.FeatureDiagram.{feature_count}
use Rattle.vpg_partial.specs.TableLaws.{AreChoicesOf, IsKnownTable}
use Rattle.vpg_partial.proofs.Closing.{table_exists}
use Rattle.vpg_sides.specs.declared.verdict.Verdict.{Verdict}
use Rattle.vpg_measure.specs.Games.{GamesView, ArePageGames}
use Rattle.vpg_measure.specs.TwoGames.{top_for, IsTableBelow}
use Rattle.vpg_measure.proofs.TwoGames.{arena_length}
use Rattle.vpg_office.specs.Made.{IsPage}
use Rattle.vpg_trail.specs.Page.{Which, Decision, Entry, literal_of, choices_of, table_of}
use Rattle.vpg_trail.specs.WellFormed.{IsWellFormed}
use Rattle.vpg_desk.specs.Book.{Book, Page as AsksPage, PageIs}
use Rattle.vpg_desk.specs.State.{setting_between}
use Rattle.vpg_script.specs.Answer.{done}
use Rattle.vpg_script.specs.declared.tone.Tone.TheVariants as tones
use Rattle.vpg_engine.specs.Client.{IsLogged}
use Rattle.vpg_desk.proofs.Deciding.{choices_inside}
use Rattle.vpg_desk.proofs.Reaching.{reached_well_formed}
use Rattle.vpg_script.specs.Script as script
use Rattle.vpg_texts.specs.Scene.{EntryIsWithin}
use Rattle.vpg_texts.specs.Changed.{changed_text, verdicts_by}
use Rattle.vpg_engine.specs.Answers.{first_call, room, verdicts_on, Continues}
use Rattle.vpg_engine.specs.Held.{with_seen}
use Rattle.vpg_engine.specs.Engine.{EngineState, scene_at, scene_with, AnswersWith}
use Rattle.vpg_engine.proofs.Asked.{asked_by}
use Rattle.vpg_engine.proofs.Within.{entries_within}

module _ {game : NamedGame} {diagram : NamedDiagram} {book : Book} {entries : List Entry} {decisions : List Decision} {hopeful dual : List ℕ} {games : GamesView} (page : IsPage game diagram book entries decisions hopeful dual games) where
  pub page_games : ArePageGames game diagram (map literal_of decisions) games
  page_games = subst (λ (ds : List Decision). ArePageGames game diagram (map literal_of ds) games) (sym page.decided) page.are_games

  inside : AreChoicesOf diagram.lines (choices_of entries)
  inside = choices_inside (setting_between game diagram) (choices_of entries) page.tells.consistent

  pub choices_named : AreChoicesOf diagram.lines (map literal_of decisions)
  choices_named = subst (λ (ds : List Decision). AreChoicesOf diagram.lines (map literal_of ds)) (sym page.decided) inside

  known : (known : List Tri) × IsKnownTable diagram.lines (choices_of entries) known
  known = table_exists diagram.lines (choices_of entries) page.is_setting.diagram inside (λ conflict. page.tells.consistent (inr conflict))

  below : (which : Which) → IsTableBelow (kleene known.0) which (graph_of game) (table_of which entries (length (graph_of game)))
  below which = page.tells.tables known.0 known.1 which

  pub table_length : (which : Which) (table : List ℕ) → table ≡ table_of which entries (length (graph_of game)) → length table ≡ length game.vertices
  table_length which table is = ap length is ∙ (below which).is_table.len ∙ arena_length Formula (kleene known.0) which (graph_of game) ∙ length-map game.vertices unnamed

  pub table_within : (which : Which) (table : List ℕ) → table ≡ table_of which entries (length (graph_of game)) → All (λ n. n ≤ top_for which (graph_of game)) table
  table_within which table is = subst (λ (t : List ℕ). All (λ n. n ≤ top_for which (graph_of game)) t) (sym is) (below which).is_table.within

  pub entries_are_within : All (EntryIsWithin (feature_count diagram.lines) (length game.vertices)) entries
  entries_are_within =
      let formed : IsWellFormed book.present = (reached_well_formed (setting_between game diagram) book page.reached).present in
      subst (λ (n : ℕ). All (EntryIsWithin (feature_count diagram.lines) n) entries) (length-map game.vertices unnamed)
      (entries_within (setting_between game diagram) page.is_setting entries page.tells (subst (λ (p : List Entry). IsWellFormed p) (sym page.present) formed))

-- what changed, with the game and the verdicts as the code has them
pub changed_answers : (labels : List (List ℕ)) (limit : ℕ) → limit ≡ room → (old new : EngineState) (session : ℕ) (game shown : NamedGame) (before after : List ℕ) → game ≡ old.client.desk.game → shown ≡ old.client.desk.game →
    (book : Book) (entries : List Entry) (decisions : List Decision) (hopeful dual : List ℕ) (games : GamesView) → IsPage old.client.desk.game old.client.desk.diagram book entries decisions hopeful dual games →
    IsLogged limit old.client session AsksPage (PageIs entries) new.client → (now : List Verdict) → now ≡ verdicts_by (graph_of game) hopeful dual →
    new.held ≡ with_seen old.held now → (seen present : List Verdict) → seen ≡ old.held.seen → present ≡ now →
    after ≡ before ++ changed_text (vertex_ids shown.vertices) labels seen present →
    AnswersWith labels old (record { label = session; command = script.Changed }) tones.Done before after new
changed_answers labels limit limit_is old new session game shown before after game_is shown_is book entries decisions hopeful dual games page logged now now_is held seen present seen_is present_is appended =
    let same : now ≡ verdicts_on (scene_at old) entries = now_is ∙ (λ i. verdicts_by (graph_of (game_is i)) (page.hopeful_is i) (page.dual_is i)) in
    record {
      by = asked_by limit limit_is session old new (first_call (scene_with labels old) old.held script.Changed) (Continues (scene_with labels old) old.held (old.client.calls + 1) session script.Changed)
          AsksPage (PageIs entries) (done (changed_text (vertex_ids shown.vertices) labels seen present)) before after refl logged
          (refl, (λ i. done (changed_text (vertex_ids (shown_is i).vertices) labels (seen_is i) ((present_is ∙ same) i))), held ∙ ap (with_seen old.held) same) (refl, appended);
    }
