-- What the closure of some choices says of their conflicts, and what opening a desk needs.
use Rattle.std.proofs.Common.{◌≡◌, ℕ, ◌<◌, ◌≤◌, ◌⊎◌, inl, inr, Bool, true, false, not, IsTrue, List, [], ◌∷◌, ◌++◌, Contains, sym, ◌∙◌, subst, arith}
use Rattle.std.proofs.lemmas.Bool.{cases_lt}
use Rattle.vpg_guards.specs.declared.tri.Tri.{Tri}
use Rattle.vpg_guards.specs.Formula.{IsBelow}
use Rattle.vpg_diagram.specs.declared.clause.Literal.{Literal}
use Rattle.vpg_diagram.specs.FeatureDiagram.{Line, feature_count}
use Rattle.vpg_diagram.specs.Clauses.{clauses_of, counts_of, feature_in}
use Rattle.vpg_diagram.specs.DiagramText.{NamedDiagram, IsNamedDiagram}
use Rattle.vpg_diagram.proofs.Lists.{All-contained, All-from_contained, All-append, All-back}
use Rattle.vpg_game.specs.Guarded.{AllGuards}
use Rattle.vpg_game.specs.Game.{NamedGame, IsGame, graph_of}
use Rattle.vpg_game.proofs.Graphs.{games_have_graphs}
use Rattle.vpg_partial.specs.Known.{NamesConflict}
use Rattle.vpg_partial.specs.KnownLaws.{HasConflictOf, IsKnownOf}
use Rattle.vpg_partial.specs.TableLaws.{IsKnownTable, AreChoicesOf}
use Rattle.vpg_partial.proofs.KnownLemmas.{conflict_named, known_of_front}
use Rattle.vpg_partial.proofs.ClauseSteps.{not_both_in}
use Rattle.vpg_desk.specs.Setting.{Setting, IsSetting, HasConflict, IsOutside}

-- a table of what is known shows that there is no conflict
pub known_is_consistent : (lines : List Line) (choices : List Literal) (known : List Tri) → IsKnownTable lines choices known → HasConflictOf lines choices → ⊥
known_is_consistent lines choices known t (f, i, o) =
    clash (sym (t.all_known (feature_in f) i) ∙ not_both_in known (feature_in f) (t.all_known _ o))
  where
    clash : true ≡ false → ⊥
    clash e = cc

-- choices of features of the diagram are not outside it
pub not_outside : (setting : Setting) (choices : List Literal) → AreChoicesOf setting.lines choices → IsOutside setting choices → ⊥
not_outside setting choices inside (c, (within, beyond)) =
    let below : c.feature < feature_count setting.lines = All-contained (λ (l : Literal). l.feature < feature_count setting.lines) choices c inside within in
    omega (arith, below, beyond)

-- and choices without a conflict are of features of the diagram
pub choices_inside : (setting : Setting) (choices : List Literal) → ¬ (HasConflict setting choices) → AreChoicesOf setting.lines choices
choices_inside setting choices fine = All-from_contained (λ c. c.feature < feature_count setting.lines) choices (λ c within. decide c within (cases_lt c.feature (feature_count setting.lines)))
  where
    decide : (c : Literal) → Contains choices c → (c.feature < feature_count setting.lines) ⊎ (feature_count setting.lines ≤ c.feature) → c.feature < feature_count setting.lines
    decide c within (inl l) = l
    decide c within (inr l) = absurd (fine (inl (c, (within, l))))

-- one choice more, of a feature of the diagram
pub one_more_inside : (setting : Setting) (choices : List Literal) (c : Literal) → ¬ (HasConflict setting choices) → c.feature < feature_count setting.lines →
    AreChoicesOf setting.lines (choices ++ c ∷ [])
one_more_inside setting choices c fine below =
    All-append (λ (l : Literal). l.feature < feature_count setting.lines) choices (c ∷ []) (choices_inside setting choices fine) (below, tt)

-- the closure found a table: no conflict
pub known_no_conflict : (setting : Setting) (choices : List Literal) (known : List Tri) → AreChoicesOf setting.lines choices → IsKnownTable setting.lines choices known →
    ¬ (HasConflict setting choices)
known_no_conflict setting choices known inside t (inl o) = not_outside setting choices inside o
known_no_conflict setting choices known inside t (inr c) = known_is_consistent setting.lines choices known t c

-- the closure named a conflict: there is one
pub named_has_conflict : (setting : Setting) (choices : List Literal) (f : ℕ) → NamesConflict (clauses_of setting.lines) (counts_of setting.lines) choices f →
    HasConflict setting choices
named_has_conflict setting choices f named = inr (conflict_named (clauses_of setting.lines) (counts_of setting.lines) choices f named)

-- a choice is known
own_choice : (lines : List Line) (choices : List Literal) (l : Literal) → IsKnownOf lines (choices ++ l ∷ []) l
own_choice lines choices l known closed held = (All-back (λ (d : Literal). IsTrue (known d)) choices (l ∷ []) held).0

-- a choice against what is known is a conflict
pub against_known : (lines : List Line) (choices : List Literal) (f : ℕ) (value : Bool) → IsKnownOf lines choices (record { feature = f; value = not value }) →
    HasConflictOf lines (choices ++ record { feature = f; value = value } ∷ [])
against_known lines choices f true k =
    (f, own_choice lines choices (record { feature = f; value = true }), known_of_front (clauses_of lines) (counts_of lines) choices (record { feature = f; value = true } ∷ []) (record { feature = f; value = false }) k)
against_known lines choices f false k =
    (f, known_of_front (clauses_of lines) (counts_of lines) choices (record { feature = f; value = false } ∷ []) (record { feature = f; value = true }) k, own_choice lines choices (record { feature = f; value = false }))

-- a choice of what is known anyway adds no conflict
pub as_known : (lines : List Line) (choices : List Literal) (l : Literal) → IsKnownOf lines choices l → HasConflictOf lines (choices ++ l ∷ []) → HasConflictOf lines choices
as_known lines choices l k (f, one, other) = (
  f,
  (λ known closed held. one known closed (All-append (λ (d : Literal). IsTrue (known d)) choices (l ∷ []) held (k known closed held, tt))),
  (λ known closed held. other known closed (All-append (λ (d : Literal). IsTrue (known d)) choices (l ∷ []) held (k known closed held, tt))),
)

-- a game and a diagram of as many features, without a conflict of the diagram alone
pub setting_stands : (game : NamedGame) (diagram : NamedDiagram) → IsGame game → IsNamedDiagram diagram → game.features ≡ feature_count diagram.lines →
    (HasConflictOf diagram.lines [] → ⊥) → IsSetting (record { game = graph_of game; lines = diagram.lines })
setting_stands game diagram is_game is_diagram same fine =
    let graph = games_have_graphs game is_game in
    record {
      closed = graph.closed;
      named = subst (λ (n : ℕ). AllGuards (IsBelow n) (graph_of game)) same graph.named;
      diagram = is_diagram.diagram;
      opens = fine;
    }
