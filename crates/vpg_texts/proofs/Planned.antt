-- What a plan's choices do.
use Rattle.std.proofs.Common.{◌≡◌, ℕ, suc, ◌<◌, ◌≤◌, Bool, true, false, List, [], ◌∷◌, length, get_or, Option, Some, None, refl, sym, ◌∙◌, subst, arith, find}
use Rattle.std.specs.Prelude.{map, All, IfSome, if◌then◌else◌, slice_index}
use Rattle.std.proofs.lemmas.List.{length-map, same_lists, get_or_default}
use Rattle.std.proofs.lemmas.List.Elements.{All-from_get_or}
use Rattle.std.proofs.lemmas.Option.{get_or_from_slice_get}
use Rattle.vpg_guards.specs.Formula.{Formula, truth, IsBelow}
use Rattle.vpg_guards.specs.Known.{kleene, IsFinerValue, AreAllKnown}
use Rattle.vpg_guards.proofs.Full.{full_values_decide}
use Rattle.vpg_guards.specs.declared.tri.Tri.{Tri}
use Rattle.vpg_guards.specs.declared.tri.Tri.TheVariants.{No, Unknown, Yes}
use Rattle.vpg_diagram.specs.DiagramText.{NamedDiagram, IsNamedDiagram}
use Rattle.vpg_diagram.specs.FeatureDiagram.{Line, feature_count}
use Rattle.vpg_game.specs.Game.{NamedGame, IsGame, unnamed, graph_of, vertex_ids}
use Rattle.vpg_game.specs.Guarded.{GuardedGame, IsClosedGuarded, AllGuards}
use Rattle.vpg_game.proofs.Graphs.{games_have_graphs}
use Rattle.vpg_game.specs.declared.levels.Level.{Level}
use Rattle.vpg_hope.specs.Games.{Game}
use Rattle.vpg_hope.specs.Arena.{Vertex, IsClosed, vertex_at}
use Rattle.vpg_hope.specs.Hope.{IsFullOf}
use Rattle.vpg_partial.specs.KnownLaws.{IsRemaining}
use Rattle.vpg_partial.specs.TableLaws.{AreChoicesOf, IsKnownTable}
use Rattle.vpg_partial.proofs.Tables.{tables_refine, remaining_products_complete, full_tables_have_one_product}
use Rattle.vpg_measure.specs.Games.{GamesView, ArePageGames}
use Rattle.vpg_measure.specs.Lifts.{AreChoices, choice_of}
use Rattle.vpg_measure.specs.TwoGames.{levels_for, top_for, arena_for}
use Rattle.vpg_measure.proofs.NumberGuards.{possible_number}
use Rattle.vpg_measure.proofs.TwoGames.{arena_length, arena_closed}
use Rattle.vpg_trail.specs.Page.{Hopeful, Dual, Literal, Decision, literal_of}
use Rattle.vpg_texts.specs.Scene.{scene_of, AreProgressTables, AreSettledTables}
use Rattle.vpg_texts.specs.Plan.{AreChosen, IsPlanned, IsPlanFault, PlanWins}
use Rattle.vpg_texts.specs.Text.{plan_text}
use Rattle.vpg_texts.specs.declared.showing.plans.PlanFault.TheVariants.{NotFull, NotSettled}
use Rattle.vpg_texts.proofs.Settled.{all_settled, settled_back}

-- ---- what is known is one table

same_value : (t u : Tri) → IsFinerValue t u → IsFinerValue u t → t ≡ u
same_value No u a b = sym a
same_value Unknown No a b = b
same_value Unknown Unknown a b = refl
same_value Unknown Yes a b = b
same_value Yes u a b = sym a

pub known_is_one : (lines : List Line) (choices : List Literal) (one other : List Tri) → IsKnownTable lines choices one → IsKnownTable lines choices other → one ≡ other
known_is_one lines choices one other is_one is_other =
    same_lists one other count (λ k d l. get_or_default one k d Unknown l ∙ same k ∙ get_or_default other k Unknown d (subst (λ n. k < n) count l))
  where
    count : length one ≡ length other
    count = is_one.length_is ∙ sym is_other.length_is

    same : (k : ℕ) → get_or one k Unknown ≡ get_or other k Unknown
    same k = same_value _ _ (tables_refine lines choices choices one other (λ c within. within) is_one is_other k) (tables_refine lines choices choices other one (λ c within. within) is_other is_one k)

-- ---- chosen successors are vertices

find_within : (P : ℕ → Type 0) (test : ℕ → Bool) (xs : List ℕ) → All P xs → IfSome (find test xs) P
find_within P test [] all = tt
find_within P test (x ∷ xs) all = decide (test x) (all 0 x (omega arith)) (find_within P test xs (λ k d l. all (suc k) d (omega (arith, l))))
  where
    decide : (b : Bool) → P x → IfSome (find test xs) P → IfSome (if b then Some x else find test xs) P
    decide true p rest = p
    decide false p rest = rest

if_found : (P : ℕ → Type 0) (found : Option ℕ) (b : Bool) → IfSome found P → IfSome (if b then found else None) P
if_found P found true f = f
if_found P found false f = tt

choice_within : (P : ℕ → Type 0) (levels : List Level) (table : List ℕ) (x : Vertex) (n : ℕ) → All P x.successors → IfSome (choice_of levels table x n) P
choice_within P levels table x n all = if_found P _ _ (find_within P _ x.successors all)

choices_within : (levels : List Level) (arena : List Vertex) (table : List ℕ) (chosen : List (Option ℕ)) → IsClosed arena → AreChoices levels arena table chosen →
    All (λ w. IfSome w (λ v. v < length arena)) chosen
choices_within levels arena table chosen closed are =
    All-from_get_or (λ w. IfSome w (λ v. v < length arena)) chosen None (λ v l. within v (subst (λ n. v < n) are.0 l))
  where
    within : (v : ℕ) → v < length arena → IfSome (get_or chosen v None) (λ w. w < length arena)
    within v l = subst (λ (w : Option ℕ). IfSome w (λ u. u < length arena)) (sym (get_or_from_slice_get chosen v _ None (are.1 v l)))
        (choice_within (λ w. w < length arena) levels table (vertex_at arena v) (slice_index table v) (closed v _ l))

module _ (game : NamedGame) (known : List Tri) (hopeful : List ℕ) (chosen : List (Option ℕ)) (are : AreChosen known (graph_of game) hopeful chosen) where
  count : length (arena_for (kleene known) Hopeful (graph_of game)) ≡ length game.vertices
  count = arena_length Formula (kleene known) Hopeful (graph_of game) ∙ length-map game.vertices unnamed

  pub chosen_count : length chosen ≡ length game.vertices
  chosen_count = are.0 ∙ count

  pub chosen_within : IsClosedGuarded (graph_of game) → All (λ w. IfSome w (λ v. v < length game.vertices)) chosen
  chosen_within closed = subst (λ n. All (λ w. IfSome w (λ v. v < n)) chosen) count
      (choices_within (levels_for Hopeful (graph_of game)) (arena_for (kleene known) Hopeful (graph_of game)) hopeful chosen (arena_closed Formula (kleene known) Hopeful (graph_of game) closed) are)

-- ---- they win

module _ (P Q : Formula → Type 0) where
  all_guards : (game : GuardedGame Formula) → ((g : Formula) → P g → Q g) → AllGuards P game → AllGuards Q game
  all_guards game f h = λ i d l j e k. f _ (h i d l j e k)

-- where each feature is known, guards have the values that they have in the one product that remains
full_game : (game : NamedGame) (diagram : NamedDiagram) (choices : List Literal) (known : List Tri) (set : List Bool) → IsGame game → IsNamedDiagram diagram →
    game.features ≡ feature_count diagram.lines → IsKnownTable diagram.lines choices known → AreAllKnown (feature_count diagram.lines) known → IsRemaining diagram.lines choices set →
    IsFullOf (kleene known) (truth set) (graph_of game)
full_game game diagram choices known set is_game is_diagram same is_known all remains =
    let n = feature_count diagram.lines in
    all_guards (IsBelow n) _ (graph_of game)
    (λ g below. full_values_decide n known set g all (remaining_products_complete diagram.lines choices known set is_diagram.diagram is_known remains) below)
    (subst (λ (k : ℕ). AllGuards (IsBelow k) (graph_of game)) same (games_have_graphs game is_game).named)

module _ (labels : List (List ℕ)) (game : NamedGame) (diagram : NamedDiagram) (decisions : List Decision) (is_game : IsGame game) (is_diagram : IsNamedDiagram diagram) (same : game.features ≡ feature_count diagram.lines)
    (named : AreChoicesOf diagram.lines (map literal_of decisions)) (known : List Tri) (is_known : IsKnownTable diagram.lines (map literal_of decisions) known) where
  pub plan_wins : (hopeful dual : List ℕ) → AreAllKnown (length known) known → AreProgressTables known (graph_of game) hopeful dual →
      PlanWins (scene_of labels game diagram) decisions hopeful
  plan_wins hopeful dual full settled = of (full_tables_have_one_product diagram.lines (map literal_of decisions) known is_diagram.diagram named is_known all)
    where
      all : AreAllKnown (feature_count diagram.lines) known
      all = subst (λ n. AreAllKnown n known) is_known.length_is full

      of : (set : List Bool) × IsRemaining diagram.lines (map literal_of decisions) set ×
          ((other : List Bool) → IsRemaining diagram.lines (map literal_of decisions) other → other ≡ set) → PlanWins (scene_of labels game diagram) decisions hopeful
      of s = record {
        product = s.0;
        only = record { remaining = s.1; only = s.2 };
        wins = λ chosen under v l low.
            possible_number Formula (kleene known) (truth s.0) (graph_of game) (full_game game diagram (map literal_of decisions) known s.0 is_game is_diagram same is_known all s.1)
            (levels_for Hopeful (graph_of game)) (arena_for (kleene known) Hopeful (graph_of game)) hopeful chosen
            refl (arena_closed Formula (kleene known) Hopeful (graph_of game) (games_have_graphs game is_game).closed) (settled Hopeful).is_table (settled Hopeful).settled
            (subst (λ (k : List Tri). AreChosen k (graph_of game) hopeful chosen) (known_is_one diagram.lines (map literal_of decisions) under.0 known under.1.0 is_known) under.1.1)
            v (subst (λ n. v < n) (sym (arena_length Formula (kleene known) Hopeful (graph_of game))) l) low;
      }

-- ---- a plan over the games of a page

module _ (labels : List (List ℕ)) (game : NamedGame) (diagram : NamedDiagram) (decisions : List Decision) (games : GamesView) (are : ArePageGames game diagram (map literal_of decisions) games) where
  pub chosen_are : (hopeful : List ℕ) (chosen : List (Option ℕ)) → AreChoices games.hopeful_levels games.hopeful_arena hopeful chosen → AreChosen games.known (graph_of game) hopeful chosen
  chosen_are hopeful chosen h =
      subst (λ (a : Game). AreChoices (levels_for Hopeful (graph_of game)) a hopeful chosen) (are.arena Hopeful)
      (subst (λ (s : List Level). AreChoices s games.hopeful_arena hopeful chosen) (are.levels Hopeful) h)

  module _ (hopeful dual : List ℕ) where
    pub not_full : ¬ (AreAllKnown (length games.known) games.known) → IsPlanFault (scene_of labels game diagram) decisions hopeful dual NotFull
    not_full fails = (games.known, (are.known, fails))

    pub not_settled : AreAllKnown (length games.known) games.known → ¬ (AreSettledTables games hopeful dual) → IsPlanFault (scene_of labels game diagram) decisions hopeful dual NotSettled
    not_settled full fails = (games.known, (are.known, (full, λ all. fails (settled_back game diagram (map literal_of decisions) games are hopeful dual all))))

    module _ (hopeful_len : length hopeful ≡ length game.vertices) (dual_len : length dual ≡ length game.vertices)
        (hopeful_within : All (λ n. n ≤ top_for Hopeful (graph_of game)) hopeful) (dual_within : All (λ n. n ≤ top_for Dual (graph_of game)) dual)
        (full : AreAllKnown (length games.known) games.known) (settled : AreSettledTables games hopeful dual) where
      progress : AreProgressTables games.known (graph_of game) hopeful dual
      progress = all_settled game diagram (map literal_of decisions) games are hopeful dual hopeful_len dual_len hopeful_within dual_within settled

      pub planned : (chosen : List (Option ℕ)) (text : List ℕ) → AreChoices games.hopeful_levels games.hopeful_arena hopeful chosen → text ≡ plan_text (vertex_ids game.vertices) labels chosen →
          IsPlanned (scene_of labels game diagram) decisions hopeful dual text
      planned chosen text h text_is = (
        games.known,
        (
          are.known,
          record { full = full; settled = progress; chosen = chosen; chosen_are = chosen_are hopeful chosen h; text_is = text_is },
        ),
      )

      pub planned_wins : game.features ≡ feature_count diagram.lines → AreChoicesOf diagram.lines (map literal_of decisions) → PlanWins (scene_of labels game diagram) decisions hopeful
      planned_wins same named = plan_wins labels game diagram decisions are.is_game are.is_diagram same named games.known are.known hopeful dual full progress
