-- Two lists of moves are one text.
use Rattle.std.proofs.Common.{◌≡◌, ℕ, ◌<◌, Option, Some, None, List, length, get_or, refl, sym, ap, ◌∙◌, subst}
use Rattle.std.proofs.Math.Nat.{le_antisymm}
use Rattle.std.proofs.lemmas.List.{same_lists, get_or_default}
use Rattle.std.proofs.lemmas.Option.{get_or_from_slice_get}
use Rattle.vpg_guards.specs.declared.tri.Tri.{Tri}
use Rattle.vpg_game.specs.declared.levels.Level.{Level}
use Rattle.vpg_hope.specs.Games.{Game}
use Rattle.vpg_measure.specs.Least.{IsLeastTable}
use Rattle.vpg_measure.specs.Lifts.{AreChoices}
use Rattle.vpg_measure.specs.TwoGames.{levels_for}
use Rattle.vpg_sides.specs.declared.which.Which.{Which}
use Rattle.vpg_why.specs.Moves.{AreLeastMoves, AreWinning, caution_for}
use Rattle.vpg_why.specs.Played.{ArePlayed}
use Rattle.vpg_partial.specs.declared.decision.Decision.{Decision}
use Rattle.vpg_texts.specs.Scene.{Scene}
use Rattle.vpg_texts.proofs.Planned.{known_is_one}
use Rattle.vpg_why.specs.Explained.{choices}
use Rattle.vpg_why.specs.declared.question.Limits.{Limits}
use Rattle.vpg_looks.specs.Answers.{HasDoubt, TellsMoves, TellsWinning}
use Rattle.vpg_looks.specs.Texts.{moves_text, moves_word}
use Rattle.vpg_looks.proofs.Doubts.{either_one, sought_one}

-- ---- lists that are the same everywhere

same_moves : (one other : List (Option ℕ)) → length one ≡ length other → ((v : ℕ) → v < length one → get_or one v None ≡ get_or other v None) → one ≡ other
same_moves one other count same =
    same_lists one other count (λ k d l. get_or_default one k d None l ∙ same k l ∙ get_or_default other k None d (subst (λ n. k < n) count l))

same_option : (a b : Option ℕ) → ((w : ℕ) → a ≡ Some w → b ≡ Some w) → ((w : ℕ) → b ≡ Some w → a ≡ Some w) → a ≡ b
same_option None None to from = refl
same_option None (Some w) to from = from w refl
same_option (Some w) b to from = sym (to w refl)

-- ---- moves of one game

module _ (levels : List Level) (arena : Game) where
  tables_one : (one other : List ℕ) → IsLeastTable levels arena one → IsLeastTable levels arena other → one ≡ other
  tables_one one other a b =
      let below = a.below other b.is_table b.settled in
      let above = b.below one a.is_table a.settled in
      same_lists one other below.0
      (λ k d l. get_or_default one k d 0 l ∙ le_antisymm (below.1 k l) (above.1 k (subst (λ n. k < n) below.0 l)) ∙ get_or_default other k 0 d (subst (λ n. k < n) below.0 l))

  choices_one : (table : List ℕ) (one other : List (Option ℕ)) → AreChoices levels arena table one → AreChoices levels arena table other → one ≡ other
  choices_one table one other a b =
      same_moves one other (a.0 ∙ sym b.0)
      (λ v l. get_or_from_slice_get one v _ None (a.1 v (subst (λ n. v < n) a.0 l)) ∙ sym (get_or_from_slice_get other v _ None (b.1 v (subst (λ n. v < n) a.0 l))))

played_one : (game : Game) (all : List (Option ℕ)) (first : ℕ) (one other : List (Option ℕ)) → ArePlayed game all first one → ArePlayed game all first other → one ≡ other
played_one game all first one other a b =
    same_moves one other (a.count ∙ sym b.count)
    (λ v l. same_option (get_or one v None) (get_or other v None) (λ w e. (b.played v w).1 ((a.played v w).0 e)) (λ w e. (a.played v w).1 ((b.played v w).0 e)))

-- ---- answers

module _ (scene : Scene) (limits others : Limits) (mover : Which) (vertex : ℕ) (decisions : List Decision) where
  known_same : (one other : List (Option ℕ)) (a : AreWinning scene.game scene.lines (choices decisions) mover vertex one) (b : AreWinning scene.game scene.lines (choices decisions) mover vertex other) → b.known ≡ a.known
  known_same one other a b = known_is_one scene.lines (choices decisions) b.known a.known b.is_known a.is_known

  least_one : (known : List Tri) (one other : List (Option ℕ)) → AreLeastMoves scene.game mover known vertex one → AreLeastMoves scene.game mover known vertex other → one ≡ other
  least_one known one other a b =
      choices_one (levels_for mover scene.game) (caution_for known mover scene.game) a.table one other a.chosen
      (subst (λ (t : List ℕ). AreChoices (levels_for mover scene.game) (caution_for known mover scene.game) t other)
      (tables_one (levels_for mover scene.game) (caution_for known mover scene.game) b.table a.table b.least a.least) b.chosen)

  pub moves_one : (one other : List (Option ℕ)) → AreWinning scene.game scene.lines (choices decisions) mover vertex one → AreWinning scene.game scene.lines (choices decisions) mover vertex other → one ≡ other
  moves_one one other a b =
      let known : b.known ≡ a.known = known_same one other a b in
      let all : b.all ≡ a.all = least_one a.known b.all a.all (subst (λ (k : List Tri). AreLeastMoves scene.game mover k vertex b.all) known b.least) a.least in
      played_one (caution_for a.known mover scene.game) a.all vertex one other a.played
      (subst (λ (ms : List (Option ℕ)). ArePlayed (caution_for a.known mover scene.game) ms vertex other) all
      (subst (λ (k : List Tri). ArePlayed (caution_for k mover scene.game) b.all vertex other) known b.played))

  winning_one : (one other : List ℕ) → TellsWinning scene limits mover vertex decisions one → TellsWinning scene others mover vertex decisions other → ¬ (HasDoubt one) → ¬ (HasDoubt other) → one ≡ other
  winning_one one other a b sure also = sought_one one other a b sure also (λ x y.
      x.2 ∙ ap (moves_text (moves_word mover) scene.identifiers scene.labels) (moves_one x.0 y.0 x.1 y.1) ∙ sym y.2)

  pub tells_moves_one : (table one other : List ℕ) → TellsMoves scene limits mover vertex decisions table one → TellsMoves scene others mover vertex decisions table other →
      ¬ (HasDoubt one) → ¬ (HasDoubt other) → one ≡ other
  tells_moves_one table one other a b sure also = either_one a b (λ x y. winning_one one other x y sure also) (λ x y. x ∙ sym y)
