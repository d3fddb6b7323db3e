-- Two pictures of what matters at a vertex are one text.
use Rattle.std.proofs.Common.{◌≡◌, ℕ, ◌<◌, Bool, true, false, Option, Some, None, List, [], length, get_or, refl, sym, ◌∙◌, subst}
use Rattle.std.proofs.lemmas.List.{same_lists, get_or_default}
use Rattle.vpg_guards.specs.declared.tri.Tri.{Tri}
use Rattle.vpg_guards.specs.Formula.{Formula}
use Rattle.vpg_draw.specs.PartDrawing.{part_drawing}
use Rattle.vpg_sides.specs.declared.player.Player.{Player}
use Rattle.vpg_game.specs.Guarded.{GuardedGame}
use Rattle.vpg_sides.specs.declared.which.Which.{Which}
use Rattle.vpg_sides.specs.declared.which.Which.TheVariants.{Hopeful, Dual}
use Rattle.vpg_why.specs.Reachable.{AreReachable}
use Rattle.vpg_partial.specs.declared.decision.Decision.{Decision}
use Rattle.vpg_texts.specs.Changed.{verdicts_by}
use Rattle.vpg_texts.specs.Picture.{named_game}
use Rattle.vpg_texts.specs.Scene.{Scene}
use Rattle.vpg_texts.proofs.Planned.{known_is_one}
use Rattle.vpg_why.specs.Explained.{choices}
use Rattle.vpg_why.specs.Products.{loser}
use Rattle.vpg_why.specs.declared.question.Limits.{Limits}
use Rattle.vpg_looks.specs.Answers.{HasDoubt}
use Rattle.vpg_looks.specs.Parts.{IsPartDrawn, DrawsWinning, TellsPart}
use Rattle.vpg_looks.proofs.Doubts.{each_one, sought_one}
use Rattle.vpg_looks.proofs.OneMoves.{moves_one}

same_bool : (a b : Bool) → (a ≡ true → b ≡ true) → (b ≡ true → a ≡ true) → a ≡ b
same_bool true b to from = sym (to refl)
same_bool false true to from = from refl
same_bool false false to from = refl

marks_one : (game : GuardedGame Formula) (known : List Tri) (mover : Option Player) (moves : List (Option ℕ)) (first : ℕ) (one other : List Bool) →
    AreReachable game known mover moves first one → AreReachable game known mover moves first other → one ≡ other
marks_one game known mover moves first one other a b =
    let count : length one ≡ length other = a.0 ∙ sym b.0 in
    same_lists one other count
    (λ k d l. get_or_default one k d false l
    ∙ same_bool (get_or one k false) (get_or other k false) (λ m. (b.1 k).1 ((a.1 k).0 m)) (λ m. (a.1 k).1 ((b.1 k).0 m))
    ∙ get_or_default other k false d (subst (λ n. k < n) count l))

module _ (scene : Scene) (limits others : Limits) (vertex : ℕ) (decisions : List Decision) (hopeful dual : List ℕ) where
  part_one : (mover : Option Player) (moves : List (Option ℕ)) (one other : List ℕ) → IsPartDrawn scene vertex decisions hopeful dual mover moves one →
      IsPartDrawn scene vertex decisions hopeful dual mover moves other → one ≡ other
  part_one mover moves one other a b =
      let known : b.known ≡ a.known = known_is_one scene.lines (choices decisions) b.known a.known b.is_known a.is_known in
      let marks : b.marks ≡ a.marks = marks_one scene.game a.known mover moves vertex b.marks a.marks
      (subst (λ (k : List Tri). AreReachable scene.game k mover moves vertex b.marks) known b.reachable) a.reachable in
      a.drawn
      ∙ sym (λ i. part_drawing scene.names (known i) (choices decisions) scene.labels (verdicts_by scene.game hopeful dual) (named_game scene) vertex (marks i) mover moves)
      ∙ sym b.drawn

  draws_one : (mover : Which) (one other : List ℕ) → DrawsWinning scene limits mover vertex decisions hopeful dual one → DrawsWinning scene others mover vertex decisions hopeful dual other →
      ¬ (HasDoubt one) → ¬ (HasDoubt other) → one ≡ other
  draws_one mover one other a b sure also = sought_one one other a b sure also (λ x y.
      part_one (Some (loser mover)) x.0 one other x.2
      (subst (λ (ms : List (Option ℕ)). IsPartDrawn scene vertex decisions hopeful dual (Some (loser mover)) ms other)
      (moves_one scene limits others mover vertex decisions y.0 x.0 y.1 x.1) y.2))

  pub tells_part_one : (one other : List ℕ) → TellsPart scene limits vertex decisions hopeful dual one → TellsPart scene others vertex decisions hopeful dual other →
      ¬ (HasDoubt one) → ¬ (HasDoubt other) → one ≡ other
  tells_part_one one other a b sure also =
      each_one a b (λ x y. draws_one Dual one other x y sure also) (λ x y. draws_one Hopeful one other x y sure also) (part_one None [] one other)
