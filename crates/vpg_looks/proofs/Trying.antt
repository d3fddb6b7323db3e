-- Trying each decision of a page alone, and each step of it.
use Rattle.std.proofs.Common.{◌≡◌, ℕ, suc, ◌+◌, ◌<◌, ◌≤◌, Bool, List, [], ◌∷◌, ◌++◌, length, map, get_or, sym, ap, ap₂, ◌∙◌, subst, add-one, arith}
use Rattle.std.specs.Prelude.{All, take}
use Rattle.std.proofs.lemmas.List.Elements.{All-from_recursion}
use Rattle.std.specs.List.{AllByRecursion}
use Rattle.std.proofs.Math.Seq.{take-length, take-suc}
use Rattle.std.proofs.lemmas.List.{length-map, length-take-le, map-append}
use Rattle.vpg_diagram.specs.DiagramText.{NamedDiagram, IsNamedDiagram}
use Rattle.vpg_diagram.specs.FeatureDiagram.{feature_count}
use Rattle.vpg_diagram.specs.declared.clause.Literal.{Literal}
use Rattle.vpg_game.specs.Game.{NamedGame, graph_of}
use Rattle.vpg_sides.specs.declared.which.Which.TheVariants.{Hopeful}
use Rattle.vpg_partial.specs.TableLaws.{AreAmong, AreChoicesOf}
use Rattle.vpg_partial.specs.declared.decision.Decision.{Decision}
use Rattle.vpg_texts.specs.Scene.{Scene, scene_of}
use Rattle.vpg_why.specs.Explained.{choices}
use Rattle.vpg_why.specs.Repaired.{KeepsOldest, ends, keeps, gives_up}
use Rattle.vpg_why.specs.Suffices.{SufficeIn}
use Rattle.vpg_why.proofs.Listing.{among_named}
use Rattle.vpg_why.proofs.Monotone.{more_choices_suffice}
use Rattle.vpg_why.specs.declared.question.Question.{Question}
use Rattle.vpg_why.specs.declared.question.Aim.TheVariants as aims
use Rattle.vpg_why.specs.declared.question.Limits.{Limits}
use Rattle.vpg_why.specs.declared.question.Question.TheVariants as asks
use Rattle.vpg_looks.specs.Repairs.{AreTried, HaveEffects, IsEffect, IsLostBy, without}
use Rattle.vpg_looks.specs.declared.retracting.Effect.{Effect}
use Rattle.vpg_looks.specs.declared.retracting.Effect.TheVariants as effects
use Rattle.vpg_looks.specs.declared.retracting.Tried.{Tried}

-- what holds of all choices holds of those given up
pub given_named : (Suffices : List Literal → Type 0) (P : Literal → Type 0) {exact : Bool} {before rest kept given : List Decision} → KeepsOldest Suffices exact before rest kept given →
    AllByRecursion P (choices rest) → AllByRecursion P (choices given)
given_named Suffices P ends named = tt
given_named Suffices P (keeps a) named = given_named Suffices P a named.1
given_named Suffices P (gives_up so a) named = (named.0, given_named Suffices P a named.1)

-- each retraction that was tried is of one of so many features
of_decisions : (n : ℕ) (tried : List Tried) → AllByRecursion (λ c. c.feature < n) (choices (map (λ t. t.decision) tried)) → AllByRecursion (λ t. t.decision.feature < n) tried
of_decisions n [] named = tt
of_decisions n (t ∷ tried) named = (named.0, of_decisions n tried named.1)

-- each retraction that was tried is of a feature with a name
pub tried_below : (diagram : NamedDiagram) → IsNamedDiagram diagram → (decisions : List Decision) → AreChoicesOf diagram.lines (choices decisions) → (tried : List Tried) →
    map (λ t. t.decision) tried ≡ take (length decisions) decisions → All (λ t. t.decision.feature < length diagram.names) tried
tried_below diagram is decisions named tried each =
    rw is.each_named
    (All-from_recursion (λ (t : Tried). t.decision.feature < feature_count diagram.lines) tried
    (of_decisions (feature_count diagram.lines) tried (rw (each, take-length decisions) named)))

module _ (scene : Scene) (limits : Limits) (vertex : ℕ) (was_hopeless : Bool) (decisions : List Decision) where
  abbrev Are : ℕ → List Tried → Type 0
  Are n tried = AreTried scene limits vertex was_hopeless decisions n tried

  abbrev Is : ℕ → Effect → Type 0
  Is place effect = IsEffect scene limits vertex was_hopeless (choices (without place decisions)) effect

  effects_more : (place : ℕ) (tried : List Tried) (t : Tried) → HaveEffects scene limits vertex was_hopeless decisions place tried → Is (place + length tried) t.effect →
      HaveEffects scene limits vertex was_hopeless decisions place (tried ++ t ∷ [])
  effects_more place [] t so is = let same : place + 0 ≡ place = omega (arith) in (subst (λ (n : ℕ). Is n t.effect) same is, tt)
  effects_more place (u ∷ tried) t so is =
      let same : place + suc (length tried) ≡ suc place + length tried = omega (arith) in
      (so.0, effects_more (suc place) tried t so.1 (subst (λ (n : ℕ). Is n t.effect) same is))

  length_is : (n : ℕ) (tried : List Tried) → n ≤ length decisions → Are n tried → length tried ≡ n
  length_is n tried within so = sym (length-map tried (λ (t : Tried). t.decision)) ∙ ap (λ (ds : List Decision). length ds) so.each ∙ length-take-le n decisions within

  -- one more decision was tried
  pub next_tried : (n : ℕ) (tried : List Tried) (t : Tried) (x : Decision) → n < length decisions → t.decision ≡ get_or decisions n x → Is n t.effect → Are n tried → Are (n + 1) (tried ++ t ∷ [])
  next_tried n tried t x inside same is so = let within : n ≤ length decisions = omega (arith, inside) in let count : length tried ≡ n = length_is n tried within so in
      let all : n ≡ 0 + length tried = omega (arith, count) in subst (λ (m : ℕ). Are m (tried ++ t ∷ [])) (sym (add-one n)) (record {
        each = map-append (λ (u : Tried). u.decision) tried (t ∷ []) ∙ ap₂ (λ (ds : List Decision) (d : Decision). ds ++ d ∷ []) so.each same ∙ sym (take-suc decisions n x inside);
        effects = effects_more 0 tried t so.effects (subst (λ (m : ℕ). Is m t.effect) all is);
      })

  -- all of them were
  pub all_tried : (n : ℕ) (tried : List Tried) → length decisions ≤ n → n ≤ length decisions → Are n tried → Are (length decisions) tried
  all_tried n tried most least so = let same : n ≡ length decisions = omega (arith, most, least) in subst (λ (m : ℕ). Are m tried) same so

-- ---- more decisions than a reason

module _ (game : NamedGame) (diagram : NamedDiagram) (vertex : ℕ) (few many : List Literal) (is : IsNamedDiagram diagram) (named : AreChoicesOf diagram.lines many) (among : AreAmong few many) where
  stays : (question : Question) → SufficeIn (graph_of game) diagram.lines question few → SufficeIn (graph_of game) diagram.lines question many
  stays question h = more_choices_suffice (graph_of game) diagram.lines question few many is.diagram (among_named diagram.lines few many among named) among h

  pub lost_stays : IsLostBy (scene_of [] game diagram) vertex few → IsLostBy (scene_of [] game diagram) vertex many
  lost_stays h = stays (asks.Lost (aims.Won Hopeful vertex)) h

  pub nothing_stays : (limits : Limits) (was_hopeless : Bool) → IsEffect (scene_of [] game diagram) limits vertex was_hopeless few effects.Nothing → IsEffect (scene_of [] game diagram) limits vertex was_hopeless many effects.Nothing
  nothing_stays limits was_hopeless h = (lost_stays h.0, λ w. stays (asks.Verdict Hopeful vertex) (h.1 w))
