-- Two lists of what is forced, and two repairs, are one text.
use Rattle.std.proofs.Common.{◌≡◌, ℕ, suc, ◌+◌, Bool, true, false, List, [], ◌∷◌, ◌++◌, length, map, refl, sym, ap₂, ◌∙◌, subst, inl, inr, append_assoc}
use Rattle.std.specs.Prelude.{◌⊎◌, ◌||◌, IsTrue, codes, count_by, flat_map}
use Rattle.std.specs.List.{list_any}
use Rattle.std.proofs.lemmas.Bool.{and_parts, false≢true}
use Rattle.vpg_diagram.specs.FeatureDiagram.{IsDiagram}
use Rattle.vpg_diagram.specs.declared.clause.Literal.{Literal}
use Rattle.vpg_diagram.proofs.Lists.{Contains-nil}
use Rattle.vpg_sides.specs.declared.which.Which.TheVariants.{Hopeful}
use Rattle.vpg_partial.specs.TableLaws.{AreChoicesOf}
use Rattle.vpg_partial.specs.declared.decision.Decision.{Decision}
use Rattle.vpg_texts.specs.Scene.{Scene}
use Rattle.vpg_why.specs.Explained.{choices}
use Rattle.vpg_why.specs.declared.question.Aim.{Aim}
use Rattle.vpg_why.specs.declared.question.Aim.TheVariants as aims
use Rattle.vpg_why.specs.declared.question.Limits.{Limits}
use Rattle.vpg_why.specs.declared.question.Question.TheVariants as asks
use Rattle.vpg_why.proofs.InOrder.{needs_are_one}
use Rattle.vpg_why.proofs.Monotone.{more_choices_suffice}
use Rattle.vpg_why.proofs.OneRepair.{repairs_are_one}
use Rattle.vpg_looks.specs.Answers.{HasDoubt, HasSingle, TellsForced, TellsRepair, TellsRetractions, TellsSeveral, all_shown, forced_word, identifier_of, label_in}
use Rattle.vpg_looks.specs.Repairs.{AreTried, HasWinner, HaveEffects, IsEffect, IsHopelessBy, IsLostBy, is_listed, is_shown, is_winning, without}
use Rattle.vpg_looks.specs.Room.{SearchEnds, unlabelled}
use Rattle.vpg_looks.specs.Texts.{choice_line, forced_text, lines_at, marked_text, reason_text, several_text, singles_text, total_line, other_line, unsettled_line}
use Rattle.vpg_looks.specs.declared.retracting.Effect.{Effect}
use Rattle.vpg_looks.specs.declared.retracting.Effect.TheVariants as effects
use Rattle.vpg_looks.specs.declared.retracting.Tried.{Tried}
use Rattle.vpg_looks.proofs.Doubts.{either_one, is_sharp, no_more}

-- ---- doubts

-- behind the lines that are marked stands a total
behind : (f l m t : List ℕ) → f ++ ((l ++ m) ++ t) ≡ (f ++ (l ++ m)) ++ t
behind f l m t = simp append_assoc

all_told : (names : List (List ℕ)) (front : List ℕ) (before : ℕ) (tried : List Tried) (exact : Bool) (text : List ℕ) → text ≡ front ++ marked_text names before tried exact → ¬ (HasDoubt text) → exact ≡ true
all_told names front before tried exact text is clear =
    let one : List ℕ = lines_at names 1 tried in
    let two : List ℕ = lines_at names 2 tried in
    let lines : ℕ = before + count_by (λ t. is_listed t.effect) tried in
    no_more text clear (front ++ (one ++ two)) (codes "repairs") lines exact (is ∙ behind front one two (total_line (codes "repairs") lines exact))

-- ---- what is forced

module _ (scene : Scene) (limits others : Limits) (aim : Aim) (decisions : List Decision) where
  abbrev lines_of : List Literal → List ℕ
  lines_of listed = flat_map (choice_line (forced_word aim) scene.names) listed

  pub forced_one : (one other : List ℕ) → TellsForced scene limits aim decisions one → TellsForced scene others aim decisions other → ¬ (HasDoubt one) → ¬ (HasDoubt other) → one ≡ other
  forced_one one other (inl a) (inl b) sure also =
      let x : a.1 ≡ true = no_more one sure (lines_of a.0) (forced_word aim) (length a.0) a.1 a.6 in
      let y : b.1 ≡ true = no_more other also (lines_of b.0) (forced_word aim) (length b.0) b.1 b.6 in
      a.6
      ∙ ap₂ (λ (listed : List Literal) (exact : Bool). forced_text (forced_word aim) scene.names listed exact)
      (needs_are_one scene.game scene.lines aim (choices decisions) a.0 b.0 (rw x at a.5) (rw y at b.5)) (x ∙ sym y)
      ∙ sym b.6
  forced_one one other (inl a) (inr (inl b)) sure also = absurd (b.0 a.2 a.3 a.4)
  forced_one one other (inr (inl a)) (inl b) sure also = absurd (a.0 b.2 b.3 b.4)
  forced_one one other (inr (inl a)) (inr (inl b)) sure also = a.1 ∙ sym b.1
  forced_one one other a (inr (inr b)) sure also = absurd (also (inr (inr (inl b.1))))
  forced_one one other (inr (inr a)) b sure also = absurd (sure (inr (inr (inl a.1))))

-- ---- decisions tried alone

module _ (scene : Scene) (vertex : ℕ) (was_hopeless : Bool) where
  -- one effect at most, if it was shown
  effect_one : (limits others : Limits) (chosen : List Literal) (a b : Effect) → IsEffect scene limits vertex was_hopeless chosen a → IsEffect scene others vertex was_hopeless chosen b →
      is_shown a ≡ true → is_shown b ≡ true → a ≡ b
  effect_one limits others chosen effects.Won effects.Won x y s t = refl
  effect_one limits others chosen effects.Possible effects.Possible x y s t = refl
  effect_one limits others chosen effects.Nothing effects.Nothing x y s t = refl
  effect_one limits others chosen a b x y s t = absurd (search (lost_won, changed, false≢true))
    where
      lost_won : IsLostBy scene vertex chosen → HasWinner scene vertex chosen → ⊥
      lost_won lost has = lost has.0 has.1 has.2

      changed : ¬ (IsHopelessBy scene vertex chosen) → (IsTrue was_hopeless → IsHopelessBy scene vertex chosen) → IsTrue was_hopeless → ⊥
      changed other same was = other (same was)

  module _ (decisions : List Decision) where
    effects_one : (limits others : Limits) (place : ℕ) (one other : List Tried) → map (λ t. t.decision) one ≡ map (λ t. t.decision) other →
        HaveEffects scene limits vertex was_hopeless decisions place one → HaveEffects scene others vertex was_hopeless decisions place other →
        all_shown one ≡ true → all_shown other ≡ true → one ≡ other
    effects_one limits others place [] [] same x y s t = refl
    effects_one limits others place [] (p ∷ ps) same x y s t = absurd (cc same)
    effects_one limits others place (o ∷ os) [] same x y s t = absurd (cc same)
    effects_one limits others place (o ∷ os) (p ∷ ps) same x y s t =
        let shown = and_parts (is_shown o.effect) (all_shown os) s in
        let also = and_parts (is_shown p.effect) (all_shown ps) t in
        let effect : o.effect ≡ p.effect = effect_one limits others (choices (without place decisions)) o.effect p.effect x.0 y.0 shown.0 also.0 in
        ap₂ (λ (e : Tried) (es : List Tried). e ∷ es)
        (ap₂ (λ (d : Decision) (e : Effect). record { decision = d; effect = e }) (cc same) effect)
        (effects_one limits others (suc place) os ps (cc same) x.1 y.1 shown.1 also.1)

    tried_one : (limits others : Limits) (n : ℕ) (one other : List Tried) → AreTried scene limits vertex was_hopeless decisions n one → AreTried scene others vertex was_hopeless decisions n other →
        all_shown one ≡ true → all_shown other ≡ true → one ≡ other
    tried_one limits others n one other a b s t = effects_one limits others 0 one other (a.each ∙ sym b.each) a.effects b.effects s t

    -- where Even wins no product, no decision leaves one
    none_wins : ((cs : List Literal) → IsLostBy scene vertex cs) → (limits : Limits) (place : ℕ) (tried : List Tried) → HaveEffects scene limits vertex was_hopeless decisions place tried →
        list_any (λ t. is_winning t.effect) tried ≡ false
    none_wins all limits place [] so = refl
    none_wins all limits place (t ∷ tried) so = nor_one t.effect so.0 (none_wins all limits (suc place) tried so.1)
      where
        nor_one : (e : Effect) → IsEffect scene limits vertex was_hopeless (choices (without place decisions)) e → list_any (λ u. is_winning u.effect) tried ≡ false →
            (is_winning e || list_any (λ u. is_winning u.effect) tried) ≡ false
        nor_one effects.Won is others = absurd (all (choices (without place decisions)) is.0 is.1 is.2)
        nor_one effects.Possible is others = others
        nor_one effects.Nothing is others = others
        nor_one effects.Unsettled is others = others

-- ---- repairs

module _ (scene : Scene) (vertex : ℕ) (was_hopeless : Bool) (decisions : List Decision) (is : IsDiagram scene.lines) (named : AreChoicesOf scene.lines (choices decisions)) where
  all_lost : IsLostBy scene vertex [] → (cs : List Literal) → IsLostBy scene vertex cs
  all_lost h cs = more_choices_suffice scene.game scene.lines (asks.Lost (aims.Won Hopeful vertex)) [] cs is tt (λ c k. absurd (Contains-nil c k)) h

  -- the text about decisions that were tried
  abbrev Says : Limits → List Tried → List ℕ → Type 0
  Says limits tried text =
      (HasSingle tried × (text ≡ singles_text scene.names tried (all_shown tried))) ⊎ (¬ (HasSingle tried) × TellsSeveral scene limits vertex decisions tried text)

  shown : (limits : Limits) (tried : List Tried) (text : List ℕ) → Says limits tried text → ¬ (HasDoubt text) → all_shown tried ≡ true
  shown limits tried text (inl (some, text_is)) clear = all_told scene.names (lines_at scene.names 0 tried) 0 tried (all_shown tried) text text_is clear
  shown limits tried text (inr (none, inl a)) clear =
      all_told scene.names (codes "repair" ++ reason_text scene.names a.1 a.2 []) 1 tried (all_shown tried) text a.4 clear
  shown limits tried text (inr (none, inr (short, text_is))) clear = absurd (false≢true (all_told scene.names [] 0 tried false text text_is clear))

  several_one : (limits others : Limits) (tried : List Tried) (one other : List ℕ) → TellsSeveral scene limits vertex decisions tried one → TellsSeveral scene others vertex decisions tried other →
      ¬ (HasDoubt one) → ¬ (HasDoubt other) → one ≡ other
  several_one limits others tried one other (inl a) (inl b) clear also =
      let rest : List ℕ = marked_text scene.names 1 tried (all_shown tried) in
      let x : a.2 ≡ true = is_sharp one clear (codes "repair") scene.names a.1 a.2 [] rest a.4 in
      let y : b.2 ≡ true = is_sharp other also (codes "repair") scene.names b.1 b.2 [] rest b.4 in
      a.4
      ∙ ap₂ (λ (ds : List Decision) (e : Bool). several_text scene.names ds e tried (all_shown tried))
      (repairs_are_one scene.game scene.lines (asks.Lost (aims.Won Hopeful vertex)) decisions a.0 a.1 b.0 b.1 is named (rw x at a.3) (rw y at b.3)) (x ∙ sym y)
      ∙ sym b.4
  several_one limits others tried one other a (inr b) clear also = absurd (false≢true (all_told scene.names [] 0 tried false other b.1 also))
  several_one limits others tried one other (inr a) b clear also = absurd (false≢true (all_told scene.names [] 0 tried false one a.1 clear))

  -- where Even wins no product, nothing is told of those that were tried
  not_lost : (limits : Limits) (tried : List Tried) (text : List ℕ) → AreTried (unlabelled scene) limits vertex was_hopeless decisions (length decisions) tried → Says limits tried text → ¬ (HasDoubt text) →
      IsLostBy scene vertex [] → ⊥
  not_lost limits tried text are (inl (some, text_is)) clear lost =
      false≢true (sym (none_wins (unlabelled scene) vertex was_hopeless decisions (all_lost lost) limits 0 tried are.effects) ∙ some)
  not_lost limits tried text are (inr (none, inl a)) clear lost = a.3.possible (all_lost lost (choices a.0))
  not_lost limits tried text are (inr (none, inr (short, text_is))) clear lost = false≢true (all_told scene.names [] 0 tried false text text_is clear)

  retractions_one : (limits others : Limits) (one other : List ℕ) → TellsRetractions scene limits vertex was_hopeless decisions one → TellsRetractions scene others vertex was_hopeless decisions other →
      ¬ (HasDoubt one) → ¬ (HasDoubt other) → one ≡ other
  retractions_one limits others one other (inl (tried, are, a)) (inl (same, also_are, b)) clear also =
      let tried_is : same ≡ tried = tried_one (unlabelled scene) vertex was_hopeless decisions others limits (length decisions) same tried also_are are
      (shown others same other b also) (shown limits tried one a clear) in
      either_one a (subst (λ (ts : List Tried). Says others ts other) tried_is b) (λ x y. x ∙ sym y) (λ x y. several_one limits others tried one other x y clear also)
  retractions_one limits others one other (inl (tried, are, a)) (inr b) clear also = absurd (not_lost limits tried one are a clear b.0)
  retractions_one limits others one other (inr a) (inl (tried, are, b)) clear also = absurd (not_lost others tried other are b also a.0)
  retractions_one limits others one other (inr a) (inr b) clear also = a.1 ∙ sym b.1

module _ (scene : Scene) (limits others : Limits) (vertex : ℕ) (decisions : List Decision) (is : IsDiagram scene.lines) (named : AreChoicesOf scene.lines (choices decisions)) where
  -- the text where the page has the vertex possible
  abbrev Possible : Limits → List ℕ → Type 0
  Possible limits text =
      (IsLostBy scene vertex (choices decisions) × TellsRetractions scene limits vertex false decisions text)
      ⊎ (HasWinner scene vertex (choices decisions) × (text ≡ other_line Hopeful (identifier_of scene vertex) (label_in scene vertex)))
      ⊎ (¬ (SearchEnds scene limits (aims.Won Hopeful vertex) (choices decisions)) × (text ≡ unsettled_line))

  possible_one : (one other : List ℕ) → ¬ (HasDoubt one) → ¬ (HasDoubt other) → Possible limits one → Possible others other → one ≡ other
  possible_one one other clear also (inl a) (inl b) = retractions_one scene vertex false decisions is named limits others one other a.1 b.1 clear also
  possible_one one other clear also (inl a) (inr (inl b)) = absurd (a.0 b.0.0 b.0.1 b.0.2)
  possible_one one other clear also (inr (inl a)) (inl b) = absurd (b.0 a.0.0 a.0.1 a.0.2)
  possible_one one other clear also (inr (inl a)) (inr (inl b)) = a.1 ∙ sym b.1
  possible_one one other clear also a (inr (inr b)) = absurd (also (inr (inr (inl b.1))))
  possible_one one other clear also (inr (inr a)) b = absurd (clear (inr (inr (inl a.1))))

  pub repair_one : (hopeful one other : List ℕ) → TellsRepair scene limits vertex decisions hopeful one → TellsRepair scene others vertex decisions hopeful other →
      ¬ (HasDoubt one) → ¬ (HasDoubt other) → one ≡ other
  repair_one hopeful one other a b clear also =
      either_one a b (λ x y. retractions_one scene vertex true decisions is named limits others one other x y clear also) (possible_one one other clear also)
