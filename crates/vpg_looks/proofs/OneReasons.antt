-- Two answers of reasons, examples and losses are one text.
use Rattle.std.proofs.Common.{◌≡◌, ℕ, Bool, true, false, List, [], ◌++◌, refl, sym, ap, ap₂, ◌∙◌, inl, inr, append-nil, append_assoc}
use Rattle.std.specs.Prelude.{◌⊎◌, codes, length, slice_index}
use Rattle.vpg_diagram.specs.FeatureDiagram.{IsDiagram}
use Rattle.vpg_measure.specs.TwoGames.{top_for}
use Rattle.vpg_sides.specs.declared.which.Which.{Which}
use Rattle.vpg_sides.specs.declared.which.Which.TheVariants.{Hopeful, Dual}
use Rattle.vpg_partial.specs.TableLaws.{AreChoicesOf}
use Rattle.vpg_partial.specs.declared.decision.Decision.{Decision}
use Rattle.vpg_texts.specs.Scene.{Scene}
use Rattle.vpg_texts.specs.Text.{blank_number}
use Rattle.vpg_why.specs.Explained.{choices}
use Rattle.vpg_why.specs.Suffices.{choice}
use Rattle.vpg_why.specs.declared.question.Aim.{Aim}
use Rattle.vpg_why.specs.declared.question.Limits.{Limits}
use Rattle.vpg_why.specs.declared.question.Question.{Question}
use Rattle.vpg_why.specs.declared.question.Question.TheVariants as asks
use Rattle.vpg_why.proofs.Listing.{among_named}
use Rattle.vpg_why.proofs.Monotone.{more_choices_suffice}
use Rattle.vpg_why.proofs.FirstOnes.{first_products_are_one}
use Rattle.vpg_why.proofs.Next.{explanations_are_one}
use Rattle.vpg_looks.specs.Texts.{verdict_word, verdict_line, other_line, lost_line, known_line, conflict_line, names_in, product_line, reason_text}
use Rattle.vpg_looks.proofs.Doubts.{either_one, is_sharp}
use Rattle.vpg_script.specs.Answer.{Answer}
use Rattle.vpg_script.proofs.Given.{done_one}
use Rattle.vpg_looks.specs.Answers.{MakeSo, IsReason, identifier_of, label_in, TellsVerdict, TellsVertex, TellsKnownBy, TellsFeature, TellsChoice, TellsConflict, TellsProduct, TellsExample, TellsLost, HasDoubt, lost_for, lost_label}

-- ---- one page

module _ (scene : Scene) (limits others : Limits) (decisions : List Decision) (is : IsDiagram scene.lines) (named : AreChoicesOf scene.lines (choices decisions)) where
  reason_one : (question : Question) (one other : List Decision) → IsReason scene question decisions one true → IsReason scene question decisions other true → one ≡ other
  reason_one question one other a b = explanations_are_one scene.game scene.lines question decisions one other is named a b

  -- what some decisions make so, all of them do
  all_make : (question : Question) (listed : List Decision) (exact : Bool) → IsReason scene question decisions listed exact → MakeSo scene question (choices decisions)
  all_make question listed exact r =
      more_choices_suffice scene.game scene.lines question (choices listed) (choices decisions) is (among_named scene.lines (choices listed) (choices decisions) r.among named) r.among r.enough

  module _ (which : Which) (vertex : ℕ) (table : List ℕ) where
    abbrev IsHigh : Type 0
    IsHigh = slice_index table vertex ≡ top_for which scene.game

    abbrev line : List Decision → Bool → List ℕ
    line listed exact = verdict_line scene.names which (identifier_of scene vertex) (label_in scene vertex) listed exact

    -- the text is one without a doubt
    abbrev IsTold : List ℕ → Type 0
    IsTold text =
        (IsHigh × ((listed : List Decision) × IsReason scene (asks.Verdict which vertex) decisions listed true × (text ≡ line listed true)))
        ⊎ (¬ IsHigh × (text ≡ other_line which (identifier_of scene vertex) (label_in scene vertex)))

    told : (before text behind whole : List ℕ) → whole ≡ before ++ text ++ behind → ¬ (HasDoubt whole) → (limits : Limits) → TellsVerdict scene limits which vertex decisions table text → IsTold text
    told before text behind whole parts none limits (inr low) = inr low
    told before text behind whole parts none limits (inl (high, (listed, exact, reason, text_is, settled))) =
        let head : List ℕ = verdict_word which ++ blank_number (identifier_of scene vertex) in
        let rest : List ℕ = reason_text scene.names listed exact (label_in scene vertex) in
        let sharp : exact ≡ true = is_sharp whole none (before ++ head) scene.names listed exact (label_in scene vertex) behind
        (parts ∙ ap (λ (t : List ℕ). (before ++ t) ++ behind) text_is ∙ ap (λ (t : List ℕ). t ++ behind) (sym (append_assoc before head rest))) in
        inl (high, (listed, rw sharp at reason, rw sharp at text_is))

    verdict_one : (one other : List ℕ) → IsTold one → IsTold other → one ≡ other
    verdict_one one other a b = either_one a b (λ x y.
        x.2 ∙ ap (λ (listed : List Decision). line listed true) (reason_one (asks.Verdict which vertex) x.0 y.0 x.1 y.1) ∙ sym y.2)
        (λ x y. x ∙ sym y)

  pub vertex_one : (vertex : ℕ) (hopeful dual one other : List ℕ) → TellsVertex scene limits vertex decisions hopeful dual one → TellsVertex scene others vertex decisions hopeful dual other →
      ¬ (HasDoubt one) → ¬ (HasDoubt other) → one ≡ other
  vertex_one vertex hopeful dual one other a b sure also =
      a.4
      ∙ ap₂ (λ (first second : List ℕ). first ++ second)
      (verdict_one Hopeful vertex hopeful a.0 b.0 (told Hopeful vertex hopeful [] a.0 a.1 one a.4 sure limits a.2) (told Hopeful vertex hopeful [] b.0 b.1 other b.4 also others b.2))
      (verdict_one Dual vertex dual a.1 b.1 (told Dual vertex dual a.0 a.1 [] one (a.4 ∙ sym (append-nil (a.0 ++ a.1))) sure limits a.3)
      (told Dual vertex dual b.0 b.1 [] other (b.4 ∙ sym (append-nil (b.0 ++ b.1))) also others b.3))
      ∙ sym b.4

  known_one : (feature : ℕ) (value : Bool) (one other : List ℕ) → TellsKnownBy scene feature value decisions one → TellsKnownBy scene feature value decisions other → one ≡ other
  known_one feature value one other a b =
      a.2 ∙ ap (known_line scene.names value feature) (reason_one (asks.Known feature value) a.0 b.0 a.1 b.1) ∙ sym b.2

  pub feature_one : (feature : ℕ) (one other : Answer) → TellsFeature scene feature decisions one → TellsFeature scene feature decisions other → one ≡ other
  feature_one feature one other (inl a) (inl b) = done_one (TellsKnownBy scene feature true decisions) (TellsKnownBy scene feature true decisions) one other (known_one feature true one.text other.text) a b
  feature_one feature one other (inl a) (inr (inl b)) = absurd (b.0 (all_make (asks.Known feature true) a.1.0 true a.1.1))
  feature_one feature one other (inl a) (inr (inr b)) = absurd (b.0 (all_make (asks.Known feature true) a.1.0 true a.1.1))
  feature_one feature one other (inr (inl a)) (inl b) = absurd (a.0 (all_make (asks.Known feature true) b.1.0 true b.1.1))
  feature_one feature one other (inr (inl a)) (inr (inl b)) = done_one (TellsKnownBy scene feature false decisions) (TellsKnownBy scene feature false decisions) one other (known_one feature false one.text other.text) a.1 b.1
  feature_one feature one other (inr (inl a)) (inr (inr b)) = absurd (b.1 (all_make (asks.Known feature false) a.1.1.0 true a.1.1.1))
  feature_one feature one other (inr (inr a)) (inl b) = absurd (a.0 (all_make (asks.Known feature true) b.1.0 true b.1.1))
  feature_one feature one other (inr (inr a)) (inr (inl b)) = absurd (a.1 (all_make (asks.Known feature false) b.1.1.0 true b.1.1.1))
  feature_one feature one other (inr (inr a)) (inr (inr b)) = a.2 ∙ sym b.2

  conflict_one : (feature : ℕ) (value : Bool) (one other : List ℕ) → TellsConflict scene feature value decisions one → TellsConflict scene feature value decisions other → one ≡ other
  conflict_one feature value one other a b =
      a.2 ∙ ap (conflict_line scene.names (choice feature value)) (reason_one (asks.Conflict feature value) a.0 b.0 a.1 b.1) ∙ sym b.2

  pub choice_one : (feature : ℕ) (value : Bool) (one other : Answer) → TellsChoice scene feature value decisions one → TellsChoice scene feature value decisions other → one ≡ other
  choice_one feature value one other (inl a) (inl b) = done_one (TellsConflict scene feature value decisions) (TellsConflict scene feature value decisions) one other (conflict_one feature value one.text other.text) a b
  choice_one feature value one other (inl a) (inr b) = absurd (b.0 (all_make (asks.Conflict feature value) a.1.0 true a.1.1))
  choice_one feature value one other (inr a) (inl b) = absurd (a.0 (all_make (asks.Conflict feature value) b.1.0 true b.1.1))
  choice_one feature value one other (inr a) (inr b) = a.1 ∙ sym b.1

  module _ (aim : Aim) where
    is_first : (text : List ℕ) (set : List Bool) (first : Bool) → text ≡ product_line scene.names set first → ¬ (HasDoubt text) → first ≡ true
    is_first text set true is sure = refl
    is_first text set false is sure = absurd (sure (inr (inl (names_in scene.names set (length scene.names) ++ codes "\n", is ∙ append_assoc (codes "some product") (names_in scene.names set (length scene.names)) (codes "\n")))))

    pub example_one : (one other : List ℕ) → TellsExample scene limits aim decisions one → TellsExample scene others aim decisions other → ¬ (HasDoubt one) → ¬ (HasDoubt other) → one ≡ other
    example_one one other (inl a) (inl b) sure also =
        let first : a.1 ≡ true = is_first one a.0 a.1 a.5 sure in
        let second : b.1 ≡ true = is_first other b.0 b.1 b.5 also in
        a.5
        ∙ ap₂ (λ (set : List Bool) (is : Bool). product_line scene.names set is)
        (first_products_are_one scene.game scene.lines aim (choices decisions) a.0 b.0 a.2 a.3 (a.4 first) b.2 b.3 (b.4 second)) (first ∙ sym second) ∙ sym b.5
    example_one one other (inl a) (inr (inl b)) sure also = absurd (b.0 a.0 a.2 a.3)
    example_one one other (inr (inl a)) (inl b) sure also = absurd (a.0 b.0 b.2 b.3)
    example_one one other (inr (inl a)) (inr (inl b)) sure also = a.1 ∙ sym b.1
    example_one one other a (inr (inr b)) sure also = absurd (also (inr (inr (inl b.1))))
    example_one one other (inr (inr a)) b sure also = absurd (sure (inr (inr (inl a.1))))

    abbrev IsProduct : Limits → List ℕ → Type 0
    IsProduct limits text = TellsProduct scene limits aim decisions text

    product_one : (one other : List ℕ) → IsProduct limits one → IsProduct others other → ¬ (HasDoubt one) → ¬ (HasDoubt other) → one ≡ other
    product_one one other a b sure also = example_one one other (inl a) (inl b) sure also

    -- a product shows that none of the page's decisions leave none
    not_lost : (limits : Limits) (text : List ℕ) (listed : List Decision) (exact : Bool) → IsReason scene (asks.Lost aim) decisions listed exact → IsProduct limits text → ⊥
    not_lost limits text listed exact reason p = all_make (asks.Lost aim) listed exact reason p.0 p.2 p.3

    pub lost_one : (one other : List ℕ) → TellsLost scene limits aim decisions one → TellsLost scene others aim decisions other → ¬ (HasDoubt one) → ¬ (HasDoubt other) → one ≡ other
    lost_one one other (inl a) (inl b) sure also =
        let head : List ℕ = lost_for scene aim in
        let label : List ℕ = lost_label scene aim in
        let first : a.1 ≡ true = is_sharp one sure head scene.names a.0 a.1 label [] (a.3 ∙ sym (append-nil (lost_line head label scene.names a.0 a.1))) in
        let second : b.1 ≡ true = is_sharp other also head scene.names b.0 b.1 label [] (b.3 ∙ sym (append-nil (lost_line head label scene.names b.0 b.1))) in
        a.3
        ∙ ap₂ (λ (listed : List Decision) (exact : Bool). lost_line head label scene.names listed exact)
        (reason_one (asks.Lost aim) a.0 b.0 (rw first at a.2) (rw second at b.2)) (first ∙ sym second) ∙ sym b.3
    lost_one one other (inl a) (inr (inl b)) sure also = absurd (not_lost others other a.0 a.1 a.2 b)
    lost_one one other (inr (inl a)) (inl b) sure also = absurd (not_lost limits one b.0 b.1 b.2 a)
    lost_one one other (inr (inl a)) (inr (inl b)) sure also = product_one one other a b sure also
    lost_one one other a (inr (inr b)) sure also = absurd (also (inr (inr (inl b.1))))
    lost_one one other (inr (inr a)) b sure also = absurd (sure (inr (inr (inl a.1))))
