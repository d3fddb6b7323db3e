-- Two lists of offers are one text.
use Rattle.std.proofs.Common.{◌≡◌, ◌≢◌, ℕ, List, [], ◌∷◌, ◌++◌, length, map, refl, sym, ap, ap₂, ◌∙◌, subst, inl, inr, append_assoc}
use Rattle.std.specs.Prelude.{codes, flat_map, ⊤}
use Rattle.std.specs.List.{AllByRecursion}
use Rattle.vpg_guards.specs.declared.tri.Tri.{Tri}
use Rattle.vpg_diagram.specs.declared.clause.Literal.{Literal}
use Rattle.vpg_sides.specs.declared.which.Which.{Which}
use Rattle.vpg_sides.specs.declared.which.Which.TheVariants.{Hopeful, Dual}
use Rattle.vpg_partial.specs.declared.decision.Decision.{Decision}
use Rattle.vpg_texts.specs.Scene.{Scene}
use Rattle.vpg_texts.specs.Text.{blank_number, choice_text}
use Rattle.vpg_texts.proofs.Planned.{known_is_one}
use Rattle.vpg_why.specs.Explained.{choices}
use Rattle.vpg_why.specs.declared.question.Limits.{Limits}
use Rattle.vpg_why.specs.declared.question.Shown.{Shown}
use Rattle.vpg_why.specs.declared.question.Shown.TheVariants as shown
use Rattle.vpg_looks.specs.declared.offers.Fact.{Fact}
use Rattle.vpg_looks.specs.declared.offers.Fact.TheVariants as facts
use Rattle.vpg_looks.specs.declared.offers.Offered.{Offered}
use Rattle.vpg_looks.specs.declared.offers.Prospect.{Prospect}
use Rattle.vpg_looks.specs.declared.offers.Prospect.TheVariants as prospects
use Rattle.vpg_looks.specs.Offers.{IsVerdictShown, IsProspect, IsOffered, open_choices}
use Rattle.vpg_looks.specs.Room.{unlabelled}
use Rattle.vpg_looks.specs.Texts.{fact_word, shown_word, offer_words, offer_line, offers_text}
use Rattle.vpg_looks.specs.Answers.{TellsOffers, HasDoubt}
use Rattle.vpg_looks.proofs.Facts.{fact_one}

-- ---- doubts

-- nothing of it is unsettled
abbrev IsSettledProspect : Prospect → Type 0
IsSettledProspect prospects.Conflict = ⊤
IsSettledProspect (prospects.Left hopeless sure fact) = (hopeless ≢ shown.Unsettled) × (sure ≢ shown.Unsettled) × (fact ≢ facts.Unsettled)

in_first : (p c u w f n r : List ℕ) → (((p ++ c) ++ ((u ++ w) ++ f)) ++ n) ++ r ≡ ((p ++ c) ++ u) ++ (w ++ (f ++ (n ++ r)))
in_first p c u w f n r = simp append_assoc

in_second : (p c w u f n r : List ℕ) → (((p ++ c) ++ ((w ++ u) ++ f)) ++ n) ++ r ≡ ((p ++ (c ++ w)) ++ u) ++ (f ++ (n ++ r))
in_second p c w u f n r = simp append_assoc

in_third : (p c w v u n r : List ℕ) → (((p ++ c) ++ ((w ++ v) ++ u)) ++ n) ++ r ≡ ((p ++ (c ++ (w ++ v))) ++ u) ++ (n ++ r)
in_third p c w v u n r = simp append_assoc

in_rest : (p c w n b u h : List ℕ) → (((p ++ c) ++ w) ++ n) ++ (((p ++ b) ++ u) ++ h) ≡ ((p ++ (((c ++ w) ++ n) ++ (p ++ b))) ++ u) ++ h
in_rest p c w n b u h = simp append_assoc

module _ (names : List (List ℕ)) where
  -- the text isn't one with a doubt
  abbrev HasNone : List ℕ → Type 0
  HasNone text = (before behind : List ℕ) → text ≡ codes "offer" ++ before ++ codes " unsettled" ++ behind → ⊥

  settled_words : (choice : Literal) (rest : List ℕ) (prospect : Prospect) → HasNone (offer_line names (record { choice = choice; prospect = prospect }) ++ rest) → IsSettledProspect prospect
  settled_words choice rest prospects.Conflict none = tt
  settled_words choice rest (prospects.Left hopeless sure fact) none = (first hopeless none, second sure none, third fact none)
    where
      first : (h : Shown) → HasNone (offer_line names (record { choice = choice; prospect = prospects.Left h sure fact }) ++ rest) → h ≢ shown.Unsettled
      first shown.Unsettled fine = λ e. fine (choice_text names choice) (shown_word Dual sure ++ (fact_word fact ++ (codes "\n" ++ rest)))
          (in_first (codes "offer") (choice_text names choice) (codes " unsettled") (shown_word Dual sure) (fact_word fact) (codes "\n") rest)
      first h fine = λ e. cc e

      second : (s : Shown) → HasNone (offer_line names (record { choice = choice; prospect = prospects.Left hopeless s fact }) ++ rest) → s ≢ shown.Unsettled
      second shown.Unsettled fine = λ e. fine (choice_text names choice ++ shown_word Hopeful hopeless) (fact_word fact ++ (codes "\n" ++ rest))
          (in_second (codes "offer") (choice_text names choice) (shown_word Hopeful hopeless) (codes " unsettled") (fact_word fact) (codes "\n") rest)
      second s fine = λ e. cc e

      third : (f : Fact) → HasNone (offer_line names (record { choice = choice; prospect = prospects.Left hopeless sure f }) ++ rest) → f ≢ facts.Unsettled
      third facts.Unsettled fine = λ e. fine (choice_text names choice ++ (shown_word Hopeful hopeless ++ shown_word Dual sure)) (codes "\n" ++ rest)
          (in_third (codes "offer") (choice_text names choice) (shown_word Hopeful hopeless) (shown_word Dual sure) (codes " unsettled") (codes "\n") rest)
      third f fine = λ e. cc e

  all_settled : (listed : List Offered) (tail : List ℕ) → HasNone (flat_map (offer_line names) listed ++ tail) → AllByRecursion (λ o. IsSettledProspect o.prospect) listed
  all_settled [] tail none = tt
  all_settled (o ∷ rest) tail none =
      let apart : (offer_line names o ++ flat_map (offer_line names) rest) ++ tail ≡ offer_line names o ++ (flat_map (offer_line names) rest ++ tail) = append_assoc (offer_line names o) (flat_map (offer_line names) rest) tail in (
        settled_words o.choice (flat_map (offer_line names) rest ++ tail) o.prospect (λ before behind is. none before behind (apart ∙ is)),
        all_settled rest tail (λ before behind is. none (((choice_text names o.choice ++ offer_words o.prospect) ++ codes "\n") ++ (codes "offer" ++ before)) behind
            (apart ∙ ap (λ (t : List ℕ). offer_line names o ++ t) is
            ∙ in_rest (codes "offer") (choice_text names o.choice) (offer_words o.prospect) (codes "\n") before (codes " unsettled") behind)),
      )

  ends : (f p b n : List ℕ) → ((f ++ p) ++ b) ++ n ≡ f ++ ((p ++ b) ++ n)
  ends f p b n = simp append_assoc

  without_doubt : (listed : List Offered) (text : List ℕ) → text ≡ offers_text names listed → ¬ (HasDoubt text) → AllByRecursion (λ o. IsSettledProspect o.prospect) listed
  without_doubt listed text is sure =
      all_settled listed ((codes "offers" ++ blank_number (length listed)) ++ codes "\n")
      (λ before behind same. sure (inr (inr (inr (inl (before, behind, is ∙ ends (flat_map (offer_line names) listed) (codes "offers") (blank_number (length listed)) (codes "\n") ∙ same))))))

-- ---- one page

module _ (scene : Scene) (limits others : Limits) (vertex : ℕ) where
  shown_one : (choices : List Literal) (which : Which) (a b : Shown) → IsVerdictShown scene limits vertex choices which a → IsVerdictShown scene others vertex choices which b →
      a ≢ shown.Unsettled → b ≢ shown.Unsettled → a ≡ b
  shown_one choices which shown.Yes shown.Yes x y s t = refl
  shown_one choices which shown.Yes shown.No x y s t = absurd (y.no refl (x.yes refl))
  shown_one choices which shown.No shown.Yes x y s t = absurd (x.no refl (y.yes refl))
  shown_one choices which shown.No shown.No x y s t = refl
  shown_one choices which a b x y s t = absurd (search)

  left_is : (h k : Shown) (s r : Shown) (f g : Fact) → h ≡ k → s ≡ r → f ≡ g → prospects.Left h s f ≡ prospects.Left k r g
  left_is h k s r f g a b c = cc (a, b, c)

  prospect_one : (choices : List Literal) (a b : Prospect) → IsProspect scene limits vertex choices a → IsProspect scene others vertex choices b → IsSettledProspect a → IsSettledProspect b → a ≡ b
  prospect_one choices prospects.Conflict prospects.Conflict x y s t = refl
  prospect_one choices prospects.Conflict (prospects.Left hopeless sure fact) x y s t = absurd (y.0 x)
  prospect_one choices (prospects.Left hopeless sure fact) prospects.Conflict x y s t = absurd (x.0 y)
  prospect_one choices (prospects.Left hopeless sure fact) (prospects.Left less surer other) x y s t =
      left_is hopeless less sure surer fact other (shown_one choices Hopeful hopeless less x.1 y.1 s.0 t.0) (shown_one choices Dual sure surer x.2 y.2 s.1 t.1) (fact_one scene choices vertex limits others fact other x.3 y.3 s.2 t.2)

  module _ (decisions : List Decision) where
    offered_one : (o p : Offered) → o.choice ≡ p.choice → IsOffered scene limits vertex decisions o → IsOffered scene others vertex decisions p → IsSettledProspect o.prospect → IsSettledProspect p.prospect → o ≡ p
    offered_one o p same x y s t =
        ap₂ (λ (c : Literal) (f : Prospect). record { choice = c; prospect = f }) same
        (prospect_one (choices decisions ++ o.choice ∷ []) o.prospect p.prospect x (subst (λ (c : Literal). IsProspect scene others vertex (choices decisions ++ c ∷ []) p.prospect) (sym same) y) s t)

    listed_one : (one other : List Offered) → map (λ o. o.choice) one ≡ map (λ o. o.choice) other →
        AllByRecursion (IsOffered scene limits vertex decisions) one → AllByRecursion (IsOffered scene others vertex decisions) other →
        AllByRecursion (λ o. IsSettledProspect o.prospect) one → AllByRecursion (λ o. IsSettledProspect o.prospect) other → one ≡ other
    listed_one [] [] same x y s t = refl
    listed_one [] (p ∷ ps) same x y s t = absurd (cc same)
    listed_one (o ∷ os) [] same x y s t = absurd (cc same)
    listed_one (o ∷ os) (p ∷ ps) same x y s t =
        ap₂ (λ (e : Offered) (es : List Offered). e ∷ es)
        (offered_one o p (cc same) x.0 y.0 s.0 t.0)
        (listed_one os ps (cc same) x.1 y.1 s.1 t.1)

pub offers_one : (scene : Scene) (limits others : Limits) (vertex : ℕ) (decisions : List Decision) (one other : List ℕ) → TellsOffers scene limits vertex decisions one →
    TellsOffers scene others vertex decisions other → ¬ (HasDoubt one) → ¬ (HasDoubt other) → one ≡ other
offers_one scene limits others vertex decisions one other a b sure also =
    let known : a.0 ≡ b.0 = known_is_one scene.lines (choices decisions) a.0 b.0 a.2 b.2 in
    a.4
    ∙ ap (offers_text scene.names)
    (listed_one (unlabelled scene) limits others vertex decisions a.1 b.1 (a.3.each ∙ ap (λ (k : List Tri). open_choices k (length k)) known ∙ sym b.3.each) a.3.offered b.3.offered
    (without_doubt scene.names a.1 one a.4 sure) (without_doubt scene.names b.1 other b.4 also))
    ∙ sym b.4
