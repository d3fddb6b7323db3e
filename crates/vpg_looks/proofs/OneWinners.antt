-- Two answers on who wins are one text.
use Rattle.std.proofs.Common.{◌≡◌, ◌≢◌, ℕ, Bool, true, false, List, [], ◌∷◌, ◌++◌, refl, sym, ap₂, ◌∙◌, subst, inr, arith, append-nil, append_assoc}
use Rattle.std.specs.Prelude.{◌⊎◌, codes, count_by, length}
use Rattle.std.specs.List.{AllByRecursion, list_all}
use Rattle.std.proofs.lemmas.Bool.{and_parts, false≢true}
use Rattle.vpg_sides.specs.declared.player.Player.TheVariants.{Even, Odd}
use Rattle.vpg_number.specs.Counted.{IsExact}
use Rattle.vpg_number.specs.declared.counted.Count.{Count}
use Rattle.vpg_sides.specs.declared.which.Which.TheVariants.{Hopeful, Dual}
use Rattle.vpg_partial.specs.KnownLaws.{IsRemaining}
use Rattle.vpg_partial.specs.declared.decision.Decision.{Decision}
use Rattle.vpg_texts.specs.Labels.{beside}
use Rattle.vpg_texts.specs.Scene.{Scene}
use Rattle.vpg_texts.specs.Text.{blank_number}
use Rattle.vpg_why.specs.Explained.{choices}
use Rattle.vpg_why.specs.declared.question.Aim.TheVariants as aims
use Rattle.vpg_why.specs.declared.question.Limits.{Limits}
use Rattle.vpg_why.proofs.FirstOnes.{first_products_are_one}
use Rattle.vpg_winners.specs.Decided.{WinsProduct}
use Rattle.vpg_winners.specs.Joined.{PartView}
use Rattle.vpg_winners.specs.Winners.{AreSettled}
use Rattle.vpg_winners.specs.declared.parts.Winner.{Winner}
use Rattle.vpg_winners.specs.declared.parts.Winner.TheVariants as winners
use Rattle.vpg_winners.proofs.One.{winners_one as parts_are_one}
use Rattle.vpg_looks.specs.Answers.{HasDoubt, TellsDecided, TellsMixed, TellsWinners, identifier_of, label_in}
use Rattle.vpg_looks.specs.Texts.{is_lost, is_told, is_won, mixed_text, more_text, names_in, part_lines, product_word, winners_line, winners_text}
use Rattle.vpg_looks.specs.Numbers.{AreAmounts, looks_each}
use Rattle.vpg_looks.proofs.Doubts.{are_all, not_open}
use Rattle.vpg_looks.proofs.Facts.{both_win}
use Rattle.vpg_looks.proofs.OneNumbers.{counts_exact, counts_one}

-- ---- doubts

ends : (f l m e n : List ℕ) → f ++ (((l ++ m) ++ e) ++ n) ≡ ((((f ++ l) ++ m) ++ e) ++ n) ++ []
ends f l m e n = simp (append_assoc, append-nil)

is_settled : (w : Winner) → is_told w ≡ true → w ≢ winners.Unsettled
is_settled winners.Unsettled told = absurd (false≢true told)
is_settled w told = λ e. cc e

are_settled : (parts : List PartView) → list_all (λ p. is_told p.winner) parts ≡ true → AreSettled parts
are_settled [] told = tt
are_settled (p ∷ parts) told =
    let both = and_parts (is_told p.winner) (list_all (λ q. is_told q.winner) parts) told in
    (is_settled p.winner both.0, are_settled parts both.1)

in_won : (m i e n s k q : List ℕ) → ((((m ++ i) ++ e) ++ n) ++ ((s ++ k) ++ n)) ++ q ≡ ((m ++ (i ++ e)) ++ (n ++ s)) ++ ((k ++ n) ++ q)
in_won m i e n s k q = simp append_assoc

in_lost : (m i e n w s k : List ℕ) → ((((m ++ i) ++ e) ++ n) ++ (w ++ n)) ++ ((s ++ k) ++ n) ≡ ((m ++ ((i ++ e) ++ (n ++ w))) ++ (n ++ s)) ++ (k ++ n)
in_lost m i e n w s k = simp append_assoc

module _ (names : List (List ℕ)) (identifier : ℕ) (label : List ℕ) (won lost : List Bool) where
  abbrev listed : List Bool → List ℕ
  listed set = names_in names set (length names)

  won_first : (first second : Bool) (text : List ℕ) → text ≡ mixed_text names identifier label won first lost second → ¬ (HasDoubt text) → first ≡ true
  won_first true second text is sure = refl
  won_first false second text is sure =
      let last : List ℕ = (product_word second ++ listed lost) ++ codes "\n" in
      absurd (sure (inr (inr (inr (inr (inr (inr (
        blank_number identifier ++ beside label,
        (listed won ++ codes "\n") ++ last,
        is ∙ in_won (codes "mixed") (blank_number identifier) (beside label) (codes "\n") (codes "some product") (listed won) last,
      ))))))))

  lost_first : (first second : Bool) (text : List ℕ) → text ≡ mixed_text names identifier label won first lost second → ¬ (HasDoubt text) → second ≡ true
  lost_first first true text is sure = refl
  lost_first first false text is sure =
      let front : List ℕ = product_word first ++ listed won in
      absurd (sure (inr (inr (inr (inr (inr (inr (
        (blank_number identifier ++ beside label) ++ (codes "\n" ++ front),
        listed lost ++ codes "\n",
        is ∙ in_lost (codes "mixed") (blank_number identifier) (beside label) (codes "\n") front (codes "some product") (listed lost),
      ))))))))

-- ---- one page

-- of the four kinds of answer each rules out the others
module _ (Left Even_wins Odd_wins : List Bool → Type 0) (both : (set : List Bool) → Even_wins set → Odd_wins set → ⊥) where
  abbrev Each : (List Bool → Type 0) → Type 0
  Each Wins = (set : List Bool) → Left set → Wins set

  abbrev Some : (List Bool → Type 0) → Type 0
  Some Wins = (set : List Bool) × Left set × Wins set

  abbrev Kinds : (Mixed Cut : Type 0) (text won lost empty short : List ℕ) → Type 0
  Kinds Mixed Cut text won lost empty short =
      (((set : List Bool) × Left set) × Each Even_wins × (text ≡ won)) ⊎ (((set : List Bool) × Left set) × Each Odd_wins × (text ≡ lost))
      ⊎ Mixed ⊎ (((set : List Bool) → Left set → ⊥) × (text ≡ empty)) ⊎ (Cut × (text ≡ short))

  of_kinds : {P Q R S : Type 0} (one other won lost empty short : List ℕ) → ¬ (one ≡ short) → ¬ (other ≡ short) → (P → Some Even_wins × Some Odd_wins) → (R → Some Even_wins × Some Odd_wins) →
      (P → R → one ≡ other) → Kinds P Q one won lost empty short → Kinds R S other won lost empty short → one ≡ other
  of_kinds one other won lost empty short sure also mixed same_mixed same a b = grind arith

module _ (scene : Scene) (limits others : Limits) (vertex : ℕ) (decisions : List Decision) where
  module _ (parts : List PartView) (counts : List Count) (text : List ℕ) (is : text ≡ winners_text scene.names (identifier_of scene vertex) (label_in scene vertex) parts counts) (sure : ¬ (HasDoubt text)) where
    pub told_settled : AreSettled parts
    told_settled =
        let id : ℕ = identifier_of scene vertex in
        let lines : List ℕ = part_lines scene.names id (label_in scene vertex) parts counts in
        let line : List ℕ = ((codes "winners" ++ blank_number id) ++ blank_number (count_by (λ p. is_won p.winner) parts)) ++ blank_number (count_by (λ p. is_lost p.winner) parts) in
        let told : Bool = list_all (λ p. is_told p.winner) parts in
        are_settled parts
        (are_all text sure (lines ++ line) (label_in scene vertex) [] told (is ∙ ends lines line (more_text told) (beside (label_in scene vertex)) (codes "\n")))

    -- each number is exact
    told_exact : (looks : ℕ) → AreAmounts scene looks (choices decisions) parts counts → AllByRecursion IsExact counts
    told_exact looks are =
        let id : ℕ = identifier_of scene vertex in
        counts_exact scene (choices decisions) scene.names id (label_in scene vertex) looks parts counts are []
        (winners_line id (label_in scene vertex) (count_by (λ p. is_won p.winner) parts) (count_by (λ p. is_lost p.winner) parts) (list_all (λ p. is_told p.winner) parts)) text is sure

  pub tells_winners_one : (one other : List ℕ) → TellsWinners scene limits vertex decisions one → TellsWinners scene others vertex decisions other → ¬ (HasDoubt one) → ¬ (HasDoubt other) → one ≡ other
  tells_winners_one one other a b sure also =
      let parts : a.0 ≡ b.0 = parts_are_one scene.game scene.lines vertex a.2.rule (told_settled a.0 a.1 one a.4 sure) b.0 b.2.rule (told_settled b.0 b.1 other b.4 also) in
      let own : ℕ = looks_each limits.trials (length a.0) in
      let its : ℕ = looks_each others.trials (length b.0) in
      let counts : a.1 ≡ b.1 = counts_one scene (choices decisions) own its b.0 a.1 b.1
      (subst (λ (ps : List PartView). AreAmounts scene own (choices decisions) ps a.1) parts a.3) b.3
      (told_exact a.0 a.1 one a.4 sure own a.3) (told_exact b.0 b.1 other b.4 also its b.3) in
      a.4 ∙ ap₂ (winners_text scene.names (identifier_of scene vertex) (label_in scene vertex)) parts counts ∙ sym b.4

  mixed_one : (one other : List ℕ) → TellsMixed scene limits vertex decisions one → TellsMixed scene others vertex decisions other → ¬ (HasDoubt one) → ¬ (HasDoubt other) → one ≡ other
  mixed_one one other a b sure also =
      let w : a.2 ≡ true = won_first scene.names (identifier_of scene vertex) (label_in scene vertex) a.0 a.1 a.2 a.3 one a.6 sure in
      let l : a.3 ≡ true = lost_first scene.names (identifier_of scene vertex) (label_in scene vertex) a.0 a.1 a.2 a.3 one a.6 sure in
      let x : b.2 ≡ true = won_first scene.names (identifier_of scene vertex) (label_in scene vertex) b.0 b.1 b.2 b.3 other b.6 also in
      let y : b.3 ≡ true = lost_first scene.names (identifier_of scene vertex) (label_in scene vertex) b.0 b.1 b.2 b.3 other b.6 also in
      let won : a.0 ≡ b.0 = first_products_are_one scene.game scene.lines (aims.Won Hopeful vertex) (choices decisions) a.0 b.0
      a.4.remaining a.4.meets (a.4.is_first w) b.4.remaining b.4.meets (b.4.is_first x) in
      let lost : a.1 ≡ b.1 = first_products_are_one scene.game scene.lines (aims.Won Dual vertex) (choices decisions) a.1 b.1
      a.5.remaining a.5.meets (a.5.is_first l) b.5.remaining b.5.meets (b.5.is_first y) in
      a.6
      ∙ ap₂ (λ (s : List Bool) (f : Bool). mixed_text scene.names (identifier_of scene vertex) (label_in scene vertex) s f a.1 a.3) won (w ∙ sym x)
      ∙ ap₂ (λ (s : List Bool) (f : Bool). mixed_text scene.names (identifier_of scene vertex) (label_in scene vertex) b.0 b.2 s f) lost (l ∙ sym y)
      ∙ sym b.6

  pub tells_decided_one : (one other : List ℕ) → TellsDecided scene limits vertex decisions one → TellsDecided scene others vertex decisions other → ¬ (HasDoubt one) → ¬ (HasDoubt other) → one ≡ other
  tells_decided_one one other a b sure also =
      of_kinds (IsRemaining scene.lines (choices decisions)) (WinsProduct scene.game Even vertex) (WinsProduct scene.game Odd vertex)
      (both_win scene (choices decisions) vertex) one other _ _ _ _ (not_open one sure) (not_open other also)
      (λ m. ((m.0, m.4.remaining, m.4.meets), (m.1, m.5.remaining, m.5.meets))) (λ m. ((m.0, m.4.remaining, m.4.meets), (m.1, m.5.remaining, m.5.meets)))
      (λ x y. mixed_one one other x y sure also) a b
