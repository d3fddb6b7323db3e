-- What is told of who wins in the products left.
use Rattle.std.proofs.Common.{◌≡◌, ℕ, zero, suc, ◌+◌, List, [], ◌∷◌, ◌++◌, length, refl, sym, ap, ap₂, ◌∙◌, subst, inl, inr, append-nil, append_assoc, arith}
use Rattle.std.specs.Prelude.{All, Bool, cond, count_by}
use Rattle.std.specs.List.{AllByRecursion, list_all}
use Rattle.std.proofs.lemmas.List.{map_push}
use Rattle.std.proofs.lemmas.List.Folds.{fold-map}
use Rattle.vpg_diagram.specs.FeatureDiagram.{Line}
use Rattle.vpg_diagram.specs.declared.clause.Literal.{Literal}
use Rattle.vpg_game.specs.Game.{graph_of}
use Rattle.vpg_measure.specs.Orders.{OrderView}
use Rattle.vpg_number.specs.declared.counted.Count.{Count}
use Rattle.vpg_partial.specs.TableLaws.{AreChoicesOf}
use Rattle.vpg_texts.specs.Scene.{Scene, scene_of}
use Rattle.vpg_why.specs.Explained.{choices}
use Rattle.vpg_why.specs.declared.question.Limits.{Limits}
use Rattle.vpg_winners.specs.Decided.{IsDecidedAs, IsDecidedExact}
use Rattle.vpg_winners.specs.Joined.{PartView}
use Rattle.vpg_winners.specs.Winners.{IsCutOut, view_of, views}
use Rattle.vpg_winners.specs.declared.deciding.Decided.{Decided}
use Rattle.vpg_winners.specs.declared.deciding.Decided.TheVariants as decides
use Rattle.vpg_winners.specs.declared.parts.Part.{Part}
use Rattle.vpg_looks.specs.Answers.{Appends, TellsDecided, TellsPartLine, TellsPartLines, TellsWinners, identifier_of, label_in}
use Rattle.vpg_looks.specs.Numbers.{AreAmounts, IsAmount, looks_each}
use Rattle.vpg_looks.specs.Room.{BothSearchesEnd}
use Rattle.vpg_looks.specs.Texts.{decided_text, is_lost, is_told, is_won, part_line, part_lines, winners_line}
use Rattle.vpg_looks.specs.Winners.{AreWinners}

-- ---- parts, as the code has them

-- their literals name features
pub parts_named : (lines : List Line) (chosen : List Literal) (parts : List Part) → AllByRecursion (IsCutOut lines chosen) (views parts) → All (λ p. AreChoicesOf lines p.literals.items) parts
parts_named lines chosen [] cut k d less = absurd (omega (arith, less))
parts_named lines chosen (p ∷ rest) cut zero d less = cut.0.named
parts_named lines chosen (p ∷ rest) cut (suc k) d less = parts_named lines chosen rest cut.1 k d (omega (arith, less))

pub counted : (is : PartView → Bool) (parts : List Part) → count_by is (views parts) ≡ count_by (λ p. is (view_of p)) parts
counted is parts = fold-map (λ (n : ℕ) (p : PartView). n + cond (is p) 1 0) view_of 0 parts

module _ (scene : Scene) (looks vertex : ℕ) (chosen : List Literal) where
  -- ---- lines with numbers

  abbrev lines_of : List PartView → List Count → List ℕ
  lines_of parts counts = part_lines scene.names (identifier_of scene vertex) (label_in scene vertex) parts counts

  abbrev line_of : PartView → Count → List ℕ
  line_of part count = part_line scene.names (identifier_of scene vertex) (label_in scene vertex) part count

  -- with one part more
  more : (part : PartView) (count : Count) → IsAmount scene.lines looks (chosen ++ part.literals) count → (parts : List PartView) (counts : List Count) → AreAmounts scene looks chosen parts counts →
      AreAmounts scene looks chosen (parts ++ part ∷ []) (counts ++ count ∷ []) × (lines_of (parts ++ part ∷ []) (counts ++ count ∷ []) ≡ lines_of parts counts ++ line_of part count)
  more part count is [] [] are = ((is, tt), append-nil (line_of part count))
  more part count is [] (c ∷ counts) are = absurd are
  more part count is (p ∷ parts) [] are = absurd are
  more part count is (p ∷ parts) (c ∷ counts) are =
      let (rest, lines) = more part count is parts counts are.1 in
      ((are.0, rest), ap (λ (t : List ℕ). line_of p c ++ t) lines ∙ sym (append_assoc (line_of p c) (lines_of parts counts) (line_of part count)))

  -- no lines, and one line more
  pub told_no_lines : (before : List ℕ) → Appends (TellsPartLines scene looks vertex chosen []) before before
  told_no_lines before = ([], (([], tt, refl), sym (append-nil before)))

  pub told_line : (done all : List Part) (part : Part) (before between after : List ℕ) → all ≡ done ++ part ∷ [] →
      Appends (TellsPartLines scene looks vertex chosen (views done)) before between → Appends (TellsPartLine scene looks vertex chosen (view_of part)) between after →
      Appends (TellsPartLines scene looks vertex chosen (views all)) before after
  told_line done all part before between after is (text, ((counts, are, text_is), first)) (line, ((count, amount, line_is), then)) =
      let (amounts, lines) = more (view_of part) count amount (views done) counts are in
      subst (λ (ps : List PartView). Appends (TellsPartLines scene looks vertex chosen ps) before after) (sym (ap views is ∙ map_push view_of done part)) (
        text ++ line,
        (
          (counts ++ count ∷ [], amounts, ap₂ (λ (s t : List ℕ). s ++ t) text_is line_is ∙ sym lines),
          then ∙ ap (λ (t : List ℕ). t ++ line) first ∙ append_assoc before text line,
        ),
      )

-- ---- an order's page

module _ (labels : List (List ℕ)) (order : OrderView) (limits : Limits) (vertex : ℕ) where
  abbrev page : Scene
  page = scene_of labels order.game order.diagram

  abbrev last : List PartView → List ℕ
  last parts = winners_line (identifier_of page vertex) (label_in page vertex) (count_by (λ p. is_won p.winner) parts)
      (count_by (λ p. is_lost p.winner) parts) (list_all (λ p. is_told p.winner) parts)

  pub told_winners : (parts : List PartView) (before between after : List ℕ) → AreWinners page limits vertex (choices order.decisions) parts →
      Appends (TellsPartLines page (looks_each limits.trials (length parts)) vertex (choices order.decisions) parts) before between →
      after ≡ between ++ last parts → Appends (TellsWinners page limits vertex order.decisions) before after
  told_winners parts before between after are (lines, ((counts, amounts, lines_are), first)) then = (
    lines ++ last parts,
    (
      (parts, counts, are, amounts, ap (λ (t : List ℕ). t ++ last parts) lines_are),
      then ∙ ap (λ (t : List ℕ). t ++ last parts) first ∙ append_assoc before lines (last parts),
    ),
  )

  pub decided_told : (found : Decided) → IsDecidedAs (graph_of order.game) order.diagram.lines (choices order.decisions) vertex found →
      (BothSearchesEnd page limits vertex (choices order.decisions) → IsDecidedExact found) →
      TellsDecided page limits vertex order.decisions (decided_text order.diagram.names (identifier_of page vertex) (label_in page vertex) found)
  decided_told decides.Won is settled = inl (is.0, is.1, refl)
  decided_told decides.Lost is settled = inr (inl (is.0, is.1, refl))
  decided_told (decides.Mixed won lost) is settled = inr (inr (inl (
    won.features.items,
    lost.features.items,
    won.first,
    lost.first,
    record { remaining = is.0.remaining; meets = is.0.wins; is_first = is.0.is_first },
    record { remaining = is.1.remaining; meets = is.1.wins; is_first = is.1.is_first },
    refl,
    settled,
  )))
  decided_told decides.Empty is settled = inr (inr (inr (inl (is, refl))))
  decided_told decides.Unsettled is settled = inr (inr (inr (inr (settled, refl))))
