-- Choices that do not make a verdict.
use Rattle.std.proofs.Common.{◌≡◌, ℕ, ◌<◌, ◌⊎◌, inl, inr, List, [], ◌∷◌, ◌++◌, Contains, subst}
use Rattle.std.proofs.lemmas.List.Elements.{Contains-append_left, Contains-append_right, Contains-append_cases}
use Rattle.vpg_diagram.specs.DiagramText.{NamedDiagram}
use Rattle.vpg_diagram.specs.FeatureDiagram.{IsDiagram, feature_count}
use Rattle.vpg_diagram.specs.declared.clause.Literal.{Literal}
use Rattle.vpg_diagram.proofs.Lists.{All-contained, Contains-nil, Contains-only}
use Rattle.vpg_game.specs.Game.{NamedGame, graph_of}
use Rattle.vpg_partial.specs.TableLaws.{AreAmong, AreChoicesOf}
use Rattle.vpg_sides.specs.declared.which.Which.{Which}
use Rattle.vpg_why.specs.declared.question.Question.TheVariants as asks
use Rattle.vpg_why.specs.Spared.{AreSpared}
use Rattle.vpg_why.specs.Suffices.{Suffice}
use Rattle.vpg_why.proofs.Beside.{named_one}
use Rattle.vpg_why.proofs.Monotone.{more_choices_suffice}

-- one of several further choices
among_more : (own more : List Literal) (l : Literal) → Contains more l → AreAmong (own ++ l ∷ []) (own ++ more)
among_more own more l k x within = of (Contains-append_cases own (l ∷ []) x within)
  where
    of : Contains own x ⊎ Contains (l ∷ []) x → Contains (own ++ more) x
    of (inl h) = Contains-append_left own more x h
    of (inr h) = Contains-append_right own more x (subst (λ (y : Literal). Contains more y) (Contains-only l x h) k)

module _ (game : NamedGame) (diagram : NamedDiagram) (which : Which) (vertex : ℕ) (own : List Literal) where
  pub none_are : (spared : List Literal) → spared ≡ [] → AreSpared game diagram which vertex own spared
  none_are spared bare l h enough = Contains-nil l (subst (λ (ls : List Literal). Contains ls l) bare h)

  -- what all of them together do not make, none of them makes
  pub more_spared : (old more new : List Literal) → IsDiagram diagram.lines → AreChoicesOf diagram.lines own →
      AreChoicesOf diagram.lines more → new ≡ old ++ more → AreSpared game diagram which vertex own old →
      (Suffice game diagram (asks.Verdict which vertex) (own ++ more) → ⊥) →
      AreSpared game diagram which vertex own new
  more_spared old more new is named others e are low l h enough =
      of (Contains-append_cases old more l (subst (λ (ls : List Literal). Contains ls l) e h))
    where
      of : Contains old l ⊎ Contains more l → ⊥
      of (inl k) = are l k enough
      of (inr k) =
          let inside = All-contained (λ (c : Literal). c.feature < feature_count diagram.lines) more l others k in
          low (more_choices_suffice (graph_of game) diagram.lines (asks.Verdict which vertex) (own ++ l ∷ [])
          (own ++ more) is (named_one diagram.lines own l named inside) (among_more own more l k) enough)
