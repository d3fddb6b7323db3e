-- A search for any product, and products that show that something is not forced.
use Rattle.std.proofs.Common.{◌≡◌, ◌≢◌, ℕ, ◌⊎◌, inl, inr, Bool, false, not, List, [], ◌∷◌, ◌++◌, slice_index_or, refl}
use Rattle.std.specs.List.{AllByRecursion}
use Rattle.vpg_diagram.specs.DiagramText.{NamedDiagram}
use Rattle.vpg_diagram.specs.Clauses.{IsTrueIn}
use Rattle.vpg_diagram.specs.declared.clause.Literal.{Literal}
use Rattle.vpg_diagram.proofs.Lists.{All-append, All-front}
use Rattle.vpg_game.specs.Game.{NamedGame}
use Rattle.vpg_partial.specs.KnownLaws.{IsRemaining}
use Rattle.vpg_why.specs.declared.question.Aim.{Aim}
use Rattle.vpg_why.specs.declared.searching.Example.{Example}
use Rattle.vpg_why.specs.declared.searching.Found.{Found}
use Rattle.vpg_why.specs.declared.searching.Found.TheVariants as founds
use Rattle.vpg_why.specs.Found.{IsSought, AllMeet}
use Rattle.vpg_why.specs.Products.{Meets, NoneMeets}
use Rattle.vpg_why.specs.Suffices.{choice}
use Rattle.vpg_why.proofs.OpenFeatures.{either_value}

-- what was neither found nor ruled out met a limit
pub not_settled : (found : Found) → found ≢ founds.Unsettled → ((x : Example) → found ≡ founds.Product x → ⊥) → (found ≡ founds.Nothing → ⊥) → ⊥
not_settled (founds.Product x) settled a b = a x refl
not_settled founds.Nothing settled a b = b refl
not_settled founds.Unsettled settled a b = settled refl

module _ (game : NamedGame) (diagram : NamedDiagram) (aim : Aim) (choices : List Literal) where
  module _ (f : ℕ) where
    fewer : (value : Bool) (set : List Bool) → IsRemaining diagram.lines (choices ++ choice f value ∷ []) set → IsRemaining diagram.lines choices set
    fewer value set left = record { product = left.product; agrees = All-front (λ d. IsTrueIn set d) choices (choice f value ∷ []) left.agrees }

    -- with one choice more, or without it
    pub sought_with : (value : Bool) (example : Example) → IsSought game diagram aim (choices ++ choice f value ∷ []) (founds.Product example) → IsSought game diagram aim choices (founds.Product example)
    sought_with value example (left, meets) = (fewer value example.features.items left, meets)

    with_choice : (value : Bool) (set : List Bool) → IsRemaining diagram.lines choices set → IsTrueIn set (choice f value) → IsRemaining diagram.lines (choices ++ choice f value ∷ []) set
    with_choice value set remains e = record { product = remains.product; agrees = All-append (λ d. IsTrueIn set d) choices (choice f value ∷ []) remains.agrees (e, tt) }

    -- where none meets the aim with a choice, those that do have the feature otherwise
    pub otherwise : (value : Bool) (found : List Example) → AllMeet game diagram aim choices found → NoneMeets game diagram aim (choices ++ choice f value ∷ []) →
        AllByRecursion (λ e. slice_index_or e.features.items f false ≡ not value) found
    otherwise value [] are lost = tt
    otherwise value (e ∷ rest) are lost = (of (either_value e.features.items f value), otherwise value rest are.1 lost)
      where
        of : IsTrueIn e.features.items (choice f value) ⊎ IsTrueIn e.features.items (choice f (not value)) → slice_index_or e.features.items f false ≡ not value
        of (inl h) = absurd (lost e.features.items (with_choice value e.features.items are.0.0 h) are.0.1)
        of (inr h) = h

  pub one_more : (found : List Example) (e : Example) → AllMeet game diagram aim choices found → IsSought game diagram aim choices (founds.Product e) → AllMeet game diagram aim choices (found ++ e ∷ [])
  one_more found e are sought = All-append (λ x. IsRemaining diagram.lines choices x.features.items × Meets game aim x.features.items) found (e ∷ []) are (sought, tt)
