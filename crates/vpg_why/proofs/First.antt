-- Which product comes first, and what a case distinction on one feature after another says of it.
use Rattle.std.proofs.Common.{◌≡◌, ◌≢◌, ℕ, ◌<◌, ◌⊎◌, inl, inr, Bool, true, false, List, [], ◌∷◌, ◌++◌, slice_index_or, refl, sym, ◌∙◌, subst}
use Rattle.std.proofs.lemmas.Bool.{cases_order}
use Rattle.vpg_guards.specs.declared.tri.Tri.{Tri}
use Rattle.vpg_guards.specs.declared.tri.Tri.TheVariants.{No, Unknown, Yes}
use Rattle.vpg_guards.specs.Known.{Agrees}
use Rattle.vpg_diagram.specs.DiagramText.{NamedDiagram, IsNamedDiagram}
use Rattle.vpg_diagram.specs.Clauses.{IsTrueIn}
use Rattle.vpg_diagram.specs.declared.clause.Literal.{Literal}
use Rattle.vpg_diagram.proofs.Lists.{All-append, All-front, All-back}
use Rattle.vpg_game.specs.Game.{NamedGame}
use Rattle.vpg_partial.specs.KnownLaws.{IsRemaining}
use Rattle.vpg_partial.specs.TableLaws.{IsKnownTable, IsOnlyRemaining}
use Rattle.vpg_partial.proofs.Tables.{remaining_products_complete}
use Rattle.vpg_why.specs.declared.question.Aim.{Aim}
use Rattle.vpg_why.specs.declared.searching.Found.TheVariants as founds
use Rattle.vpg_why.specs.Products.{AgreeBelow, NoneMeets, Meets, IsFirst}
use Rattle.vpg_why.specs.Suffices.{choice}
use Rattle.vpg_why.specs.Found.{IsFoundProduct}
use Rattle.vpg_why.proofs.Splits.{decided as has_or_lacks}

same_where_known : (t : Tri) (a b : Bool) → t ≢ Unknown → Agrees t a → Agrees t b → a ≡ b
same_where_known No a b known h k = h ∙ sym k
same_where_known Unknown a b known h k = absurd (known refl)
same_where_known Yes a b known h k = h ∙ sym k

-- products that are left agree where every feature is known
pub agree_below : (diagram : NamedDiagram) (choices : List Literal) (known : List Tri) (feature : ℕ) → IsNamedDiagram diagram → IsKnownTable diagram.lines choices known → ((f : ℕ) → f < feature → slice_index_or known f Unknown ≢ Unknown) →
    AgreeBelow diagram choices feature
agree_below diagram choices known feature is t below one other r s f less =
    same_where_known (slice_index_or known f Unknown) (slice_index_or one f false) (slice_index_or other f false) (below f less)
    (remaining_products_complete diagram.lines choices known one is.diagram t r f) (remaining_products_complete diagram.lines choices known other is.diagram t s f)

in_and_out : (b : Bool) → b ≡ true → b ≡ false → ⊥
in_and_out b h k = clash (sym h ∙ k)
  where
    clash : true ≡ false → ⊥
    clash e = cc

module _ (game : NamedGame) (diagram : NamedDiagram) (aim : Aim) (choices : List Literal) where
  -- the one product that is left is the first
  pub only_is_first : (set : List Bool) → IsOnlyRemaining diagram.lines choices set → IsFirst game diagram aim choices set
  only_is_first set is other remains before meets =
      in_and_out (slice_index_or set before.feature false) (subst (λ (s : List Bool). slice_index_or s before.feature false ≡ true) (is.only other remains) before.has) before.lacks

  module _ (f : ℕ) where
    with_it : (set : List Bool) → IsRemaining diagram.lines choices set → slice_index_or set f false ≡ true → IsRemaining diagram.lines (choices ++ choice f true ∷ []) set
    with_it set remains e = record { product = remains.product; agrees = All-append (λ d. IsTrueIn set d) choices (choice f true ∷ []) remains.agrees (e, tt) }

    without : (set : List Bool) → IsRemaining diagram.lines choices set → slice_index_or set f false ≡ false → IsRemaining diagram.lines (choices ++ choice f false ∷ []) set
    without set remains e = record { product = remains.product; agrees = All-append (λ d. IsTrueIn set d) choices (choice f false ∷ []) remains.agrees (e, tt) }

    fewer : (value : Bool) (set : List Bool) → IsRemaining diagram.lines (choices ++ choice f value ∷ []) set → IsRemaining diagram.lines choices set
    fewer value set left = record { product = left.product; agrees = All-front (λ d. IsTrueIn set d) choices (choice f value ∷ []) left.agrees }

    -- the first of those with the feature is the first of all
    first_with : AgreeBelow diagram choices f → (set : List Bool) → IsRemaining diagram.lines (choices ++ choice f true ∷ []) set → IsFirst game diagram aim (choices ++ choice f true ∷ []) set → IsFirst game diagram aim choices set
    first_with below set left first other remains before meets = of (cases_order before.feature f)
      where
        here : slice_index_or set f false ≡ true
        here = (All-back (λ d. IsTrueIn set d) choices (choice f true ∷ []) left.agrees).0

        of : (before.feature ≡ f) ⊎ ((before.feature < f) ⊎ (f < before.feature)) → ⊥
        of (inl e) = in_and_out (slice_index_or set f false) here (subst (λ n. slice_index_or set n false ≡ false) e before.lacks)
        of (inr (inl less)) = in_and_out (slice_index_or set before.feature false) (sym (below other set remains (fewer true set left) before.feature less) ∙ before.has) before.lacks
        of (inr (inr more)) = first other (with_it other remains (before.same f more ∙ here)) before meets

    -- where none with it meets the aim, the first of those without it is the first of all
    first_without : (set : List Bool) → NoneMeets game diagram aim (choices ++ choice f true ∷ []) → IsFirst game diagram aim (choices ++ choice f false ∷ []) set → IsFirst game diagram aim choices set
    first_without set lost first other remains before meets = of (has_or_lacks other f)
      where
        of : IsTrueIn other (choice f true) ⊎ IsTrueIn other (choice f false) → ⊥
        of (inl e) = lost other (with_it other remains e) meets
        of (inr e) = first other (without other remains e) before meets

    pub found_with : (set : List Bool) (first : Bool) → AgreeBelow diagram choices f → IsFoundProduct game diagram aim (choices ++ choice f true ∷ []) set first → IsFoundProduct game diagram aim choices set first
    found_with set first below p = record {
      remaining = fewer true set p.remaining;
      meets = p.meets;
      is_first = λ t. first_with below set p.remaining (p.is_first t);
    }

    pub found_without : (set : List Bool) (first : Bool) → NoneMeets game diagram aim (choices ++ choice f true ∷ []) → IsFoundProduct game diagram aim (choices ++ choice f false ∷ []) set first → IsFoundProduct game diagram aim choices set first
    found_without set first lost p = record {
      remaining = fewer false set p.remaining;
      meets = p.meets;
      is_first = λ t. first_without set lost (p.is_first t);
    }

    -- without the feature, whatever there is with it
    pub found_later : (set : List Bool) (first : Bool) → IsFoundProduct game diagram aim (choices ++ choice f false ∷ []) set first → IsFoundProduct game diagram aim choices set false
    found_later set first p = record {
      remaining = fewer false set p.remaining;
      meets = p.meets;
      is_first = λ t. absurd (in_and_out false t refl);
    }

  pub found_here : (set : List Bool) → IsOnlyRemaining diagram.lines choices set → Meets game aim set → IsFoundProduct game diagram aim choices set true
  found_here set is meets = record { remaining = is.remaining; meets = meets; is_first = λ t. only_is_first set is }
