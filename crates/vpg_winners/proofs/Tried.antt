-- The first product that is left, tried alone.
use Rattle.std.proofs.Common.{◌≡◌, ℕ, zero, suc, ◌+◌, ◌<◌, ◌≤◌, Bool, true, false, List, [], ◌∷◌, ◌++◌, length, slice_index_or, refl, sym, ap, ◌∙◌, subst, arith, append_assoc}
use Rattle.std.proofs.lemmas.List.{map-append}
use Rattle.std.specs.Prelude.{Option, Some, None, IfSome, IsTrue, ◌↔◌}
use Rattle.std.specs.Global.{Vec}
use Rattle.std.specs.List.{AllByRecursion}
use Rattle.vpg_diagram.specs.Clauses.{IsTrueIn}
use Rattle.vpg_diagram.specs.DiagramText.{NamedDiagram}
use Rattle.vpg_diagram.specs.FeatureDiagram.{Line, feature_count}
use Rattle.vpg_diagram.specs.declared.clause.Literal.{Literal}
use Rattle.vpg_diagram.proofs.Lists.{All-append}
use Rattle.vpg_game.specs.Game.{NamedGame}
use Rattle.vpg_partial.specs.Known.{AgreesWithChoices, literal_of}
use Rattle.vpg_partial.specs.KnownLaws.{IsRemaining}
use Rattle.vpg_partial.specs.TableLaws.{AreChoicesOf, IsOnlyRemaining}
use Rattle.vpg_partial.specs.declared.decision.Decision.{Decision}
use Rattle.vpg_sets.specs.declared.node.Set.{Set}
use Rattle.vpg_sets.specs.Firsts.{IsFirstOf}
use Rattle.vpg_sets.specs.Sets.{Arena, has}
use Rattle.vpg_why.specs.Explained.{choices}
use Rattle.vpg_why.specs.Found.{IsFoundProduct}
use Rattle.vpg_why.specs.Products.{ComesBefore, Meets}
use Rattle.vpg_why.specs.Suffices.{choice}
use Rattle.vpg_why.specs.declared.question.Aim.{Aim}
use Rattle.vpg_winners.specs.Sampled.{IsFirstOfAll, choices_of}
use Rattle.vpg_winners.proofs.Samples.{is_first_left}

pub some_first : (diagram : NamedDiagram) (own : List Literal) (arena : Arena) (set : Set) (found : Option (Vec Bool)) →
    feature_count diagram.lines ≡ arena.features →
    ((p : List Bool) → length p ≡ arena.features → (IsTrue (has arena set p) ↔ IsRemaining diagram.lines own p)) →
    IfSome found (λ p. IsFirstOf arena set p.items) → IfSome found (λ p. IsFirstOfAll diagram own p.items)
some_first diagram own arena set (Some p) count left is = record {
  remaining = (left p.items is.features).0 is.member;
  first = is_first_left diagram own arena set p.items count left is;
}
some_first diagram own arena set None count left is = tt

-- ---- the choices of a product

pub next_choice : (product : List Bool) (own : List Literal) (n : ℕ) (old new : List Decision) (x : Decision) →
    literal_of x ≡ choice n (slice_index_or product n false) → new ≡ old ++ x ∷ [] →
    choices old ≡ own ++ choices_of product n → choices new ≡ own ++ choices_of product (n + 1)
next_choice product own n old new x is step so_far =
    let more : suc n ≡ n + 1 = omega arith in
    ap (λ (ds : List Decision). choices ds) step ∙ map-append literal_of old (x ∷ [])
    ∙ ap (λ (ls : List Literal). ls ++ literal_of x ∷ []) so_far
    ∙ append_assoc own (choices_of product n) (literal_of x ∷ [])
    ∙ ap (λ (l : Literal). own ++ (choices_of product n ++ l ∷ [])) is
    ∙ ap (λ (m : ℕ). own ++ choices_of product m) more

each_below : (product : List Bool) (n m : ℕ) → n ≤ m →
    AllByRecursion (λ (c : Literal). c.feature < m) (choices_of product n)
each_below product zero m l = tt
each_below product (suc n) m l =
    All-append (λ (c : Literal). c.feature < m) (choices_of product n) (choice n (slice_index_or product n false) ∷ [])
    (each_below product n m (omega (arith, l))) (omega (arith, l), tt)

pub are_named : (lines : List Line) (own more : List Literal) (product : List Bool) →
    more ≡ own ++ choices_of product (feature_count lines) → AreChoicesOf lines own → AreChoicesOf lines more
are_named lines own more product e named =
    subst (AreChoicesOf lines) (sym e)
    (All-append (λ (c : Literal). c.feature < feature_count lines) own (choices_of product (feature_count lines)) named
    (each_below product (feature_count lines) (feature_count lines) (omega arith)))

has_each : (product : List Bool) (n : ℕ) → AllByRecursion (λ d. IsTrueIn product d) (choices_of product n)
has_each product zero = tt
has_each product (suc n) =
    All-append (λ (d : Literal). IsTrueIn product d) (choices_of product n)
    (choice n (slice_index_or product n false) ∷ []) (has_each product n) (refl, tt)

-- ---- the product that they leave

module _ (game : NamedGame) (diagram : NamedDiagram) (aim : Aim) (own more : List Literal) (first product : List Bool)
    (n : ℕ) (e : more ≡ own ++ choices_of first n) (is : IsFirstOfAll diagram own first)
    (only : IsOnlyRemaining diagram.lines more product) where
  agrees : AgreesWithChoices first more
  agrees =
      subst (AgreesWithChoices first) (sym e)
      (All-append (λ (d : Literal). IsTrueIn first d) own (choices_of first n) is.remaining.agrees (has_each first n))

  is_only : first ≡ product
  is_only = only.only first (record { product = is.remaining.product; agrees = agrees })

  pub tried_found : Meets game aim product → IsFoundProduct game diagram aim own product true
  tried_found meets = record {
    remaining = subst (IsRemaining diagram.lines own) is_only is.remaining;
    meets = meets;
    is_first = λ shown other left before m. is.first other left (subst (ComesBefore other) (sym is_only) before);
  }
