-- What is learned of literals from the set of all products that meet an aim.
use Rattle.std.proofs.Common.{◌≡◌, ℕ, ◌+◌, ◌<◌, Vec, Global, Bool, true, false, not, ◌&&◌, List, [], ◌∷◌, ◌++◌, length, slice_index_or, refl, sym, ◌∙◌, ap, subst}
use Rattle.std.specs.Prelude.{Option, Some, None, IfSome, IsNone}
use Rattle.std.specs.List.{list_all, list_any}
use Rattle.std.proofs.lemmas.Bool.{and_parts, and_from, both_ways}
use Rattle.vpg_guards.specs.declared.tri.Tri.{Tri}
use Rattle.vpg_guards.specs.declared.tri.Tri.TheVariants.{Unknown}
use Rattle.vpg_diagram.specs.DiagramText.{NamedDiagram, IsNamedDiagram}
use Rattle.vpg_diagram.specs.FeatureDiagram.{feature_count}
use Rattle.vpg_diagram.specs.Clauses.{IsTrueIn, is_true_in}
use Rattle.vpg_diagram.specs.declared.clause.Literal.{Literal}
use Rattle.vpg_diagram.proofs.Lists.{All-append, All-front, All-back}
use Rattle.vpg_game.specs.Game.{NamedGame}
use Rattle.vpg_partial.specs.KnownLaws.{IsRemaining}
use Rattle.vpg_partial.specs.TableLaws.{IsKnownTable}
use Rattle.vpg_sets.specs.declared.node.Set.{Set}
use Rattle.vpg_sets.specs.Firsts.{IsFirstOf}
use Rattle.vpg_sets.specs.Sets.{Arena, IsGrown, IsInside, IsSetOf, has}
use Rattle.vpg_why.specs.declared.foreseeing.Findings.{Findings}
use Rattle.vpg_why.specs.declared.question.Aim.{Aim}
use Rattle.vpg_why.specs.declared.searching.Example.{Example}
use Rattle.vpg_why.specs.Foreseen.{AreFindings}
use Rattle.vpg_why.specs.Products.{AreNeeds, Meets, NoneMeets}
use Rattle.vpg_why.specs.Suffices.{choice}
use Rattle.vpg_why.proofs.Ahead.{found_with, product_learned, loss_learned}
use Rattle.vpg_why.proofs.OpenFeatures.{IsForcing, none_forced, known_next, forced_next, free_next, all_forced}
use Rattle.vpg_winners.specs.Finding.{IsSetOfMet}
use Rattle.vpg_winners.specs.Gathering.{IsGathered, some, none}
use Rattle.vpg_winners.proofs.Splits.{test_true, true_test}

-- the set keeps its products
pub met_grown : (game : NamedGame) (diagram : NamedDiagram) (aim : Aim) (own : List Literal) (old new : Arena) (set : Set) →
    IsGrown old new → IsInside old set → IsSetOfMet game diagram aim own old set → IsSetOfMet game diagram aim own new set
met_grown game diagram aim own old new set grown inside met = record {
  features = met.features ∙ sym grown.features;
  each = λ p long h. met.each p (long ∙ grown.features) (sym (grown.same set inside p) ∙ h);
  all = λ p r m. grown.same set inside p ∙ met.all p r m;
}

module _ (game : NamedGame) (diagram : NamedDiagram) (aim : Aim) (own : List Literal) (old new : Arena) (set under : Set)
    (l : Literal) (met : IsSetOfMet game diagram aim own old set) (grown : IsGrown old new)
    (is : IsSetOf new (λ p. has old set p && list_all (λ x. is_true_in p x) (l ∷ [])) under) where
  -- a product of the set with the literal
  pub under_met : (p : List Bool) → length p ≡ new.features → has new under p ≡ true →
      IsRemaining diagram.lines (own ++ l ∷ []) p × Meets game aim p
  under_met p long h =
      let both = and_parts (has old set p) (is_true_in p l && true) (sym (is.each p) ∙ h) in
      let lit = and_parts (is_true_in p l) true both.1 in
      let left = met.each p (long ∙ grown.features) both.0 in (
        record {
          product = left.0.product;
          agrees = All-append (λ d. IsTrueIn p d) own (l ∷ []) left.0.agrees (test_true p l lit.0, tt);
        },
        left.1,
      )

  -- if there is none, none with the literal meets the aim
  pub none_under : ((p : List Bool) → has new under p ≡ false) → NoneMeets game diagram aim (own ++ l ∷ [])
  none_under bare p r m =
      let left : IsRemaining diagram.lines own p =
      record { product = r.product; agrees = All-front (λ d. IsTrueIn p d) own (l ∷ []) r.agrees } in
      let lit : is_true_in p l ≡ true = true_test p l (All-back (λ d. IsTrueIn p d) own (l ∷ []) r.agrees).0 in
      both_ways (has new under p) (bare p)
      (is.each p ∙ and_from (has old set p) (is_true_in p l && true) (met.all p left m) (and_from (is_true_in p l) true lit refl))

  module _ (before after : Findings) where
    -- what is found is learned
    pub product_gathered : (e : Example) → length e.features.items ≡ new.features → has new under e.features.items ≡ true →
        after.met.items ≡ before.met.items ++ e ∷ [] → after.forced.items ≡ before.forced.items →
        AreFindings game diagram aim own before →
        AreFindings game diagram aim own after × IsGathered game diagram aim own l before.forced.items after.forced.items
    product_gathered e long h more same are =
        let both = under_met e.features.items long h in
        (product_learned game diagram aim own l before after e more same both are, some (e.features.items, both.0, both.1) same)

    pub loss_gathered : ((p : List Bool) → has new under p ≡ false) → after.met.items ≡ before.met.items →
        after.forced.items ≡ before.forced.items ++ choice l.feature (not l.value) ∷ [] →
        l.feature < feature_count diagram.lines → AreFindings game diagram aim own before →
        AreFindings game diagram aim own after × IsGathered game diagram aim own l before.forced.items after.forced.items
    loss_gathered bare same more less are =
        (loss_learned game diagram aim own l before after same more less (none_under bare) are, none (none_under bare) more)

    -- what a look in the set found, or did not
    pub all_gathered : (found : Option (Vec Bool Global)) → IfSome found (λ product. IsFirstOf new under product.items) →
        (IsNone found → (p : List Bool) → has new under p ≡ false) →
        IfSome found (λ fs. after.met.items ≡ before.met.items ++ record { features = fs; first = false } ∷ []) →
        IfSome found (λ fs. after.forced.items ≡ before.forced.items) →
        (IsNone found → after.met.items ≡ before.met.items) →
        (IsNone found → after.forced.items ≡ before.forced.items ++ choice l.feature (not l.value) ∷ []) →
        l.feature < feature_count diagram.lines → AreFindings game diagram aim own before →
        AreFindings game diagram aim own after × IsGathered game diagram aim own l before.forced.items after.forced.items
    all_gathered (Some fs) first empty more same other longer less are =
        product_gathered (record { features = fs; first = false }) first.features first.member more same are
    all_gathered None first empty more same other longer less are =
        loss_gathered (empty refl) (other refl) (longer refl) less are

-- one of the products that were found has the literal
pub had_gathered : (game : NamedGame) (diagram : NamedDiagram) (aim : Aim) (own : List Literal) (l : Literal) (findings : Findings) →
    list_any (λ e. is_true_in e.features.items l) findings.met.items ≡ true → AreFindings game diagram aim own findings →
    IsGathered game diagram aim own l findings.forced.items findings.forced.items
had_gathered game diagram aim own l findings h are = some (found_with game diagram aim own l findings.met.items are.met h) refl

not_not : (b : Bool) → not (not b) ≡ b
not_not true = refl
not_not false = refl

-- ---- feature by feature

abbrev pub AreForcedTo : NamedGame → NamedDiagram → Aim → (own listed : List Literal) → ℕ → Type 0
AreForcedTo game diagram aim own listed feature = IsForcing (Unit {0}) game diagram aim own listed feature true

pub none_yet : (game : NamedGame) (diagram : NamedDiagram) (aim : Aim) (own : List Literal) →
    AreForcedTo game diagram aim own [] 0
none_yet game diagram aim own = none_forced (Unit {0}) game diagram aim own

pub all_needed : (game : NamedGame) (diagram : NamedDiagram) (aim : Aim) (own listed : List Literal) (feature : ℕ) →
    feature ≡ feature_count diagram.lines → AreForcedTo game diagram aim own listed feature →
    AreNeeds game diagram aim own listed true
all_needed game diagram aim own listed feature e to = all_forced (Unit {0}) game diagram aim own listed feature true e to

module _ (game : NamedGame) (diagram : NamedDiagram) (aim : Aim) (own : List Literal) (product : List Bool) (known : List Tri)
    (is_diagram : IsNamedDiagram diagram) (table : IsKnownTable diagram.lines own known)
    (remaining : IsRemaining diagram.lines own product) (meets : Meets game aim product) where
  pub next_known : (listed : List Literal) (feature : ℕ) → (slice_index_or known feature Unknown ≡ Unknown → ⊥) →
      AreForcedTo game diagram aim own listed feature → AreForcedTo game diagram aim own listed (feature + 1)
  next_known listed feature not_open to =
      known_next (Unit {0}) game diagram aim own product remaining meets listed feature true to known is_diagram table not_open

  pub next_open : (listed more : List Literal) (feature : ℕ) → slice_index_or known feature Unknown ≡ Unknown →
      IsGathered game diagram aim own (choice feature (not (slice_index_or product feature false))) listed more →
      AreForcedTo game diagram aim own listed feature → AreForcedTo game diagram aim own more (feature + 1)
  next_open listed more feature unknown (some there same) to =
      subst (λ (ls : List Literal). AreForcedTo game diagram aim own ls (feature + 1)) (sym same)
      (free_next (Unit {0}) game diagram aim own product remaining meets listed feature true to
      (λ lost. lost there.0 there.1 there.2))
  next_open listed more feature unknown (none lost longer) to =
      forced_next (Unit {0}) game diagram aim own product remaining meets listed feature true to known table unknown more
      (longer ∙ ap (λ (b : Bool). listed ++ choice feature b ∷ []) (not_not (slice_index_or product feature false))) lost

-- the empty set
pub none_met : (game : NamedGame) (diagram : NamedDiagram) (aim : Aim) (own : List Literal) (arena : Arena) (set : Set) →
    IsSetOfMet game diagram aim own arena set → ((p : List Bool) → has arena set p ≡ false) → NoneMeets game diagram aim own
none_met game diagram aim own arena set met bare p r m = both_ways (has arena set p) (bare p) (met.all p r m)
