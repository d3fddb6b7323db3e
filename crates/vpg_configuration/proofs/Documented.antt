-- Decisions on features, and the lines of the features of which something is known.
use Rattle.std.proofs.Common.{◌≡◌, ℕ, ◌+◌, Bool, true, false, cond, ◌||◌, List, [], ◌∷◌, ◌++◌, map, flat_map, refl, sym, ap, ◌∙◌, add-one, append-nil, append_assoc}
use Rattle.std.specs.Prelude.{codes, slice_index_or}
use Rattle.std.specs.List.{list_any}
use Rattle.std.proofs.lemmas.Grind.{flat_map-append}
use Rattle.std.proofs.lemmas.List.{flat_map_more}
use Rattle.std.proofs.lemmas.List.Folds.{flat_map-map}
use Rattle.vpg_guards.specs.declared.tri.Tri.{Tri}
use Rattle.vpg_guards.specs.declared.tri.Tri.TheVariants.{Unknown}
use Rattle.vpg_diagram.specs.declared.clause.Literal.{Literal}
use Rattle.vpg_partial.specs.Known.{literal_of}
use Rattle.vpg_partial.specs.declared.decision.Decision.{Decision}
use Rattle.vpg_configuration.specs.Deciding.{Selection, Selected, Unselected, Undefined}
use Rattle.vpg_configuration.specs.Documents.{Setting, setting_line, document_text}
use Rattle.vpg_configuration.specs.Exports.{is_value, features_known, is_decision, decided_by}

any_of : (test : Literal → Bool) (ds : List Decision) → list_any (λ d. test (literal_of d)) ds ≡ list_any test (map literal_of ds)
any_of test [] = refl
any_of test (d ∷ ds) = ap (λ (t : Bool). test (literal_of d) || t) (any_of test ds)

-- ---- decisions on a feature

module _ (ds : List Decision) (f : ℕ) where
  -- whether one of these is on the feature and has this value
  abbrev has : Bool → Bool
  has value = list_any (λ d. is_decision f value (literal_of d)) ds

  abbrev by_decisions : Selection
  by_decisions = decided_by (map literal_of ds) f

  abbrev if_not_in : Selection
  if_not_in = cond (list_any (is_decision f false) (map literal_of ds)) Unselected Undefined

  pub decided_in : has true ≡ true → Selected ≡ by_decisions
  decided_in e = sym (ap (λ (t : Bool). cond t Selected if_not_in) (sym (any_of (is_decision f true) ds) ∙ e))

  not_in : has true ≡ false → by_decisions ≡ if_not_in
  not_in e = ap (λ (t : Bool). cond t Selected if_not_in) (sym (any_of (is_decision f true) ds) ∙ e)

  pub decided_out : has true ≡ false → has false ≡ true → Unselected ≡ by_decisions
  decided_out e g = sym (not_in e ∙ ap (λ (t : Bool). cond t Unselected Undefined) (sym (any_of (is_decision f false) ds) ∙ g))

  pub undecided : has true ≡ false → has false ≡ false → Undefined ≡ by_decisions
  undecided e g = sym (not_in e ∙ ap (λ (t : Bool). cond t Unselected Undefined) (sym (any_of (is_decision f false) ds) ∙ g))

-- ---- lines of features

module _ (line : ℕ → List ℕ) (known : List Tri) (value : Tri) (f : ℕ) (before old new : List ℕ) (was : old ≡ before ++ flat_map line (features_known known value f)) where
  -- with the feature, if this is known of it
  next : (b : Bool) → is_value (slice_index_or known f Unknown) value ≡ b → features_known known value (f + 1) ≡ features_known known value f ++ cond b (f ∷ []) []
  next b e = ap (features_known known value) (add-one f) ∙ ap (λ (t : Bool). features_known known value f ++ cond t (f ∷ []) []) e

  pub one_line : is_value (slice_index_or known f Unknown) value ≡ true → new ≡ old ++ line f → new ≡ before ++ flat_map line (features_known known value (f + 1))
  one_line e is =
      is ∙ ap (λ (t : List ℕ). t ++ line f) was ∙ flat_map_more line before (features_known known value f) f ∙ ap (λ (fs : List ℕ). before ++ flat_map line fs) (sym (next true e))

  pub no_line : is_value (slice_index_or known f Unknown) value ≡ false → new ≡ old → new ≡ before ++ flat_map line (features_known known value (f + 1))
  no_line e is = is ∙ was ∙ ap (λ (fs : List ℕ). before ++ flat_map line fs) (sym (next false e ∙ append-nil (features_known known value f)))

-- the lines of a document in its parts
three_parts : (setting : ℕ → Setting) (a b c : List ℕ) → flat_map setting_line (map setting (a ++ (b ++ c))) ≡
    flat_map (λ f. setting_line (setting f)) a ++ (flat_map (λ f. setting_line (setting f)) b ++ flat_map (λ f. setting_line (setting f)) c)
three_parts setting a b c =
    let line : ℕ → List ℕ = λ f. setting_line (setting f) in
    flat_map-map setting_line setting (a ++ (b ++ c)) ∙ flat_map-append line a (b ++ c) ∙ ap (λ (t : List ℕ). flat_map line a ++ t) (flat_map-append line b c)

-- a text that grows by the parts of a document
pub document_grows : (setting : ℕ → Setting) (a b c o : List ℕ) {x1 x2 x3 x4 x5 : List ℕ} → x1 ≡ o ++ codes "<?xml version=\"1.0\" encoding=\"UTF-8\" standalone=\"no\"?>\n<configuration>\n" →
    x2 ≡ x1 ++ flat_map (λ f. setting_line (setting f)) a → x3 ≡ x2 ++ flat_map (λ f. setting_line (setting f)) b → x4 ≡ x3 ++ flat_map (λ f. setting_line (setting f)) c →
    x5 ≡ x4 ++ codes "</configuration>\n" → x5 ≡ o ++ document_text (map setting (a ++ b ++ c))
document_grows setting a b c o e1 e2 e3 e4 e5 = simp (e5, e4, e3, e2, e1, three_parts setting, append_assoc)
