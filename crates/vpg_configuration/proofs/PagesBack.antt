-- The configuration that is written of a page is read back as its decisions.
use Rattle.std.proofs.Common.{◌≡◌, ℕ, zero, suc, ◌<◌, ◌≤◌, Bool, true, false, cond, ◌&&◌, List, [], ◌∷◌, ◌++◌, length, map, Some, refl, sym, ap, ap₂, ◌∙◌, arith}
use Rattle.std.specs.Prelude.{slice_index_or}
use Rattle.std.specs.List.{list_all}
use Rattle.std.proofs.lemmas.List.Folds.{flat_map-map, list_all-append, list_all-map}
use Rattle.vpg_features.proofs.Held.{both_true}
use Rattle.vpg_guards.specs.declared.tri.Tri.{Tri}
use Rattle.vpg_guards.specs.declared.tri.Tri.TheVariants.{No, Unknown, Yes}
use Rattle.vpg_diagram.specs.DiagramText.{name_of}
use Rattle.vpg_featureide.specs.Model.{is_name}
use Rattle.vpg_configuration.specs.Configurations.{name_line, selecting}
use Rattle.vpg_configuration.specs.Deciding.{Selected, decision_line}
use Rattle.vpg_configuration.specs.Documents.{Setting}
use Rattle.vpg_configuration.specs.Exports.{is_value, features_known, setting_of, settings_of}
use Rattle.vpg_configuration.specs.Laws.{WrittenDecisionsReadBack, WrittenNamesReadBack}
use Rattle.vpg_configuration.proofs.NamesBack.{names_back}
use Rattle.vpg_configuration.proofs.ReadBack.{read_back}

all_append : {X : Type 0} (test : X → Bool) (xs ys : List X) → list_all test xs ≡ true → list_all test ys ≡ true → list_all test (xs ++ ys) ≡ true
all_append test xs ys e f = list_all-append test xs ys ∙ ap₂ (λ (a b : Bool). a && b) e f

named_at : (names : List (List ℕ)) (f : ℕ) → f < length names → list_all is_name names ≡ true → is_name (name_of names f) ≡ true
named_at [] f below e = absurd (omega arith)
named_at (name ∷ names) zero below e = (both_true (is_name name) (list_all is_name names) e).0
named_at (name ∷ names) (suc f) below e = named_at names f (omega arith) (both_true (is_name name) (list_all is_name names) e).1

module _ (names : List (List ℕ)) (known : List Tri) (named : list_all is_name names ≡ true) where
  abbrev has_name : ℕ → Bool
  has_name f = is_name (name_of names f)

  one : (f : ℕ) (b : Bool) → has_name f ≡ true → list_all has_name (cond b (f ∷ []) []) ≡ true
  one f true e = ap (λ (t : Bool). t && true) e
  one f false e = refl

  -- each feature of which something is known has a name
  below : (value : Tri) (n : ℕ) → n ≤ length names → list_all has_name (features_known known value n) ≡ true
  below value zero within = refl
  below value (suc n) within =
      let b : Bool = is_value (slice_index_or known n Unknown) value in
      all_append has_name (features_known known value n) (cond b (n ∷ []) []) (below value n (omega arith)) (one n b (named_at names n (omega arith) named))

  all : (value : Tri) → list_all has_name (features_known known value (length names)) ≡ true
  all value = below value (length names) (omega arith)

pub decisions_read : WrittenDecisionsReadBack
decisions_read names known decisions named =
    let setting : ℕ → Setting = setting_of names known decisions in
    let test : ℕ → Bool = has_name names known named in
    let a : List ℕ = features_known known Yes (length names) in
    let b : List ℕ = features_known known No (length names) in
    let c : List ℕ = features_known known Unknown (length names) in
    read_back (settings_of names known decisions)
    (list_all-map (λ (s : Setting). is_name s.name) setting (a ++ b ++ c)
    ∙ all_append test (a ++ b) c (all_append test a b (all names known named Yes) (all names known named No)) (all names known named Unknown))

pub names_read : WrittenNamesReadBack
names_read names known decisions named =
    let fs : List ℕ = features_known known Yes (length names) in
    let name : ℕ → List ℕ = name_of names in
    ap selecting (sym (flat_map-map name_line name fs))
    ∙ (names_back (map name fs) (list_all-map is_name name fs ∙ all names known named Yes) ∙ flat_map-map (λ (n : List ℕ). decision_line (Some Selected) n) name fs)
