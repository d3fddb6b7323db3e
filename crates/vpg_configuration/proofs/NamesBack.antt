-- A list of names that is written is read back as their selections.
use Rattle.std.proofs.Common.{◌≡◌, ℕ, ◌+◌, ◌-◌, Bool, true, false, cond, not, ◌&&◌, ◌==◌, List, [], ◌∷◌, ◌++◌, length, take, drop, flat_map, Some, refl, sym, ap, ap₂, ◌∙◌, arith, append_assoc}
use Rattle.std.specs.Prelude.{codes, nat_le, is_some, slice_index_or}
use Rattle.std.specs.List.{list_all, prefix_len, slice_split, onto_first}
use Rattle.std.proofs.lemmas.List.{append-nil, length-append, take-append-le, take_all}
use Rattle.std.proofs.lemmas.List.Concat.{flat_map-cons}
use Rattle.std.proofs.lemmas.List.Splits.{slice_split-cons_yes, slice_split-cons_no}
use Rattle.std.proofs.lemmas.Bool.Decides.{nat_tests}
use Rattle.vpg_features.specs.Names.{is_name_byte, is_name_start, starts_as_name, constant_of}
use Rattle.vpg_features.proofs.Held.{both_true}
use Rattle.vpg_featureide.specs.Model.{is_name}
use Rattle.vpg_configuration.specs.Configurations.{is_line_end, is_blank, begins_nothing, says_nothing, selection, last_selection, selections, selecting, name_line}
use Rattle.vpg_configuration.specs.Deciding.{Selected, decision_line}

no_feed : (b : ℕ) → is_name_byte b ≡ true → is_line_end b ≡ false
no_feed b e = grind (arith, nat_tests)

no_blank : (b : ℕ) → is_name_start b ≡ true → is_blank b ≡ false
no_blank b e = grind (arith, nat_tests)

no_comment : (b : ℕ) → is_name_start b ≡ true → (b == 35) ≡ false
no_comment b e = grind (arith, nat_tests)

-- the parts of a feature name's test
starts_name : (name : List ℕ) → is_name name ≡ true → starts_as_name name ≡ true
starts_name name e = (both_true (starts_as_name name) (list_all is_name_byte name && (nat_le (length name) 64 && not (is_some (constant_of name)))) e).0

bytes_name : (name : List ℕ) → is_name name ≡ true → list_all is_name_byte name ≡ true
bytes_name name e =
    let h = both_true (starts_as_name name) (list_all is_name_byte name && (nat_le (length name) 64 && not (is_some (constant_of name)))) e in
    (both_true (list_all is_name_byte name) (nat_le (length name) 64 && not (is_some (constant_of name))) h.1).0

-- ---- lines

split_line : (name rest : List ℕ) → list_all is_name_byte name ≡ true → slice_split is_line_end (name ++ 10 ∷ rest) ≡ name ∷ slice_split is_line_end rest
split_line [] rest e = slice_split-cons_yes is_line_end 10 rest refl
split_line (b ∷ name) rest e =
    let h = both_true (is_name_byte b) (list_all is_name_byte name) e in
    slice_split-cons_no is_line_end b (name ++ 10 ∷ rest) (no_feed b h.0) ∙ ap (onto_first b) (split_line name rest h.1)

split_names : (names : List (List ℕ)) → list_all is_name names ≡ true → slice_split is_line_end (flat_map name_line names) ≡ names ++ [] ∷ []
split_names [] e = refl
split_names (name ∷ names) e =
    let h = both_true (is_name name) (list_all is_name names) e in
    let rest : List ℕ = flat_map name_line names in
    ap (slice_split is_line_end) (flat_map-cons name_line name names ∙ append_assoc name (10 ∷ []) rest)
    ∙ (split_line name rest (bytes_name name h.0) ∙ ap (λ (pieces : List (List ℕ)). name ∷ pieces) (split_names names h.1))

-- ---- selections

says_name : (name : List ℕ) → is_name name ≡ true → says_nothing name ≡ false
says_name [] e = absurd (cc)
says_name (b ∷ name) e =
    let start : is_name_start b ≡ true = starts_name (b ∷ name) e in
    ap (λ (t : Bool). begins_nothing (drop (cond t (1 + prefix_len is_blank name) 0) (b ∷ name))) (no_blank b start) ∙ no_comment b start

selection_is : (name : List ℕ) → is_name name ≡ true → selection name ≡ decision_line (Some Selected) name
selection_is name e = ap (λ (t : Bool). cond t [] (codes "select ") ++ (name ++ 10 ∷ [])) (says_name name e)

selections_are : (names : List (List ℕ)) → list_all is_name names ≡ true → flat_map selection names ≡ flat_map (λ name. decision_line (Some Selected) name) names
selections_are [] e = refl
selections_are (name ∷ names) e =
    let h = both_true (is_name name) (list_all is_name names) e in
    flat_map-cons selection name names
    ∙ (ap₂ (λ (x y : List ℕ). x ++ y) (selection_is name h.0) (selections_are names h.1) ∙ sym (flat_map-cons (λ name. decision_line (Some Selected) name) name names))

last_piece : (names : List (List ℕ)) → slice_index_or (names ++ [] ∷ []) (length names) [] ≡ []
last_piece [] = refl
last_piece (name ∷ names) = last_piece names

pub names_back : (names : List (List ℕ)) → list_all is_name names ≡ true → selecting (flat_map name_line names) ≡ flat_map (λ name. decision_line (Some Selected) name) names
names_back names e =
    let pieces : List (List ℕ) = names ++ [] ∷ [] in
    let n : length pieces - 1 ≡ length names = omega (arith, length-append names ([] ∷ [])) in
    let first : take (length names) pieces ≡ names = take-append-le (length names) names ([] ∷ []) (omega arith) ∙ take_all (length names) names (omega arith) in
    ap selections (split_names names e)
    ∙ (ap (λ (k : ℕ). flat_map selection (take k pieces) ++ last_selection (slice_index_or pieces k [])) n
    ∙ (ap₂ (λ (xs : List (List ℕ)) (last : List ℕ). flat_map selection xs ++ last_selection last) first (last_piece names)
    ∙ (append-nil (flat_map selection names) ∙ selections_are names e)))
