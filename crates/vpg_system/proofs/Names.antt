-- Names of actions, as the code keeps them.
use Rattle.std.proofs.Common.{◌≡◌, ℕ, ◌+◌, Bool, true, false, not, ◌||◌, cond, nat_lt, List, [], ◌∷◌, ◌++◌, map, Some, None, bytes_eq, position, refl, sym, ap, ap₂, ◌∙◌}
use Rattle.std.specs.List.{list_any, position_or_len}
use Rattle.std.proofs.lemmas.List.{map-append, length-map}
use Rattle.vpg_system.specs.SystemText.{with_name}

module _ {K : Type 0} (items : K → List ℕ) where
  any_mapped : (name : List ℕ) (ks : List K) → list_any (bytes_eq name) (map items ks) ≡ list_any (λ k. bytes_eq name (items k)) ks
  any_mapped name [] = refl
  any_mapped name (k ∷ ks) = ap (λ b. bytes_eq name (items k) || b) (any_mapped name ks)

  pub place_mapped : (name : List ℕ) (ks : List K) → position_or_len (bytes_eq name) (map items ks) ≡ position_or_len (λ k. bytes_eq name (items k)) ks
  place_mapped name [] = refl
  place_mapped name (k ∷ ks) = ap (λ n. cond (not (bytes_eq name (items k))) (1 + n) 0) (place_mapped name ks)

  pub position_mapped : (name : List ℕ) (ks : List K) → position (bytes_eq name) (map items ks) ≡ position (λ k. bytes_eq name (items k)) ks
  position_mapped name ks = ap₂ (λ n l. cond (nat_lt n l) (Some n) None) (place_mapped name ks) (length-map ks items)

  with_either : (b : Bool) (name : List ℕ) (k : K) (ks : List K) → items k ≡ name → map items (cond b ks (ks ++ k ∷ [])) ≡ cond b (map items ks) (map items ks ++ name ∷ [])
  with_either true name k ks e = refl
  with_either false name k ks e = map-append items ks (k ∷ []) ∙ ap (λ n. map items ks ++ n ∷ []) e

  pub with_mapped : (name : List ℕ) (k : K) (ks : List K) → items k ≡ name → map items (cond (list_any (λ j. bytes_eq (items k) (items j)) ks) ks (ks ++ k ∷ [])) ≡ with_name (map items ks) name
  with_mapped name k ks e =
      with_either (list_any (λ j. bytes_eq (items k) (items j)) ks) name k ks e
      ∙ ap (λ b. cond b (map items ks) (map items ks ++ name ∷ []))
      (ap (λ n. list_any (λ j. bytes_eq n (items j)) ks) e ∙ sym (any_mapped name ks))
