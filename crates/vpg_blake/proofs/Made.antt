-- Blake's form is as its promises say.
use Rattle.std.proofs.Common.{◌≡◌, ℕ, zero, suc, ◌<◌, Bool, true, false, List, length, refl, sym, ◌∙◌, inl, subst, replicate}
use Rattle.std.proofs.lemmas.List.{length-replicate}
use Rattle.std.specs.Prelude.{Contains, slice_index_or}
use Rattle.vpg_guards.specs.declared.tri.Tri.{Tri}
use Rattle.vpg_guards.specs.Formula.{Formula, truth, named, IsBelow}
use Rattle.vpg_guards.specs.Known.{kleene}
use Rattle.vpg_guards.specs.Writing.{IsReadable}
use Rattle.vpg_blake.specs.Blake.{named_below, prime_implicants, blake, row_truth, set_with, tri_of, IsCertain}
use Rattle.vpg_blake.proofs.Cubes.{EachLiteral, each_some}
use Rattle.vpg_blake.proofs.Primes.{EachNumber, Holds, row_of, sound, covered, known_true, known_false, names_within}
use Rattle.vpg_blake.proofs.Named.{Among, IsAlikeAt, number_weaker, contained, truth_alike, features_apart, features_below, features_named, features_all}
use Rattle.vpg_blake.proofs.Rows.{set_of_row}
use Rattle.vpg_blake.proofs.Disjunctions.{true_where_some, some_where_true, yes_where_some, no_where_each, names_of_form, form_readable}

same_truth : (a b : Bool) → (a ≡ true → b ≡ true) → (b ≡ true → a ≡ true) → a ≡ b
same_truth true b h k = sym (h refl)
same_truth false true h k = k refl
same_truth false false h k = refl

module _ (n : ℕ) (g : Formula) (below : IsBelow n g) where
  none_within : (set : List Bool) (y : ℕ) → slice_index_or (replicate n false) y false ≡ true → slice_index_or set y false ≡ true
  none_within set y e = absurd (nothing n y e)
    where
      nothing : (m y : ℕ) → slice_index_or (replicate m false) y false ≡ true → ⊥
      nothing zero zero e = cc
      nothing zero (suc y) e = cc
      nothing (suc m) zero e = cc
      nothing (suc m) (suc y) e = nothing m y e

  -- the row of a set's features tells the truth in the set
  pub row_tells : (set : List Bool) → row_truth n (named_below n g) g (row_of (named_below n g) set) ≡ truth set g
  row_tells set =
      truth_alike (set_with (named_below n g) (row_of (named_below n g) set) (replicate n false)) set g
      (number_weaker (λ y. Among y (named_below n g)) (IsAlikeAt (set_with (named_below n g) (row_of (named_below n g) set) (replicate n false)) set)
      (λ y among. set_of_row set y (named_below n g) (replicate n false) within (none_within set) (inl among))
      (named g) (features_all n g below))
    where
      within : EachNumber (λ x. x < length (replicate n false)) (named_below n g)
      within = subst (λ (m : ℕ). EachNumber (λ x. x < m) (named_below n g)) (sym (length-replicate n false)) (features_below n g)

  pub same_in_each : (set : List Bool) → truth set (blake n g) ≡ truth set g
  same_in_each set =
      same_truth (truth set (blake n g)) (truth set g)
      (λ e. sym (row_tells set) ∙ each_some (λ c. EachLiteral (Holds set) c → row_truth n (named_below n g) g (row_of (named_below n g) set) ≡ true)
      (EachLiteral (Holds set)) (row_truth n (named_below n g) g (row_of (named_below n g) set) ≡ true) (λ c h k. h k) (prime_implicants n g)
      (sound set (named_below n g) (row_truth n (named_below n g) g)) (some_where_true set (prime_implicants n g) e))
      (λ e. true_where_some set (prime_implicants n g) (covered set (named_below n g) (row_truth n (named_below n g) g) (row_tells set ∙ e)))

  pub decided_known : (known : List Tri) (b : Bool) → IsCertain known g b → kleene known (blake n g) ≡ tri_of b
  decided_known known true h =
      yes_where_some known (prime_implicants n g)
      (known_true known (named_below n g) (row_truth n (named_below n g) g) (features_apart n g) (λ set done. row_tells set ∙ h set done))
  decided_known known false h =
      no_where_each known (prime_implicants n g)
      (known_false known (named_below n g) (row_truth n (named_below n g) g) (features_apart n g) (λ set done. row_tells set ∙ h set done))

  pub names_kept : (f : ℕ) → Contains (named (blake n g)) f → Contains (named g) f
  names_kept f h =
      contained (λ y. Contains (named g) y) (named (blake n g)) f h.0
      (names_of_form (λ y. Contains (named g) y) (prime_implicants n g)
      (names_within (λ y. Contains (named g) y) (named_below n g) (row_truth n (named_below n g) g) (features_named n g)))
      h.1 h.2

  pub readable_again : IsReadable n (blake n g)
  readable_again =
      form_readable n (prime_implicants n g) (names_within (λ y. y < n) (named_below n g) (row_truth n (named_below n g) g) (features_below n g))
