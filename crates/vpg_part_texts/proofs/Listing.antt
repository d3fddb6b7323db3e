-- The actions of a set, one after the other.
use Rattle.std.proofs.Common.{◌≡◌, ℕ, zero, suc, ◌+◌, ◌<◌, ◌≤◌, Bool, true, false, List, [], ◌∷◌, ◌++◌, length, get_or, drop, refl, sym, ap, ◌∙◌, arith, append_assoc, append-nil}
use Rattle.std.specs.Prelude.{slice_index_or}
use Rattle.std.specs.Bool.{beq}
use Rattle.std.proofs.lemmas.List.{drop_more, drop_all}
use Rattle.vpg_part_texts.specs.SetTexts.{sign_text, action_text, listed}

module _ (is_in : Bool) (set : List Bool) where
  -- what is next, and what is behind
  pub next : (names : List (List ℕ)) (n : ℕ) → n < length names →
      listed is_in set n (drop n names) ≡ action_text is_in set n (slice_index_or names n []) ++ listed is_in set (n + 1) (drop (n + 1) names)
  next names n l = ap (listed is_in set n) (drop_more names n [] l) ∙ ap (λ (m : ℕ). action_text is_in set n (get_or names n []) ++ listed is_in set m (drop (n + 1) names)) (omega arith)

  pub more : (names : List (List ℕ)) (n : ℕ) (text one new whole : List ℕ) → n < length names → text ++ listed is_in set n (drop n names) ≡ whole →
      action_text is_in set n (slice_index_or names n []) ≡ one → new ≡ text ++ one → new ++ listed is_in set (n + 1) (drop (n + 1) names) ≡ whole
  more names n text one new whole l so is e =
      ap (λ (t : List ℕ). t ++ listed is_in set (n + 1) (drop (n + 1) names)) e
      ∙ append_assoc text one (listed is_in set (n + 1) (drop (n + 1) names))
      ∙ ap (λ (t : List ℕ). text ++ t) (ap (λ (t : List ℕ). t ++ listed is_in set (n + 1) (drop (n + 1) names)) (sym is) ∙ sym (next names n l))
      ∙ so

  pub more_here : (names : List (List ℕ)) (n : ℕ) (text new whole : List ℕ) → n < length names → beq (slice_index_or set n false) is_in ≡ true → text ++ listed is_in set n (drop n names) ≡ whole →
      new ≡ text ++ (sign_text is_in ++ slice_index_or names n []) → new ++ listed is_in set (n + 1) (drop (n + 1) names) ≡ whole
  more_here names n text new whole l e so made = more names n text (sign_text is_in ++ slice_index_or names n []) new whole l so (rw e refl) made

  pub more_later : (names : List (List ℕ)) (n : ℕ) (text whole : List ℕ) → n < length names → beq (slice_index_or set n false) is_in ≡ false → text ++ listed is_in set n (drop n names) ≡ whole →
      text ++ listed is_in set (n + 1) (drop (n + 1) names) ≡ whole
  more_later names n text whole l e so = more names n text [] text whole l so (rw e refl) (sym (append-nil text))

  pub ends : (names : List (List ℕ)) (n : ℕ) (text whole : List ℕ) → length names ≤ n → text ++ listed is_in set n (drop n names) ≡ whole → text ≡ whole
  ends names n text whole l so = sym (append-nil text) ∙ ap (λ (rest : List (List ℕ)). text ++ listed is_in set n rest) (sym (drop_all n names l)) ∙ so
