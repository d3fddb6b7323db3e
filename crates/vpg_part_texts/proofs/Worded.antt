-- The texts of parts, step by step.
use Rattle.std.proofs.Common.{◌≡◌, ℕ, suc, Bool, true, false, List, ◌++◌, codes, inl, inr, refl, sym, ap, ◌∙◌}
use Rattle.std.specs.Prelude.{◌≢◌, ◌⊎◌, nat_eq, decimal}
use Rattle.std.proofs.lemmas.Bool.Decides.{eqb_tells}
use Rattle.vpg_parts.specs.declared.part.Part.{Part}
use Rattle.vpg_parts.specs.Parts.{part_at}
use Rattle.vpg_part_texts.specs.declared.wording.Around.{Around}
use Rattle.vpg_part_texts.specs.PartTexts.{variable_name, part_by, most_levels, part_text}

-- one level, and those inside
pub unfolded : (parts : List Part) (sets : List (List ℕ)) (name : ℕ → List ℕ) (levels inner : ℕ) (within : Around) (k : ℕ) (part : Part) → levels ≡ suc inner → part ≡ part_at parts k →
    part_text parts sets name levels within k ≡ part_by sets name (part_text parts sets name inner) within k part
unfolded parts sets name levels inner within k part e is =
    ap (λ (n : ℕ). part_text parts sets name n within k) e ∙ ap (part_by sets name (part_text parts sets name inner) within k) (sym is)

pub levels_are : 64 ≡ most_levels
unfolding most_levels
levels_are = refl

not_equal : (m n : ℕ) → (m ≡ n → ⊥) → nat_eq m n ≡ false
not_equal m n apart = decide (eqb_tells m n)
  where
    decide : ((nat_eq m n ≡ true) × (m ≡ n)) ⊎ ((nat_eq m n ≡ false) × (m ≢ n)) → nat_eq m n ≡ false
    decide (inl same) = absurd (apart same.1)
    decide (inr other) = other.0

pub later_name : (n : ℕ) → (n ≡ 0 → ⊥) → (n ≡ 1 → ⊥) → (n ≡ 2 → ⊥) → variable_name n ≡ codes "X" ++ decimal n
later_name n a b c = rw (not_equal n 0 a, not_equal n 1 b, not_equal n 2 c) refl
