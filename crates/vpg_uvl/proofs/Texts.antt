-- Blanks and words.
use Rattle.std.proofs.Common.{◌≡◌, ℕ, ◌+◌, ◌<◌, Bool, true, cond, List, length, drop, get_or, ap, ◌∙◌}
use Rattle.std.proofs.lemmas.List.{drop_more}
use Rattle.vpg_uvl.specs.Rows.{is_blank, after_blank, columns_after}

-- one more blank
pub column_more : (column : ℕ) (bytes : List ℕ) (i : ℕ) → i < length bytes → is_blank (get_or bytes i 0) ≡ true → columns_after column (drop i bytes) ≡ columns_after (after_blank column (get_or bytes i 0)) (drop (i + 1) bytes)
column_more column bytes i lt blank =
    ap (columns_after column) (drop_more bytes i 0 lt) ∙ ap (λ (t : Bool). cond t (columns_after (after_blank column (get_or bytes i 0)) (drop (i + 1) bytes)) column) blank
