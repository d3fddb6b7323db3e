-- Names between double quotes in constraints. The Universal Variability Language writes a name so that has other
-- signs, and may write any name so. Here what stands between must be a feature's name.
use Rattle.std.specs.Prelude.{ℕ, Bool, false, not, ◌&&◌, ◌||◌, ◌==◌, if◌then◌else◌, List, [], ◌∷◌}
use Rattle.vpg_uvl.specs.Items.{is_quoted_name}

-- The text with a blank for each quote around a feature's name; it says whether a name is open. Other quotes stay.
abbrev pub unquoted_from : Bool → List ℕ → List ℕ
unquoted_from is_open [] = []
unquoted_from is_open (b ∷ bs) =
    if b == 34 && (is_open || is_quoted_name bs) then 32 ∷ unquoted_from (not is_open) bs
    else b ∷ unquoted_from is_open bs

abbrev pub unquoted : List ℕ → List ℕ
unquoted text = unquoted_from false text
