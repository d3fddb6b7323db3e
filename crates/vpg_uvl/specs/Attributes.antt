-- The attributes of features, which are read over.
use Rattle.std.specs.Prelude.{ℕ, ◌+◌, ◌-◌, Bool, ◌==◌, if◌then◌else◌, List, [], ◌∷◌, length, map, filter, drop, codes}
use Rattle.vpg_uvl.specs.Rows.{Row, rows, after_blanks, is_head}
use Rattle.vpg_uvl.specs.Items.{first_byte, behind_name, is_quoted_name, behind_quote}

-- the text after the name at the front of a row, plain or between quotes
abbrev pub behind_feature : List ℕ → List ℕ
behind_feature body =
    if first_byte body == 34 then (if is_quoted_name (drop 1 body) then behind_quote (drop 1 body) else [])
    else behind_name body

-- attributes stand after the row's feature
abbrev pub has_attributes : Row → Bool
has_attributes row = first_byte (behind_feature (after_blanks row.bytes)) == 123

-- how many bytes of the text come before them
abbrev pub attributes_at : Row → ℕ
attributes_at row = row.start + (length row.bytes - length (behind_feature (after_blanks row.bytes)))

-- the rows below `features`
abbrev pub below_features : List Row → List Row
below_features [] = []
below_features (row ∷ behind) = if is_head (codes "features") row.bytes then behind else below_features behind

abbrev pub attributes_of : List Row → List ℕ
attributes_of rows = map attributes_at (filter has_attributes rows)

-- for each feature of a text with attributes, in order, how many bytes come before these
abbrev pub attribute_places : List ℕ → List ℕ
attribute_places text = attributes_of (below_features (rows text))
