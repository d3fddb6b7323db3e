-- The rows below `features`: the head of a group, or a feature. Words and attributes are those of the Universal
-- Variability Language; names are those of features here, plain or between double quotes.
use Rattle.std.specs.Prelude.{ℕ, ◌^◌, Bool, true, not, ◌&&◌, ◌||◌, ◌==◌, if◌then◌else◌, nat_le, List, [], ◌∷◌, length, take, drop, min, Option, Some, None, Result, Ok, Err, bytes_eq, codes, is_none}
use Rattle.std.specs.List.{list_all, list_any, prefix_len, slice_split}
use Rattle.std.specs.Char.{is_ascii_digit}
use Rattle.std.specs.Str.Parse.{digits_value}
use Rattle.vpg_features.specs.Names.{starts_as_name, is_name_byte, constant_of}
use Rattle.vpg_tree.specs.declared.group.Kind.{Kind}
use Rattle.vpg_tree.specs.declared.group.Kind.TheVariants.{Mandatory, Optional, Alternative, Or, Cardinality}
use Rattle.vpg_uvl.specs.Rows.{is_blank, after_blanks, word_at, behind_word, is_nothing}
pub use Rattle.vpg_uvl.specs.declared.fault.Reason.{Reason}
pub use Rattle.vpg_uvl.specs.declared.fault.Reason.TheVariants.{Syntax, Indentation, Import, Level, Typed, FeatureCardinality, Attributes, AttributeConstraint, Quotes, Name, Range, Twice, TooMany, NoMember, UnknownFeature, Attribute, Arithmetic, Comparison, Text, Aggregate, Comment, TooDeep}

-- the head of a group, or a feature
pub data Item : Type 0 where
  head : Kind → Item
  named : List ℕ → Item

-- why a row is refused, and what is left of it from the refused word on
pub record Stop : Type 0 where
  pub reason : Reason
  pub left : List ℕ

-- the number that digits write; numbers above 2 ^ 30 count as 2 ^ 30, since no group has so many members
abbrev pub number_of : List ℕ → ℕ
number_of digits = min (digits_value 10 digits) (2 ^ 30)

abbrev pub digits_at : List ℕ → List ℕ
digits_at text = take (prefix_len is_ascii_digit text) text

abbrev pub behind_digits : List ℕ → List ℕ
behind_digits text = drop (prefix_len is_ascii_digit text) text

-- what stands after `..`
abbrev pub behind_dots : List ℕ → Option (List ℕ)
behind_dots [] = None
behind_dots (b ∷ []) = None
behind_dots (b ∷ c ∷ rest) = if b == 46 && c == 46 then Some rest else None

-- the upper end of a cardinality, and its `]`
abbrev pub high_at : ℕ → List ℕ → Option Kind
high_at low text =
    if bytes_eq text (codes "*]") then Some (Cardinality low None)
    else (if not (is_nothing (digits_at text)) && bytes_eq (behind_digits text) (codes "]")
    then Some (Cardinality low (Some (number_of (digits_at text)))) else None)

abbrev pub high_or_none : ℕ → Option (List ℕ) → Option Kind
high_or_none low None = None
high_or_none low (Some text) = high_at low text

-- a cardinality after its `[`: `n]`, `n..m]` or `n..*]`
abbrev pub cardinality_at : List ℕ → Option Kind
cardinality_at text =
    if is_nothing (digits_at text) then None
    else (if bytes_eq (behind_digits text) (codes "]")
    then Some (Cardinality (number_of (digits_at text)) (Some (number_of (digits_at text))))
    else high_or_none (number_of (digits_at text)) (behind_dots (behind_digits text)))

abbrev pub cardinality_of : List ℕ → Option Kind
cardinality_of [] = None
cardinality_of (b ∷ bs) = if b == 91 then cardinality_at bs else None

-- the kind of group that a word names
abbrev pub kind_of : List ℕ → Option Kind
kind_of word =
    if bytes_eq word (codes "mandatory") then Some Mandatory
    else (if bytes_eq word (codes "optional") then Some Optional
    else (if bytes_eq word (codes "alternative") then Some Alternative
    else (if bytes_eq word (codes "or") then Some Or
    else cardinality_of word)))

abbrev pub in_order : Option ℕ → ℕ → Bool
in_order None low = true
in_order (Some high) low = nat_le low high

-- the bounds of a cardinality are in order
abbrev pub has_range : Kind → Bool
has_range (Cardinality low high) = in_order high low
has_range _ = true

-- the test for a feature name
abbrev pub is_feature_name : List ℕ → Bool
is_feature_name w = starts_as_name w && list_all is_name_byte w && nat_le (length w) 64 && is_none (constant_of w)

abbrev pub name_at : List ℕ → List ℕ
name_at text = take (prefix_len is_name_byte text) text

abbrev pub behind_name : List ℕ → List ℕ
behind_name text = after_blanks (drop (prefix_len is_name_byte text) text)

-- `Boolean`, `Integer`, `Real` or `String`
abbrev pub is_type : List ℕ → Bool
is_type word =
    bytes_eq word (codes "Boolean") || bytes_eq word (codes "Integer") || bytes_eq word (codes "Real")
    || bytes_eq word (codes "String")

-- the last byte that is no blank, or else the byte given
abbrev pub last_visible : ℕ → List ℕ → ℕ
last_visible last [] = last
last_visible last (b ∷ bs) = if is_blank b then last_visible last bs else last_visible b bs

-- `constraint` or `constraints`
abbrev pub is_constraint_word : List ℕ → Bool
is_constraint_word word = bytes_eq word (codes "constraint") || bytes_eq word (codes "constraints")

abbrev pub names_constraint : List ℕ → Bool
names_constraint text = list_any is_constraint_word (slice_split (λ b. not (is_name_byte b)) text)

abbrev pub first_byte : List ℕ → ℕ
first_byte [] = 0
first_byte (b ∷ bs) = b

abbrev pub stopped : {A : Type 0} → Reason → List ℕ → Result A Stop
stopped reason left = Err (record { reason = reason; left = left })

-- A feature, and attributes after it: from `{` up to a `}` that ends the row. They are read over, if none of them is a
-- constraint.
abbrev pub with_attributes : List ℕ → List ℕ → Result Item Stop
with_attributes name behind =
    if names_constraint behind then stopped AttributeConstraint behind
    else (if last_visible 0 behind == 125 then Ok (named name) else stopped Attributes behind)

-- a feature with this name, and the text after it
abbrev pub named_before : List ℕ → List ℕ → Result Item Stop
named_before name behind =
    if is_nothing behind then Ok (named name)
    else (if first_byte behind == 123 then with_attributes name behind
    else stopped (if bytes_eq (name_at behind) (codes "cardinality") then FeatureCardinality else Syntax) behind)

-- the text after an opening quote is a feature's name and a quote
abbrev pub is_quoted_name : List ℕ → Bool
is_quoted_name text =
    is_feature_name (name_at text) && first_byte (drop (prefix_len is_name_byte text) text) == 34

-- the text after a closing quote and its blanks, where a name comes before the quote
abbrev pub behind_quote : List ℕ → List ℕ
behind_quote text = after_blanks (drop 1 (drop (prefix_len is_name_byte text) text))

-- A feature whose name stands between double quotes: the text after the first one.
abbrev pub quoted_feature : List ℕ → List ℕ → Result Item Stop
quoted_feature body text =
    if is_quoted_name text then named_before (name_at text) (behind_quote text) else stopped Quotes body

-- A feature whose name stands there, and the text after it.
abbrev pub plain_feature : List ℕ → List ℕ → List ℕ → Result Item Stop
plain_feature body name behind =
    if is_nothing name then stopped Syntax body
    else (if not (is_nothing behind) && is_type name then stopped Typed body
    else (if is_feature_name name then named_before name behind else stopped Name body))

-- the feature that a row is
abbrev pub feature_of : List ℕ → Result Item Stop
feature_of body =
    if first_byte body == 34 then quoted_feature body (drop 1 body)
    else plain_feature body (name_at body) (behind_name body)

abbrev pub item_by : List ℕ → Option Kind → Result Item Stop
item_by body None = feature_of body
item_by body (Some kind) =
    if not (is_nothing (behind_word body)) then stopped Syntax (behind_word body)
    else (if has_range kind then Ok (head kind) else stopped Range body)

-- the item that a row is, after its indentation
abbrev pub item_of : List ℕ → Result Item Stop
item_of body = item_by body (kind_of (word_at body))
