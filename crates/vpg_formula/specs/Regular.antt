-- Regular formulas over actions, as they are written between `<` and `>`: mCRL2's, without data (Mateescu and
-- Sighireanu 2003 add them to the modal mu-calculus). Action formulas are those that stand for one step.
use Rattle.std.specs.Prelude.{ℕ, ◌-◌, List, [], ◌∷◌, length, take, Bool, true, false, ◌&&◌, ◌==◌, nat_le, if◌then◌else◌, codes, bytes_eq, Option, Some, None}
use Rattle.vpg_features.specs.Names.{is_name_start}
use Rattle.vpg_formula.specs.Words.{is_closed}

-- An action by its name. In quotes the name has exactly these bytes; without quotes, blanks do not count.
pub record Label : Type 0 where
  pub quoted : Bool
  pub name : List ℕ

-- a regular formula
pub data Regular : Type 0 where
  -- true, false, an action
  every_action : Regular
  no_action : Regular
  action : Label → Regular
  -- !A, A && A, A || A
  other_than : Regular → Regular
  both_of : Regular → Regular → Regular
  either_of : Regular → Regular → Regular
  -- R . R, R + R, R*, R+
  sequence : Regular → Regular → Regular
  choice : Regular → Regular → Regular
  repeated : Regular → Regular
  repeated_once : Regular → Regular

-- whether it is an action formula
abbrev pub is_action : Regular → Bool
is_action every_action = true
is_action no_action = true
is_action (action label) = true
is_action (other_than x) = true
is_action (both_of x y) = true
is_action (either_of x y) = true
is_action (sequence x y) = false
is_action (choice x y) = false
is_action (repeated x) = false
is_action (repeated_once x) = false

-- the action of a word in quotes, given the bytes after its first quote: at least one byte, and the closing quote
abbrev pub quoted_label : List ℕ → Option Label
quoted_label bytes =
    if nat_le 2 (length bytes) && is_closed bytes
    then Some (record { quoted = true; name = take (length bytes - 1) bytes }) else None

-- the action that a word names: one in quotes, or a word that begins with a letter or `_`
abbrev pub label_of : List ℕ → Option Label
label_of [] = None
label_of (b ∷ bytes) =
    if b == 34 then quoted_label bytes
    else (if is_name_start b then Some (record { quoted = false; name = b ∷ bytes }) else None)

abbrev pub labelled : Option Label → Option Regular
labelled None = None
labelled (Some label) = Some (action label)

-- the action formula of a word
abbrev pub word_formula : List ℕ → Option Regular
word_formula word =
    if bytes_eq word (codes "true") then Some every_action
    else (if bytes_eq word (codes "false") then Some no_action else labelled (label_of word))

-- `!`, `&&` and `||` join action formulas only
abbrev pub complement_of : Regular → Option Regular
complement_of x = if is_action x then Some (other_than x) else None

abbrev pub all_of : Regular → Regular → Option Regular
all_of x y = if is_action x && is_action y then Some (both_of x y) else None

abbrev pub any_of : Regular → Regular → Option Regular
any_of x y = if is_action x && is_action y then Some (either_of x y) else None

abbrev pub sequence_of : Regular → Regular → Option Regular
sequence_of x y = Some (sequence x y)

abbrev pub choice_of : Regular → Regular → Option Regular
choice_of x y = Some (choice x y)
