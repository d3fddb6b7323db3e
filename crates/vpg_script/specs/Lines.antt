-- Texts, read line by line.
use Rattle.std.specs.Prelude.{◌≡◌, ℕ, ◌+◌, ◌-◌, ◌*◌, ◌<◌, ◌⊎◌, Bool, true, not, ◌==◌, List, [], ◌∷◌, ◌++◌, length, Option, Some, None, Result, Err, ⊤}
use Rattle.std.specs.List.{list_all}
use Rattle.std.specs.Io.KnownBytes.{Keeps, prepend_known}
use Rattle.std.specs.Str.Lines.{lines, strip_carriage_return}
use Rattle.vpg_script.specs.declared.lines.Next.{Next}
use Rattle.vpg_script.specs.declared.lines.Next.TheVariants as next
use Rattle.vpg_script.specs.declared.lines.NextFault.{NextFault}
use Rattle.vpg_script.specs.declared.lines.NextFault.TheVariants as nexts

abbrev pub is_within_line : ℕ → Bool
is_within_line b = not (b == 10)

-- it has no line feed
abbrev pub IsUnended : List ℕ → Type 0
IsUnended front = list_all is_within_line front ≡ true

-- the text is this line with its end, and then the rest
pub record IsEnded (text line rest : List ℕ) : Type 0 where
  pub front : List ℕ
  pub text_is : text ≡ front ++ 10 ∷ rest
  pub unended : IsUnended front
  pub line_is : line ≡ strip_carriage_return front

-- the text is a last line without an end
pub record IsLast (text line rest : List ℕ) : Type 0 where
  pub text_is : text ≡ line
  pub unended : IsUnended line
  pub some : 0 < length line
  pub rest_is : rest ≡ []

-- the text begins with more bytes than a line and its end may have
pub record BeginsTooLong (text : List ℕ) : Type 0 where
  pub front : List ℕ
  pub rest : List ℕ
  pub text_is : text ≡ front ++ rest
  pub unended : IsUnended front
  pub long : 4097 < length front

-- this comes next in a text, and this is left then
abbrev pub ComesNext : Next → List ℕ → List ℕ → Type 0
ComesNext (next.Line line) text rest = IsEnded text line.items rest ⊎ IsLast text line.items rest
ComesNext next.End text rest = text ≡ []
ComesNext next.TooLong text rest = BeginsTooLong text × (rest ≡ text)

-- this comes next and this is left, if the bytes are known
abbrev pub ComesKnown : Next → Option (List ℕ) → Option (List ℕ) → Type 0
ComesKnown n None new = ⊤
ComesKnown n (Some text) None = ⊥
ComesKnown n (Some text) (Some rest) = ComesNext n text rest

-- the text is the rest of a line, with its end or without one, and then the rest of the text
abbrev pub IsPassed : List ℕ → List ℕ → Type 0
IsPassed text rest =
    (front : List ℕ) × (IsUnended front × ((text ≡ front ++ 10 ∷ rest) ⊎ ((text ≡ front) × (rest ≡ []))))

-- the rest of a line is taken off, with its end, and this is left, if the bytes are known
abbrev pub PassedKnown : Option (List ℕ) → Option (List ℕ) → Type 0
PassedKnown None rest = ⊤
PassedKnown (Some text) None = ⊥
PassedKnown (Some text) (Some rest) = IsPassed text rest

-- a piece of a line was read and not its end, and this is left
abbrev pub HeldKnown : Option (List ℕ) → Option (List ℕ) → Type 0
HeldKnown text left = (held : List ℕ) × (IsUnended held × Keeps text (prepend_known held left))

-- This holds of each further piece of a script except one with a failed read.
abbrev pub UnlessUnread : {A : Type 0} → Result A NextFault → Type 0 → Type 0
UnlessUnread (Err nexts.Read) P = ⊤
UnlessUnread result P = P

-- the number of lines that can still come: by the reads that are left, and the bytes held
abbrev pub lines_left : ℕ → ℕ → ℕ
lines_left reads held = (16777216 - reads) * 8193 + held

-- a line was read
abbrev pub IsLine : Next → Type 0
IsLine (next.Line line) = ⊤
IsLine next.End = ⊥
IsLine next.TooLong = ⊥

-- ---- line by line

-- this line comes next, with its end or as the last
abbrev pub NextLine : List ℕ → List ℕ → List ℕ → Type 0
NextLine text line rest = IsEnded text line rest ⊎ IsLast text line rest

-- the text is these lines, and then the rest
abbrev pub ReadLines : List ℕ → List (List ℕ) → List ℕ → Type 0
ReadLines text [] rest = text ≡ rest
ReadLines text (line ∷ lines) rest = (more : List ℕ) × NextLine text line more × ReadLines more lines rest

-- Lines that were read one by one, and the lines of the rest, are the lines of the text.
abbrev pub ReadIsWhole : Type 0
ReadIsWhole =
    (text : List ℕ) (before : List (List ℕ)) (rest : List ℕ) → ReadLines text before rest →
    lines text ≡ before ++ lines rest
