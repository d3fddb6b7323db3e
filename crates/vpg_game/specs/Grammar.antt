-- The texts of guarded games. Each text function takes what follows in the text. PGSolver's format in this project's
-- profile; brackets are this project's own.
use Rattle.std.specs.Prelude.{◌≡◌, ℕ, ◌<◌, ◌≤◌, ◌^◌, List, [], ◌∷◌, ◌++◌, length, true, not, ◌==◌, nat_eq, if◌then◌else◌, codes, Option, Some, None}
use Rattle.std.specs.List.{list_all}
use Rattle.std.specs.Char.{is_ascii_digit}
use Rattle.std.specs.Str.Parse.{digits_value}
use Rattle.vpg_sides.specs.declared.player.Player.{Player}
use Rattle.vpg_sides.specs.declared.player.Player.TheVariants.{Even, Odd}
use Rattle.vpg_guards.specs.Formula.{Formula, always}
use Rattle.vpg_guards.specs.Grammar.{AreBlank, Spells}
use Rattle.vpg_game.specs.Spelled.{SpelledSuccessor, SpelledEntry, named_in}

-- ---- as it stands in the text

-- a number: blanks, and its digits
pub record Number : Type 0 where
  pub before : List ℕ
  pub digits : List ℕ

-- a guard in brackets: blanks, the text in the brackets, and the guard that it spells
pub record Bracket : Type 0 where
  pub before : List ℕ
  pub inside : List ℕ
  pub guard : Formula

pub record Successor : Type 0 where
  pub target : Number
  pub bracket : Option Bracket

-- one successor, or a successor, blanks, a `,` and further ones
pub data Successors : Type 0 where
  one : Successor → Successors
  comma : Successor → List ℕ → Successors → Successors

-- a name: blanks, and the bytes between the quotes
pub record Name : Type 0 where
  pub before : List ℕ
  pub bytes : List ℕ

-- an entry as it stands in a text, with all blanks
pub record Entry : Type 0 where
  pub id : Number
  pub priority : Number
  pub owner : Number
  pub successors : Option Successors
  pub name : Option Name
  pub before_end : List ℕ

-- a header or a start: blanks, the word, a number, blanks and `;`
pub record Heading : Type 0 where
  pub before : List ℕ
  pub number : Number
  pub before_end : List ℕ

-- the parts of a file, with all blanks
pub record File : Type 0 where
  pub header : Option Heading
  pub start : Option Heading
  pub first : Entry
  pub entries : List Entry
  pub blanks : List ℕ

-- ---- its bytes, and what follows

abbrev pub number_text : Number → List ℕ → List ℕ
number_text n rest = n.before ++ (n.digits ++ rest)

abbrev pub bracket_text : Option Bracket → List ℕ → List ℕ
bracket_text None rest = rest
bracket_text (Some b) rest = b.before ++ (91 ∷ (b.inside ++ (93 ∷ rest)))

abbrev pub successor_text : Successor → List ℕ → List ℕ
successor_text s rest = number_text s.target (bracket_text s.bracket rest)

abbrev pub successors_text : Successors → List ℕ → List ℕ
successors_text (one s) rest = successor_text s rest
successors_text (comma s blanks more) rest = successor_text s (blanks ++ (44 ∷ successors_text more rest))

abbrev pub all_successors_text : Option Successors → List ℕ → List ℕ
all_successors_text None rest = rest
all_successors_text (Some ss) rest = successors_text ss rest

abbrev pub name_text : Option Name → List ℕ → List ℕ
name_text None rest = rest
name_text (Some n) rest = n.before ++ (34 ∷ (n.bytes ++ (34 ∷ rest)))

abbrev pub entry_text : Entry → List ℕ → List ℕ
entry_text e rest =
    number_text e.id (number_text e.priority (number_text e.owner
    (all_successors_text e.successors (name_text e.name (e.before_end ++ (59 ∷ rest))))))

abbrev pub heading_text : List ℕ → Option Heading → List ℕ → List ℕ
heading_text word None rest = rest
heading_text word (Some h) rest = h.before ++ (word ++ number_text h.number (h.before_end ++ (59 ∷ rest)))

abbrev pub entries_text : List Entry → List ℕ → List ℕ
entries_text [] rest = rest
entries_text (e ∷ es) rest = entry_text e (entries_text es rest)

-- the bytes of a file
abbrev pub file_text : File → List ℕ
file_text f =
    heading_text (codes "parity") f.header
    (heading_text (codes "start") f.start (entry_text f.first (entries_text f.entries f.blanks)))

-- ---- what may stand there

-- blanks, and one digit or more
pub record IsNumber (n : Number) : Type 0 where
  pub blank : AreBlank n.before
  pub some : 0 < length n.digits
  pub digits : list_all is_ascii_digit n.digits ≡ true

abbrev pub number_value : Number → ℕ
number_value n = digits_value 10 n.digits

-- a number below a limit
abbrev pub IsNumberBelow : ℕ → Number → Type 0
IsNumberBelow limit n = IsNumber n × (number_value n < limit)

-- a number after another word has a blank before it
abbrev pub IsApart : Number → Type 0
IsApart n = 0 < length n.before

-- the byte does not occur
abbrev pub AreOther : ℕ → List ℕ → Type 0
AreOther sign bytes = list_all (λ b. not (b == sign)) bytes ≡ true

pub record EnclosesGuard (names : List (List ℕ)) (b : Bracket) : Type 0 where
  pub blank : AreBlank b.before
  pub closed : AreOther 93 b.inside
  pub spells : Spells names b.inside b.guard

abbrev pub IsBracket : List (List ℕ) → Option Bracket → Type 0
IsBracket names None = Unit {0}
IsBracket names (Some b) = EnclosesGuard names b

pub record IsSuccessor (names : List (List ℕ)) (s : Successor) : Type 0 where
  pub target : IsNumberBelow (2 ^ 32) s.target
  pub bracket : IsBracket names s.bracket

abbrev pub AreSuccessors : List (List ℕ) → Successors → Type 0
AreSuccessors names (one s) = IsSuccessor names s
AreSuccessors names (comma s blanks more) = IsSuccessor names s × AreBlank blanks × AreSuccessors names more

abbrev pub first_successor : Successors → Successor
first_successor (one s) = s
first_successor (comma s blanks more) = s

abbrev pub AreAllSuccessors : List (List ℕ) → Option Successors → Type 0
AreAllSuccessors names None = Unit {0}
AreAllSuccessors names (Some ss) = AreSuccessors names ss × IsApart (first_successor ss).target

abbrev pub IsName : Option Name → Type 0
IsName None = Unit {0}
IsName (Some n) = AreBlank n.before × AreOther 34 n.bytes

pub record IsEntry (names : List (List ℕ)) (e : Entry) : Type 0 where
  pub id : IsNumberBelow (2 ^ 32) e.id
  pub priority : IsNumberBelow 65536 e.priority
  pub priority_apart : IsApart e.priority
  pub owner : IsNumberBelow 2 e.owner
  pub owner_apart : IsApart e.owner
  pub successors : AreAllSuccessors names e.successors
  pub name : IsName e.name
  pub blank : AreBlank e.before_end

abbrev pub AreEntries : List (List ℕ) → List Entry → Type 0
AreEntries names [] = Unit {0}
AreEntries names (e ∷ es) = IsEntry names e × AreEntries names es

abbrev pub IsHeading : Option Heading → Type 0
IsHeading None = Unit {0}
IsHeading (Some h) = AreBlank h.before × IsNumber h.number × IsApart h.number × AreBlank h.before_end

-- the parts have the form of the format, with guards over these names
pub record IsFile (names : List (List ℕ)) (f : File) : Type 0 where
  pub header : IsHeading f.header
  pub start : IsHeading f.start
  pub first : IsEntry names f.first
  pub entries : AreEntries names f.entries
  pub blank : AreBlank f.blanks

-- ---- what it says

abbrev pub bracket_guard : Option Bracket → Formula
bracket_guard None = always
bracket_guard (Some b) = b.guard

abbrev pub successor_of : Successor → SpelledSuccessor
successor_of s = record { id = number_value s.target; guard = bracket_guard s.bracket }

abbrev pub successors_of : Successors → List SpelledSuccessor
successors_of (one s) = successor_of s ∷ []
successors_of (comma s blanks more) = successor_of s ∷ successors_of more

abbrev pub all_successors_of : Option Successors → List SpelledSuccessor
all_successors_of None = []
all_successors_of (Some ss) = successors_of ss

-- 0 is Even, 1 is Odd
abbrev pub player_of : ℕ → Player
player_of n = if nat_eq n 0 then Even else Odd

abbrev pub entry_of : Entry → SpelledEntry
entry_of e =
    record { id = number_value e.id; priority = number_value e.priority; owner = player_of (number_value e.owner); successors = all_successors_of e.successors }

abbrev pub entries_of : List Entry → List SpelledEntry
entries_of [] = []
entries_of (e ∷ es) = entry_of e ∷ entries_of es

-- the text spells the entries, within the limits
pub record SpellsEntries (names : List (List ℕ)) (text : List ℕ) (entries : List SpelledEntry) : Type 0 where
  pub file : File
  pub well_formed : IsFile names file
  pub spelled : text ≡ file_text file
  pub stands : entry_of file.first ∷ entries_of file.entries ≡ entries
  pub few_entries : length entries ≤ 65536
  pub few_successors : named_in entries ≤ 1048576
