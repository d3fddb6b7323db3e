-- The text of a game with names for its entries, and perhaps with the vertex where it starts. PGSolver's format; that
-- both may be put is this project's own.
use Rattle.std.specs.Prelude.{◌≡◌, ℕ, zero, suc, List, [], ◌∷◌, ◌++◌, Bool, true, false, not, ◌&&◌, ◌==◌, Option, Some, None, filter, slice_index_or}
use Rattle.vpg_game.specs.Game.{NamedGame, SpellsGame}
use Rattle.vpg_game.specs.Grammar.{Number, Name, Entry, Heading, File, IsFile, file_text}
use Rattle.vpg_game.specs.SpelledNames.{Told, told_by}

-- ---- names

-- a byte of a name in one line: no quote, no line feed and no carriage return
abbrev pub is_plain : ℕ → Bool
is_plain b = not (b == 34) && (not (b == 10) && not (b == 13))

-- the label of a vertex, without quotes and ends of lines
abbrev pub label_of : List (List ℕ) → ℕ → List ℕ
label_of labels v = filter is_plain (slice_index_or labels v [])

-- the labels of this many vertices, from this one on
abbrev pub labels_from : List (List ℕ) → ℕ → ℕ → List (List ℕ)
labels_from labels v zero = []
labels_from labels v (suc n) = label_of labels v ∷ labels_from labels (suc v) n

-- the blanks in front of a name
abbrev pub name_blanks : Option Name → List ℕ
name_blanks None = []
name_blanks (Some name) = name.before

-- the entry of a vertex, with its label as its name
abbrev pub labelled_entry : List (List ℕ) → ℕ → Entry → Entry
labelled_entry labels v e = record {
  id = e.id;
  priority = e.priority;
  owner = e.owner;
  successors = e.successors;
  name = Some (record { before = name_blanks e.name ++ (e.before_end ++ 32 ∷ []); bytes = label_of labels v });
  before_end = [];
}

-- the entries of the vertices from this one on, with their labels
abbrev pub labelled_entries : List (List ℕ) → ℕ → List Entry → List Entry
labelled_entries labels v [] = []
labelled_entries labels v (e ∷ es) = labelled_entry labels v e ∷ labelled_entries labels (suc v) es

-- ---- the start

-- the blanks in front of a heading
abbrev pub heading_blanks : Option Heading → List ℕ
heading_blanks None = []
heading_blanks (Some h) = h.before

-- `start 0;` after these blanks, if there is to be a start
abbrev pub start_behind : Bool → List ℕ → Option Heading
start_behind false blanks = None
start_behind true blanks =
    Some (record { before = blanks; number = record { before = 32 ∷ []; digits = 48 ∷ [] }; before_end = [] })

-- the blanks in front of the first entry: a line feed after a start
abbrev pub first_blanks : Bool → List ℕ → List ℕ
first_blanks false blanks = blanks
first_blanks true blanks = 10 ∷ []

-- the first entry, with these blanks in front
abbrev pub first_behind : List ℕ → Entry → Entry
first_behind blanks e = record {
  id = record { before = blanks; digits = e.id.digits };
  priority = e.priority;
  owner = e.owner;
  successors = e.successors;
  name = e.name;
  before_end = e.before_end;
}

-- ---- the file

-- the blanks between the header and the first entry
abbrev pub blanks_between : File → List ℕ
blanks_between f = heading_blanks f.start ++ f.first.id.before

-- the file with the label of each vertex as the name of its entry, and with the start 0 or none
abbrev pub labelled_file : List (List ℕ) → Bool → File → File
labelled_file labels is_started f = record {
  header = f.header;
  start = start_behind is_started (blanks_between f);
  first = first_behind (first_blanks is_started (blanks_between f)) (labelled_entry labels 0 f.first);
  entries = labelled_entries labels 1 f.entries;
  blanks = f.blanks;
}

-- where such a file starts
abbrev pub start_told : Bool → Option ℕ
start_told false = None
start_told true = Some 0

-- The text spells the game, and in it gives its vertices these names and starts there.
pub record SpellsNamed (features : List (List ℕ)) (text : List ℕ) (game : NamedGame) (told : Told) : Type 0 where
  pub spells : SpellsGame features text game
  pub file : File
  pub well_formed : IsFile features file
  pub spelled : text ≡ file_text file
  pub told_is : told_by file ≡ told
