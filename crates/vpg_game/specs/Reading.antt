-- Reading a text of a guarded game from left to right.
use Rattle.std.specs.Prelude.{◌≡◌, ℕ, zero, suc, ◌-◌, ◌^◌, List, [], ◌∷◌, ◌++◌, length, take, drop, Bool, false, Option, Some, None, Result, Ok, Err, ◌==◌, not, nat_lt, if◌then◌else◌, codes}
use Rattle.std.specs.List.{prefix_len}
use Rattle.std.specs.Char.{is_ascii_digit}
use Rattle.std.specs.Str.Parse.{digits_value}
use Rattle.vpg_game.specs.declared.fault.GameFault.{GameFault}
use Rattle.vpg_game.specs.declared.fault.GameFault.TheVariants as faults
use Rattle.vpg_guards.specs.declared.fault.GuardFault.{GuardFault}
use Rattle.vpg_guards.specs.declared.fault.GuardFault.TheVariants as guard_faults
use Rattle.vpg_guards.specs.Formula.{Formula, always}
use Rattle.vpg_guards.specs.Grammar.{is_blank}
use Rattle.vpg_guards.specs.Reading.{◌>>=◌, after_blanks, after_byte, after_sign, guard_at}
use Rattle.vpg_game.specs.Grammar.{player_of}
use Rattle.vpg_game.specs.Spelled.{SpelledSuccessor, SpelledEntry}

-- a value that was read, and the text after it
abbrev pub Read : Type 0 → Type 0
Read A = Option (A × List ℕ)

-- one way after a sign, another if it isn't there
abbrev pub choice : {A : Type 0} → Option (List ℕ) → (List ℕ → Option A) → Option A → Option A
choice None behind otherwise = otherwise
choice (Some rest) behind otherwise = behind rest

-- the value that was read, if there is room for it
abbrev pub within : {A : Type 0} → ℕ → Option A → Option A
within zero read = None
within (suc n) read = read

-- ---- numbers

abbrev pub some_digits : List ℕ → List ℕ → Read (List ℕ)
some_digits [] rest = None
some_digits (d ∷ ds) rest = Some (d ∷ ds, rest)

abbrev pub digits_at : List ℕ → Read (List ℕ)
digits_at text = some_digits (take (prefix_len is_ascii_digit text) text) (drop (prefix_len is_ascii_digit text) text)

abbrev pub number_below : ℕ → List ℕ → List ℕ → Read ℕ
number_below limit ds rest = if nat_lt (digits_value 10 ds) limit then Some (digits_value 10 ds, rest) else None

unfoldable pub number_at : ℕ → List ℕ → Read ℕ
number_at limit text = digits_at (after_blanks text) >>= λ x. number_below limit x.0 x.1

-- ---- successors

-- the text up to a byte, and the text after it
abbrev pub behind_first : List ℕ → Option (List ℕ)
behind_first [] = None
behind_first (b ∷ rest) = Some rest

abbrev pub len_before : ℕ → List ℕ → ℕ
len_before sign text = prefix_len (λ b. not (b == sign)) text

-- the fault of a text, if the guard after a place has this fault
abbrev pub fault_of_guard : ℕ → GuardFault → GameFault
fault_of_guard at (guard_faults.Syntax place) = faults.Guard at (guard_faults.Syntax place)
fault_of_guard at (guard_faults.UnknownFeature place) = faults.Guard at (guard_faults.UnknownFeature place)
fault_of_guard at (guard_faults.TooDeep place) = faults.Guard at (guard_faults.TooDeep place)
fault_of_guard at guard_faults.Memory = faults.Memory

abbrev pub closed_guard : List (List ℕ) → List ℕ → List ℕ → Read Formula
closed_guard names inside tail = behind_first tail >>= λ rest. guard_at names inside >>= λ g. Some (g, rest)

unfoldable pub bracket_at : List (List ℕ) → List ℕ → Read Formula
bracket_at names text =
    choice (after_sign 91 text)
    (λ rest. closed_guard names (take (len_before 93 rest) rest) (drop (len_before 93 rest) rest)) (Some (always, text))

abbrev pub with_guard : ℕ → (Formula × List ℕ) → Read SpelledSuccessor
with_guard id x = Some (record { id = id; guard = x.0 }, x.1)

unfoldable pub successor_at : List (List ℕ) → List ℕ → Read SpelledSuccessor
successor_at names text = number_at (2 ^ 32) text >>= λ x. bracket_at names x.1 >>= with_guard x.0

-- at most this many further successors after those read
unfoldable pub more_successors : List (List ℕ) → ℕ → List SpelledSuccessor → List ℕ → Read (List SpelledSuccessor)
more_successors names zero read text = choice (after_sign 44 text) (λ rest. None) (Some (read, text))
more_successors names (suc n) read text =
    choice (after_sign 44 text)
    (λ rest. successor_at names rest >>= λ x. more_successors names n (read ++ x.0 ∷ []) x.1) (Some (read, text))

abbrev pub starts_with_digit : List ℕ → Bool
starts_with_digit [] = false
starts_with_digit (b ∷ rest) = is_ascii_digit b

-- this many successors at most
unfoldable pub successors_at : List (List ℕ) → ℕ → List ℕ → Read (List SpelledSuccessor)
successors_at names n text =
    if starts_with_digit (after_blanks text)
    then (within n (successor_at names text) >>= λ x. more_successors names (n - 1) (x.0 ∷ []) x.1)
    else Some ([], text)

-- ---- entries

unfoldable pub after_name : List ℕ → Option (List ℕ)
after_name text = choice (after_sign 34 text) (λ rest. behind_first (drop (len_before 34 rest) rest)) (Some text)

abbrev pub ended_entry : ℕ → ℕ → ℕ → List SpelledSuccessor → List ℕ → Read SpelledEntry
ended_entry id priority owner successors text = after_name text >>= λ t. after_sign 59 t >>= λ rest.
    Some (record { id = id; priority = priority; owner = player_of owner; successors = successors }, rest)

-- an entry with at most this many successors
unfoldable pub entry_at : List (List ℕ) → ℕ → List ℕ → Read SpelledEntry
entry_at names n text =
    number_at (2 ^ 32) text >>= λ id. number_at 65536 id.1 >>= λ priority. number_at 2 priority.1 >>= λ owner.
    successors_at names n owner.1 >>= λ s. ended_entry id.0 priority.0 owner.0 s.0 s.1

abbrev pub if_ended : {A : Type 0} → List ℕ → A → A → A
if_ended [] a b = a
if_ended (c ∷ rest) a b = b

-- at most this many further entries after those read, with at most this many successors
unfoldable pub more_entries : List (List ℕ) → ℕ → ℕ → List SpelledEntry → List ℕ → Option (List SpelledEntry)
more_entries names zero n read text = if_ended (after_blanks text) (Some read) None
more_entries names (suc m) n read text = if_ended (after_blanks text) (Some read)
    (entry_at names n text >>= λ x. more_entries names m (n - length x.0.successors) (read ++ x.0 ∷ []) x.1)

-- ---- the file

-- the text after the bytes of a word
abbrev pub after_word : List ℕ → List ℕ → Option (List ℕ)
after_word [] text = Some text
after_word (w ∷ word) text = after_byte w text >>= after_word word

abbrev pub if_spaced : List ℕ → Option (List ℕ)
if_spaced [] = None
if_spaced (b ∷ rest) = if is_blank b then Some (b ∷ rest) else None

-- the text after a header or a start, after its first byte
abbrev pub heading_rest : List ℕ → List ℕ → Option (List ℕ)
heading_rest word text =
    after_word word text >>= λ t. if_spaced t >>= λ u. digits_at (after_blanks u) >>= λ x. after_sign 59 x.1

unfoldable pub after_heading : ℕ → List ℕ → List ℕ → Option (List ℕ)
after_heading first word text = choice (after_sign first text) (heading_rest word) (Some text)

abbrev pub all_entries : List (List ℕ) → List ℕ → Option (List SpelledEntry)
all_entries names text =
    entry_at names 1048576 text >>= λ x. more_entries names 65535 (1048576 - length x.0.successors) (x.0 ∷ []) x.1

-- the entries that a whole text spells
unfoldable pub entries_at : List (List ℕ) → List ℕ → Option (List SpelledEntry)
entries_at names text =
    after_heading 112 (codes "arity") text >>= λ t. after_heading 115 (codes "tart") t >>= all_entries names

-- A function's result, seen by view, is the result of reading, unless memory ran out.
abbrev pub Fails : {Y : Type 0} → GameFault → Option Y → Type 0
Fails (faults.Syntax at) read = read ≡ None
Fails (faults.BadOwner at) read = read ≡ None
Fails (faults.PriorityTooLarge at) read = read ≡ None
Fails (faults.TooMany at) read = read ≡ None
Fails (faults.Guard at fault) read = read ≡ None
Fails (faults.DoubleVertex id) read = ⊥
Fails (faults.MissingVertex id) read = ⊥
Fails faults.TooWide read = ⊥
Fails faults.Memory read = Unit {0}

abbrev pub Gives : {X Y : Type 0} → (X → Y) → Result X GameFault → Option Y → Type 0
Gives view (Ok x) read = read ≡ Some (view x)
Gives view (Err e) read = Fails e read
