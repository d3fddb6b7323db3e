-- Reading a text of a system, line by line, as a function on lists, for the contracts of private functions. This
-- project's own.
use Rattle.std.specs.Prelude.{ℕ, ◌+◌, ◌-◌, max, Bool, true, false, ◌&&◌, ◌==◌, cond, nat_lt, nat_le, List, [], ◌∷◌, ◌++◌, length, Option, Some, None, Result, Ok, Err, codes, bytes_eq}
use Rattle.std.specs.Str.Parse.{digits_value}
use Rattle.std.specs.Str.Lines.{lines}
use Rattle.vpg_guards.specs.Formula.{Formula, always}
use Rattle.vpg_guards.specs.Reading.{guard_at}
use Rattle.vpg_system.specs.SystemText.{Transition, NamedSystem, Header, Form, is_nonempty, is_numeral, words, lacks, trimmed, with_name, place_with, not_blank}

-- why a line below the header is refused
pub data Refusal : Type 0 where
  NoForm : Refusal
  Beyond : Refusal
  NoLabel : Refusal
  NotState : Refusal
  NoGuard : (at : ℕ) → Refusal

pub data Fault : Type 0 where
  NoHeader : (line : ℕ) → Fault
  TooMany : (line : ℕ) → Fault
  NoFirst : (line : ℕ) → Fault
  TooFew : (line : ℕ) → Fault
  At : (line : ℕ) → Refusal → Fault

-- a test that has to pass, and the fault if it does not
abbrev pub checked : {A E : Type 0} → Bool → E → Result A E → Result A E
checked true fault r = r
checked false fault r = Err fault

-- the texts before and after a byte, with a byte in front
abbrev pub before_cut : ℕ → Option (List ℕ × List ℕ) → Option (List ℕ × List ℕ)
before_cut b None = None
before_cut b (Some p) = Some (b ∷ p.0, p.1)

-- the texts before and after the first such byte
abbrev pub cut : ℕ → List ℕ → Option (List ℕ × List ℕ)
cut sign [] = None
cut sign (b ∷ bs) = cond (b == sign) (Some ([], bs)) (before_cut b (cut sign bs))

-- a later cut, or else one here
abbrev pub last_or : ℕ → Bool → List ℕ → Option (List ℕ × List ℕ) → Option (List ℕ × List ℕ)
last_or b here bs (Some p) = Some (b ∷ p.0, p.1)
last_or b here bs None = cond here (Some ([], bs)) None

-- the texts before and after the last such byte
abbrev pub cut_last : ℕ → List ℕ → Option (List ℕ × List ℕ)
cut_last sign [] = None
cut_last sign (b ∷ bs) = last_or b (b == sign) bs (cut_last sign bs)

-- the text before such a byte, if the byte comes last
abbrev pub if_last : Option (List ℕ × List ℕ) → Option (List ℕ)
if_last None = None
if_last (Some p) = cond (is_nonempty p.1) None (Some p.0)

abbrev pub before_end : ℕ → List ℕ → Option (List ℕ)
before_end sign text = if_last (cut_last sign text)

abbrev pub numeral_if : Bool → List ℕ → Option (List ℕ)
numeral_if true digits = Some digits
numeral_if false digits = None

-- the numeral between two signs
abbrev pub between : List ℕ → List ℕ → List ℕ → List ℕ → List ℕ → Option (List ℕ)
between left right l digits r = numeral_if (bytes_eq l left && is_numeral digits && bytes_eq r right) digits

abbrev pub source_of : List ℕ → List ℕ → List ℕ → Option (List ℕ)
source_of = between (codes "(") (codes ",")

abbrev pub middle_of : List ℕ → List ℕ → List ℕ → Option (List ℕ)
middle_of = between (codes ",") (codes ",")

abbrev pub target_of : List ℕ → List ℕ → List ℕ → Option (List ℕ)
target_of = between (codes ",") (codes ")")

-- two words
abbrev pub two : List (List ℕ) → Option (List ℕ × List ℕ)
two (a ∷ b ∷ []) = Some (a, b)
two _ = None

-- the numeral after `(`
abbrev pub opened : Option (List ℕ × List ℕ) → Option (List ℕ)
opened None = None
opened (Some p) = numeral_if (bytes_eq p.0 (codes "(") && is_numeral p.1) p.1

-- the numeral before `)`
abbrev pub closed : Option (List ℕ × List ℕ) → Option (List ℕ)
closed None = None
closed (Some p) = numeral_if (is_numeral p.0 && bytes_eq p.1 (codes ")")) p.0

abbrev pub opening : List ℕ → Option (List ℕ)
opening text = opened (two (words text))

abbrev pub closing : List ℕ → Option (List ℕ)
closing text = closed (two (words text))

abbrev pub unquoted : List ℕ → Option (List ℕ)
unquoted [] = None
unquoted (b ∷ bs) = cond (b == 34) (before_end 34 bs) None

-- the label in a text, bare or in quotes
abbrev pub label_in : List ℕ → Option (List ℕ)
label_in text = cond (lacks 34 text) (cond (lacks 44 text) (Some text) None) (unquoted text)

abbrev pub make_form : Option (List ℕ) → Option (List ℕ) → Option (List ℕ) → Option Form
make_form (Some a) (Some label) (Some b) =
    Some (record { source = digits_value 10 a; label = label; target = digits_value 10 b })
make_form _ _ _ = None

abbrev pub form_ended : List ℕ → Option (List ℕ × List ℕ) → Option Form
form_ended front None = None
form_ended front (Some p) = make_form (opening front) (label_in (trimmed p.0)) (closing p.1)

abbrev pub form_begun : Option (List ℕ × List ℕ) → Option Form
form_begun None = None
form_begun (Some p) = form_ended p.0 (cut_last 44 p.1)

-- the form of a line, if it has one
abbrev pub form_of : List ℕ → Option Form
form_of bytes = form_begun (cut 44 bytes)

abbrev pub make_header : Option (List ℕ) → Option (List ℕ) → Option (List ℕ) → Option Header
make_header (Some f) (Some t) (Some s) =
    Some (record { first = digits_value 10 f; count = digits_value 10 t; states = digits_value 10 s })
make_header _ _ _ = None

abbrev pub header_in : List (List ℕ) → Option Header
header_in (w ∷ o ∷ f ∷ c ∷ t ∷ d ∷ s ∷ e ∷ []) =
    cond (bytes_eq w (codes "des")) (make_header (source_of o f c) (middle_of c t d) (target_of d s e)) None
header_in _ = None

-- the header that a line spells, if it does
abbrev pub header_at : List ℕ → Option Header
header_at bytes = header_in (words bytes)

abbrev pub named : List ℕ → Option (List ℕ) → Option (List ℕ × Option (List ℕ))
named name text = cond (is_nonempty name) (Some (name, text)) None

abbrev pub guarded : Option (List ℕ × List ℕ) → Option (List ℕ × Option (List ℕ))
guarded None = None
guarded (Some p) = named (trimmed p.0) (Some p.1)

abbrev pub name_in : List ℕ → Option (List ℕ) → Option (List ℕ × Option (List ℕ))
name_in text None = named text None
name_in text (Some front) = guarded (cut_last 91 front)

-- the name of a label, and the text of its guard, if it has one
abbrev pub label_of : List ℕ → Option (List ℕ × Option (List ℕ))
label_of label = name_in (trimmed label) (before_end 93 (trimmed label))

abbrev pub guard_of : List (List ℕ) → Option (List ℕ) → Option Formula
guard_of features None = Some always
guard_of features (Some text) = guard_at features text

abbrev pub behind_cut : Option (List ℕ × List ℕ) → ℕ
behind_cut None = 0
behind_cut (Some p) = length p.0 + 1

-- the place after the last `[`
abbrev pub guard_place : List ℕ → ℕ
guard_place bytes = behind_cut (cut_last 91 bytes)

-- the names of actions and the transitions up to here
pub record Seen : Type 0 where
  pub names : List (List ℕ)
  pub transitions : List Transition

abbrev pub nothing : Seen
nothing = record { names = []; transitions = [] }

abbrev pub seen_with : Seen → Form → List ℕ → Formula → Seen
seen_with seen form name g = record {
  names = with_name seen.names name;
  transitions = seen.transitions ++ record {
    source = form.source;
    action = place_with seen.names name;
    guard = g;
    target = form.target;
  } ∷ [];
}

abbrev pub after_guard : Seen → List ℕ → Form → List ℕ → Option Formula → Result Seen Refusal
after_guard seen bytes form name None = Err (NoGuard (guard_place bytes))
after_guard seen bytes form name (Some g) = Ok (seen_with seen form name g)

abbrev pub after_label :
    List (List ℕ) → Header → Seen → List ℕ → Form → Option (List ℕ × Option (List ℕ)) → Result Seen Refusal
after_label features h seen bytes form None = Err NoLabel
after_label features h seen bytes form (Some l) =
    checked (nat_lt form.source h.states && nat_lt form.target h.states) NotState
    (after_guard seen bytes form l.0 (guard_of features l.1))

abbrev pub after_form : List (List ℕ) → Header → Seen → List ℕ → Option Form → Result Seen Refusal
after_form features h seen bytes None = Err NoForm
after_form features h seen bytes (Some form) =
    checked (nat_lt (length seen.transitions) h.count) Beyond
    (after_label features h seen bytes form (label_of form.label))

-- the names and transitions with one more line
abbrev pub line_at : List (List ℕ) → Header → Seen → List ℕ → Result Seen Refusal
line_at features h seen bytes = after_form features h seen bytes (form_of bytes)

abbrev pub system_of : List (List ℕ) → Header → Seen → NamedSystem
system_of features h seen = record {
  features = length features;
  first = h.first;
  states = h.states;
  actions = seen.names;
  transitions = seen.transitions;
}

abbrev pub finished : List (List ℕ) → Header → ℕ → Seen → Result NamedSystem Fault
finished features h line seen =
    checked (nat_le h.count (length seen.transitions)) (TooFew line) (Ok (system_of features h seen))

abbrev pub after_line : ℕ → Result Seen Refusal → (Seen → Result NamedSystem Fault) → Result NamedSystem Fault
after_line number (Err refusal) behind = Err (At number refusal)
after_line number (Ok seen) behind = behind seen

-- the lines from a number on, if the header is at a line
abbrev pub read_lines : List (List ℕ) → Header → ℕ → ℕ → List (List ℕ) → Seen → Result NamedSystem Fault
read_lines features h line number [] seen = finished features h line seen
read_lines features h line number (bytes ∷ rest) seen =
    let behind : Seen → Result NamedSystem Fault = read_lines features h line (number + 1) rest in
    cond (not_blank bytes) (after_line number (line_at features h seen bytes) behind) (behind seen)

abbrev pub is_within : Header → Bool
is_within h = nat_le h.states 65536 && nat_le h.count 1048576

abbrev pub after_header : List (List ℕ) → ℕ → Option Header → List (List ℕ) → Result NamedSystem Fault
after_header features number None rest = Err (NoHeader number)
after_header features number (Some h) rest =
    checked (is_within h) (TooMany number) (checked (nat_lt h.first h.states) (NoFirst number)
    (read_lines features h number (number + 1) rest nothing))

abbrev pub read_header : List (List ℕ) → ℕ → List (List ℕ) → Result NamedSystem Fault
read_header features number [] = Err (NoHeader (max 1 (number - 1)))
read_header features number (bytes ∷ rest) =
    let behind : Result NamedSystem Fault = read_header features (number + 1) rest in
    cond (not_blank bytes) (after_header features number (header_at bytes) rest) behind

-- the system of a text, or the first fault
abbrev pub reading : List (List ℕ) → List ℕ → Result NamedSystem Fault
reading features text = read_header features 1 (lines text)
