-- Which text spells a featured transition system. The Aldebaran format, as CADP and mCRL2 write it; transitions with
-- guards as in Classen 2010; brackets are this project's own.
use Rattle.std.specs.Prelude.{ℕ, ◌<◌, ◌≤◌, ◌≡◌, Bool, true, false, not, ◌&&◌, ◌||◌, ◌==◌, cond, List, [], ◌∷◌, ◌++◌, length, filter, Option, Some, None, IsTrue, bytes_eq, if◌then◌else◌, codes, ◌⊎◌}
use Rattle.std.specs.List.{list_all, list_any, position_or_len}
use Rattle.std.specs.Char.{is_ascii_digit}
use Rattle.std.specs.Str.Parse.{digits_value}
use Rattle.std.specs.Str.Lines.{lines}
use Rattle.vpg_guards.specs.Formula.{Formula, always}
use Rattle.vpg_guards.specs.Grammar.{Spells}

-- a transition: under the guard, the action leads from the source to the target
pub record Transition : Type 0 where
  pub source : ℕ
  pub action : ℕ
  pub guard : Formula
  pub target : ℕ

-- a featured transition system: its states are the numbers below a count, its actions are numbers that have names, and
-- its guards are over this many features
pub record NamedSystem : Type 0 where
  pub features : ℕ
  pub first : ℕ
  pub states : ℕ
  pub actions : List (List ℕ)
  pub transitions : List Transition

-- a space or a tab
abbrev pub is_blank : ℕ → Bool
is_blank b = (b == 32) || (b == 9)

-- `(`, `)` or `,`
abbrev pub is_sign : ℕ → Bool
is_sign b = (b == 40) || (b == 41) || (b == 44)

-- the list is not empty
abbrev pub is_nonempty : {X : Type 0} → List X → Bool
is_nonempty [] = false
is_nonempty (x ∷ xs) = true

-- whether a word goes on here
abbrev pub goes_on : List ℕ → Bool
goes_on [] = false
goes_on (b ∷ bs) = not (is_blank b) && not (is_sign b)

-- the byte in front of the first word, or as a word of its own
abbrev pub in_word : ℕ → Bool → List (List ℕ) → List (List ℕ)
in_word b true [] = (b ∷ []) ∷ []
in_word b true (w ∷ ws) = (b ∷ w) ∷ ws
in_word b false ws = (b ∷ []) ∷ ws

-- the words of a line: each sign is one, and so is the text between signs and blanks
abbrev pub words : List ℕ → List (List ℕ)
words [] = []
words (b ∷ bs) =
    cond (is_blank b) (words bs) (cond (is_sign b) ((b ∷ []) ∷ words bs) (in_word b (goes_on bs) (words bs)))

-- the byte does not occur in the text
abbrev pub lacks : ℕ → List ℕ → Bool
lacks sign text = list_all (λ b. not (b == sign)) text

-- a text without the blanks in front
abbrev pub without_front : List ℕ → List ℕ
without_front [] = []
without_front (b ∷ bs) = cond (is_blank b) (without_front bs) (b ∷ bs)

-- the byte in front of a text without blanks at its end
abbrev pub unless_last : ℕ → List ℕ → List ℕ
unless_last b [] = cond (is_blank b) [] (b ∷ [])
unless_last b (c ∷ cs) = b ∷ c ∷ cs

-- a text without the blanks at the end
abbrev pub without_end : List ℕ → List ℕ
without_end [] = []
without_end (b ∷ bs) = unless_last b (without_end bs)

-- a text without the blanks round it
abbrev pub trimmed : List ℕ → List ℕ
trimmed text = without_end (without_front text)

-- one or more decimal digits
abbrev pub is_numeral : List ℕ → Bool
is_numeral digits = is_nonempty digits && list_all is_ascii_digit digits

-- decimal digits that have this value
pub record IsNumeralOf (digits : List ℕ) (n : ℕ) : Type 0 where
  pub numeral : IsTrue (is_numeral digits)
  pub value : digits_value 10 digits ≡ n

-- the first state, and how many transitions and states there are
pub record Header : Type 0 where
  pub first : ℕ
  pub count : ℕ
  pub states : ℕ

-- `des (F, T, S)`: the header that a line is
pub record SpellsHeader (bytes : List ℕ) (h : Header) : Type 0 where
  pub first : List ℕ
  pub count : List ℕ
  pub states : List ℕ
  pub words_are : words bytes
      ≡ codes "des" ∷ codes "(" ∷ first ∷ codes "," ∷ count ∷ codes "," ∷ states ∷ codes ")" ∷ []
  pub first_is : IsNumeralOf first h.first
  pub count_is : IsNumeralOf count h.count
  pub states_are : IsNumeralOf states h.states

-- The label between the commas: bare, without quotes and commas, or in double quotes, with any bytes, a quote too.
abbrev pub SpellsLabel : List ℕ → List ℕ → Type 0
SpellsLabel text label =
    ((text ≡ label) × IsTrue (lacks 34 label) × IsTrue (lacks 44 label)) ⊎ (text ≡ 34 ∷ (label ++ 34 ∷ []))

-- a line's source, label and target
pub record Form : Type 0 where
  pub source : ℕ
  pub label : List ℕ
  pub target : ℕ

-- `(A, LABEL, B)`: A comes before the first comma of the line, B after the last, and the label between, with blanks
-- free round it
pub record SpellsForm (bytes : List ℕ) (form : Form) : Type 0 where
  pub front : List ℕ
  pub middle : List ℕ
  pub back : List ℕ
  pub source : List ℕ
  pub target : List ℕ
  pub line_is : bytes ≡ front ++ 44 ∷ (middle ++ 44 ∷ back)
  pub first : IsTrue (lacks 44 front)
  pub last : IsTrue (lacks 44 back)
  pub front_is : words front ≡ codes "(" ∷ source ∷ []
  pub back_is : words back ≡ target ∷ codes ")" ∷ []
  pub source_is : IsNumeralOf source form.source
  pub label_is : SpellsLabel (trimmed middle) form.label
  pub target_is : IsNumeralOf target form.target

-- whether the text ends in a `]`
abbrev pub is_closed : List ℕ → Bool
is_closed [] = false
is_closed (b ∷ []) = b == 93
is_closed (b ∷ c ∷ cs) = is_closed (c ∷ cs)

-- the label is a name, without the blanks round it, and has no guard
pub record IsNameAlone (label name : List ℕ) : Type 0 where
  pub name_is : trimmed label ≡ name
  pub some : is_nonempty name ≡ true
  pub not_closed : is_closed name ≡ false

-- the label is a name, and then the text of a guard between the last `[` and the `]` at the end
pub record IsGuarded (label name text : List ℕ) : Type 0 where
  pub front : List ℕ
  pub label_is : trimmed label ≡ (front ++ 91 ∷ text) ++ 93 ∷ []
  pub last : IsTrue (lacks 91 text)
  pub name_is : trimmed front ≡ name
  pub some : is_nonempty name ≡ true

-- the name of a label, and the text of its guard, if it has one
abbrev pub HasName : List ℕ → List ℕ → Option (List ℕ) → Type 0
HasName label name None = IsNameAlone label name
HasName label name (Some text) = IsGuarded label name text

-- the guard of the text, or `true` if there is no text
abbrev pub SpellsGuard : List (List ℕ) → Option (List ℕ) → Formula → Type 0
SpellsGuard features None g = g ≡ always
SpellsGuard features (Some text) g = Spells features text g

-- the bytes of a line, the name of its action, and its transition
pub record SpellsTransition (features : List (List ℕ)) (bytes name : List ℕ) (t : Transition) : Type 0 where
  pub label : List ℕ
  pub text : Option (List ℕ)
  pub form_is : SpellsForm bytes (record { source = t.source; label = label; target = t.target })
  pub label_is : HasName label name text
  pub guard_is : SpellsGuard features text t.guard

-- the names with this one, which is put last if it is new
abbrev pub with_name : List (List ℕ) → List ℕ → List (List ℕ)
with_name names name = if list_any (bytes_eq name) names then names else names ++ name ∷ []

-- its place there
abbrev pub place_with : List (List ℕ) → List ℕ → ℕ
place_with names name = position_or_len (bytes_eq name) names

-- Lines with a transition each, between this many states. The number of an action is the place of its name among the
-- names up to there. Before the lines there are the first names, and after them the last.
abbrev pub AreTransitions :
    List (List ℕ) → ℕ → List (List ℕ) → List (List ℕ) → List Transition → List (List ℕ) → Type 0
AreTransitions features states names [] [] all = names ≡ all
AreTransitions features states names [] (t ∷ ts) all = ⊥
AreTransitions features states names (bytes ∷ rest) [] all = ⊥
AreTransitions features states names (bytes ∷ rest) (t ∷ ts) all =
    (name : List ℕ) × SpellsTransition features bytes name t × (t.source < states) × (t.target < states) ×
    (t.action ≡ place_with names name) ×
    AreTransitions features states (with_name names name) rest ts all

-- whether a line has a byte that is no blank
abbrev pub not_blank : List ℕ → Bool
not_blank line = not (list_all is_blank line)

-- the lines that are not blank
abbrev pub kept : List (List ℕ) → List (List ℕ)
kept ls = filter not_blank ls

-- the header of a system
abbrev pub header_of : NamedSystem → Header
header_of s = record { first = s.first; count = length s.transitions; states = s.states }

-- the limits: 65,536 states and 1,048,576 transitions
pub record IsWithin (h : Header) : Type 0 where
  pub few_states : h.states ≤ 65536
  pub few_transitions : h.count ≤ 1048576

-- The text spells this system over these features, within the limits. Its lines that are not blank are a header, and
-- then one line for each transition.
pub record IsTextOf (features : List (List ℕ)) (text : List ℕ) (s : NamedSystem) : Type 0 where
  pub features_are : s.features ≡ length features
  pub header : List ℕ
  pub others : List (List ℕ)
  pub lines_are : kept (lines text) ≡ header ∷ others
  pub header_is : SpellsHeader header (header_of s)
  pub within : IsWithin (header_of s)
  pub first_below : s.first < s.states
  pub others_are : AreTransitions features s.states [] others s.transitions s.actions
