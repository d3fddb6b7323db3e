-- The place where a formula stops, found word by word with a list of needs. Only private contracts of the search for a
-- fault name these definitions. It is proved that no formula can go on with the word at that place. This project's own.
use Rattle.std.specs.Prelude.{ℕ, zero, suc, List, [], ◌∷◌, ◌++◌, length, Bool, true, false, not, ◌&&◌, ◌||◌, if◌then◌else◌, codes, bytes_eq, Option, Some, None, is_some}
use Rattle.vpg_formula.specs.Regular.{word_formula}
use Rattle.vpg_formula.specs.Written.{Modality, closing, is_variable, Head, leaf, deadlock, of_action, parenthesis, in_front, modality, again, after_action, binder, other, head_of}
use Rattle.vpg_formula.specs.Reading.{starts_operand}

-- the word that closes a part: `)`, `>` or `]`
pub data Closer : Type 0 where
  shut : Closer
  bracket : Modality → Closer

abbrev pub closer : Closer → List ℕ
closer shut = codes ")"
closer (bracket m) = closing m

-- A need: something that is still to come. Its number says how many more parts may be open in it.
pub data Need : Type 0 where
  -- an operand of a formula; after it perhaps `&&`, `||` or `=>` and more
  part : ℕ → Need
  ands : ℕ → Need
  ors : ℕ → Need
  implied : ℕ → Need
  -- the variable of a fixpoint; one of the words `free`, `and`, `again` and `.`; the word that closes a part
  variable : Need
  exactly : List ℕ → Need
  closes : Closer → Need
  -- an operand of a regular formula, or one that is an action formula
  operand : ℕ → Need
  acting : ℕ → Need
  -- after it perhaps `&&` or `||` and an action formula; `*` or `+`; `.` and more; `+` and more
  alls : ℕ → Need
  anys : ℕ → Need
  stars : Need
  dots : ℕ → Need
  pluses : ℕ → Need
  -- no word: the formula that was read is no action formula
  unacting : Need

abbrev pub formula_needs : ℕ → List Need
formula_needs d = part d ∷ ands d ∷ ors d ∷ implied d ∷ []

abbrev pub action_needs : ℕ → List Need
action_needs d = acting d ∷ alls d ∷ anys d ∷ []

-- the needs of operands joined by `&&` and `||`, after which `*` and `+` may come
abbrev pub starred_needs : ℕ → List Need
starred_needs d = operand d ∷ alls d ∷ anys d ∷ stars ∷ []

abbrev pub regular_needs : ℕ → List Need
regular_needs d = operand d ∷ alls d ∷ anys d ∷ stars ∷ dots d ∷ pluses d ∷ []

-- The turn of a need at a word. The word is taken, and these needs replace the need; or it needs no word; or it needs
-- another word; or the word opens one part too many. The flag says whether an action formula was read last.
pub data Turn : Type 0 where
  goes : Bool → List Need → Turn
  skips : Bool → Turn
  stuck : Turn
  deep : Turn

-- one part less, if one may be open
abbrev pub less : ℕ → Option ℕ
less zero = None
less (suc d) = Some d

abbrev pub opened : Option ℕ → (ℕ → List Need) → Turn
opened None needs = deep
opened (Some d) needs = goes true (needs d)

-- the turn at a word that opens a part with these needs
abbrev pub if_open : ℕ → (ℕ → List Need) → Turn
if_open d needs = opened (less d) needs

abbrev pub front_needs : ℕ → List Need
front_needs d = part d ∷ []

abbrev pub act_needs : ℕ → List Need
act_needs d = acting d ∷ []

abbrev pub enclosed_needs : ℕ → List Need
enclosed_needs d = part d ∷ ands d ∷ ors d ∷ implied d ∷ closes shut ∷ []

abbrev pub modal_needs : Modality → ℕ → List Need
modal_needs m d =
    operand d ∷ alls d ∷ anys d ∷ stars ∷ dots d ∷ pluses d ∷ closes (bracket m) ∷ part d ∷ []

abbrev pub again_needs : ℕ → List Need
again_needs d = exactly (codes "and") ∷ exactly (codes "again") ∷ part d ∷ []

abbrev pub after_needs : ℕ → List Need
after_needs d = acting d ∷ part d ∷ []

abbrev pub binder_needs : ℕ → List Need
binder_needs d = variable ∷ exactly (codes ".") ∷ part d ∷ ands d ∷ ors d ∷ implied d ∷ []

abbrev pub path_needs : ℕ → List Need
path_needs d = operand d ∷ alls d ∷ anys d ∷ stars ∷ dots d ∷ pluses d ∷ closes shut ∷ []

abbrev pub group_needs : ℕ → List Need
group_needs d = acting d ∷ alls d ∷ anys d ∷ closes shut ∷ []

-- the turn of a formula's operand, by the head of its first word
abbrev pub part_turn : ℕ → Head → Turn
part_turn d (leaf f) = goes true []
part_turn d deadlock = goes true (exactly (codes "free") ∷ [])
part_turn d (of_action make) = if_open d act_needs
part_turn d parenthesis = if_open d enclosed_needs
part_turn d (in_front prefix) = if_open d front_needs
part_turn d (modality m) = if_open d (modal_needs m)
part_turn d again = if_open d again_needs
part_turn d after_action = if_open d after_needs
part_turn d (binder kind) = if_open d binder_needs
part_turn d other = stuck

abbrev pub word_turn : List ℕ → Turn
word_turn w = if is_some (word_formula w) then goes true [] else stuck

-- the turn of an operand of a regular formula, with these needs between parentheses
abbrev pub operand_turn : ℕ → (ℕ → List Need) → List ℕ → Turn
operand_turn d inside w =
    if bytes_eq w (codes "!") then if_open d act_needs
    else (if bytes_eq w (codes "(") then if_open d inside else word_turn w)

-- the turn at a sign that joins only action formulas
abbrev pub if_acting : Bool → List Need → Turn
if_acting true needs = goes true needs
if_acting false needs = stuck

-- whether a word is `*`, or a `+` after which no operand starts
abbrev pub is_star : List ℕ → Bool → Bool
is_star w starts = bytes_eq w (codes "*") || (bytes_eq w (codes "+") && not starts)

-- the turn of a need at a word; the last flag says whether an operand starts after the word
abbrev pub turn_of : Need → Bool → List ℕ → Bool → Turn
turn_of (part d) f w starts = part_turn d (head_of w)
turn_of (ands d) f w starts = if bytes_eq w (codes "&&") then goes true (part d ∷ ands d ∷ []) else skips f
turn_of (ors d) f w starts = if bytes_eq w (codes "||") then goes true (part d ∷ ands d ∷ ors d ∷ []) else skips f
turn_of (implied d) f w starts = if bytes_eq w (codes "=>") then if_open d formula_needs else skips f
turn_of variable f w starts = if is_variable w then goes f [] else stuck
turn_of (exactly v) f w starts = if bytes_eq w v then goes f [] else stuck
turn_of (closes c) f w starts = if bytes_eq w (closer c) then goes f [] else stuck
turn_of (operand d) f w starts = operand_turn d path_needs w
turn_of (acting d) f w starts = operand_turn d group_needs w
turn_of (alls d) f w starts = if bytes_eq w (codes "&&") then if_acting f (acting d ∷ alls d ∷ []) else skips f
turn_of (anys d) f w starts = if bytes_eq w (codes "||") then if_acting f (acting d ∷ alls d ∷ anys d ∷ []) else skips f
turn_of stars f w starts = if is_star w starts then goes false (stars ∷ []) else skips f
turn_of (dots d) f w starts =
    if bytes_eq w (codes ".") then goes f (operand d ∷ alls d ∷ anys d ∷ stars ∷ unacting ∷ dots d ∷ []) else skips f
turn_of (pluses d) f w starts =
    if bytes_eq w (codes "+") && starts
    then goes f (operand d ∷ alls d ∷ anys d ∷ stars ∷ dots d ∷ unacting ∷ pluses d ∷ []) else skips f
turn_of unacting f w starts = skips false

-- whether a need can be met without a word
abbrev pub may_end : Need → Bool
may_end (part d) = false
may_end (ands d) = true
may_end (ors d) = true
may_end (implied d) = true
may_end variable = false
may_end (exactly v) = false
may_end (closes c) = false
may_end (operand d) = false
may_end (acting d) = false
may_end (alls d) = true
may_end (anys d) = true
may_end stars = true
may_end (dots d) = true
may_end (pluses d) = true
may_end unacting = true

-- The result of all needs at a word. Either it is taken, and these come after it, or all are met without it. Else the
-- word cannot come there, or it opens one part too many.
pub data Step : Type 0 where
  on : Bool → List Need → Step
  over : Step
  no_word : Step
  no_room : Step

abbrev pub step_by : Turn → List Need → (Bool → Step) → Step
step_by (goes g more) needs later = on g (more ++ needs)
step_by (skips g) needs later = later g
step_by stuck needs later = no_word
step_by deep needs later = no_room

abbrev pub step : Bool → List Need → List ℕ → Bool → Step
step f [] w starts = over
step f (n ∷ needs) w starts = step_by (turn_of n f w starts) needs (λ g. step g needs w starts)

-- The place that reading reaches, by the number of words that are left. All needs are met there, or the next word
-- cannot come there or is missing, or it opens one part too many.
pub data Way : Type 0 where
  done : ℕ → Way
  halted : ℕ → Way
  too_deep : ℕ → Way

abbrev pub way_by : Step → ℕ → (Bool → List Need → Way) → Way
way_by (on g needs) left later = later g needs
way_by over left later = done left
way_by no_word left later = halted left
way_by no_room left later = too_deep left

abbrev pub all_may_end : List Need → Bool
all_may_end [] = true
all_may_end (n ∷ needs) = may_end n && all_may_end needs

abbrev pub way : Bool → List Need → List (List ℕ) → Way
way f needs [] = if all_may_end needs then done 0 else halted 0
way f needs (w ∷ ws) = way_by (step f needs w (starts_operand ws)) (suc (length ws)) (λ g later. way g later ws)

-- where the formula at the front stops
abbrev pub formula_way : ℕ → List (List ℕ) → Way
formula_way d ws = way true (formula_needs d) ws
