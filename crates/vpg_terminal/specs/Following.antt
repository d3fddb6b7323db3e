-- The kinds of answers that a session at a terminal hears, and the lines that it hands on by itself. This project's
-- own.
use Rattle.std.specs.Prelude.{ℕ, Bool, not, ◌||◌, ◌==◌, if◌then◌else◌, nat_eq, List, [], ◌∷◌, ◌++◌, drop, Option, Some, None, codes, decimal}
use Rattle.std.specs.List.{prefix_len, starts_with}
use Rattle.vpg_terminal.specs.declared.following.Asked.{Asked}
use Rattle.vpg_terminal.specs.declared.following.Asked.TheVariants as asks
use Rattle.vpg_terminal.specs.declared.hearing.Heard.{Heard}
use Rattle.vpg_terminal.specs.declared.hearing.Heard.TheVariants as hears

abbrev pub is_within_word : ℕ → Bool
is_within_word b = not (b == 32)

-- the text after the first word and the blank
abbrev pub behind_word : List ℕ → List ℕ
behind_word line = drop 1 (drop (prefix_len is_within_word line) line)

abbrev pub begins : List ℕ → List ℕ → Bool
begins text word = starts_with nat_eq text word

-- The kind of an answer: the line is no command, no feature has the name, a decision contradicts the page, or it is
-- refused for another reason. Or the page was swept. Or it is the line of a hopeless vertex, as `show` has it.
abbrev pub heard_of : List ℕ → Heard
heard_of answer =
    if begins answer (codes "refused Word") || begins answer (codes "refused Args") then hears.Fault
    else (if begins answer (codes "refused UnknownFeature") then hears.Unknown
    else (if begins answer (codes "refused Conflict ") then hears.Conflict
    else (if begins answer (codes "refused ") then hears.Refused
    else (if begins answer (codes "settled ") || begins answer (codes "unsettled ") then hears.Swept
    else (if begins (behind_word (behind_word (behind_word answer))) (codes "hopeless ") then hears.Hopeless
    else hears.Nothing)))))

-- the line `why +F` or `why -F`, by the byte of its sign
abbrev pub why_line : ℕ → List ℕ → List ℕ
why_line sign feature = codes "why " ++ (sign ∷ (feature ++ 10 ∷ []))

-- the line of a command about a goal
abbrev pub goal_line : List ℕ → (goal : List ℕ) → List ℕ
goal_line command goal = command ++ 32 ∷ (goal ++ 10 ∷ [])

-- the line of a command about a vertex
abbrev pub vertex_line : List ℕ → ℕ → List ℕ
vertex_line command id = goal_line command (decimal id)

-- After its verdicts the session asks why a goal is hopeless, if it is, and then for its exact verdict. Where a goal is
-- refused, nothing more is asked of it.
abbrev pub next_asked : Asked → Heard → Option Asked
next_asked asks.Show hears.Hopeless = Some asks.Why
next_asked asks.Show hears.Nothing = Some asks.Decide
next_asked asks.Show _ = None
next_asked asks.Why heard = Some asks.Decide
next_asked asks.Decide heard = None
