-- The output for the lines that are read.
use Rattle.std.specs.Prelude.{◌≡◌, ℕ, ◌+◌, ◌⊎◌, List, [], ◌∷◌, length, map, Option, Some, None, Result, Ok, Err, ⊤}
use Rattle.std.specs.List.{concat}
use Rattle.std.specs.Io.KnownBytes.{Appends, prepend_known}
use Rattle.vpg_script.specs.Devices.{AppendsSome}
use Rattle.vpg_script.specs.Script.{Request, Said, said}
use Rattle.vpg_script.specs.Lines.{IsUnended, BeginsTooLong, NextLine, ReadLines}
use Rattle.vpg_script.specs.declared.command.LineFault.{LineFault}
use Rattle.vpg_script.specs.Answer.{Answer, done}
use Rattle.vpg_script.specs.declared.fault.RunFault.{RunFault}
use Rattle.vpg_script.specs.declared.fault.RunFault.TheVariants as stops
use Rattle.vpg_script.specs.declared.command.LineFault.TheVariants as faults

-- a machine's answers to requests: from a state, with this answer, to a state
abbrev pub Machine : Type 0 → Type 1
Machine S = S → Request → Answer → S → Type 0

-- a machine's answer to the meaning of a line
abbrev pub Speaks : {S : Type 0} → Machine S → S → Said → Answer → S → Type 0
Speaks serves s (Ok None) answer new = (answer ≡ done []) × (new ≡ s)
Speaks serves s (Ok (Some request)) answer new = serves s request answer new
Speaks serves s (Err fault) answer new = ⊥

-- one line after another, none of them with a fault, with the answer to each
abbrev pub Answered : {S : Type 0} → Machine S → S → List (List ℕ) → List Answer → S → Type 0
Answered serves s [] answers new = (answers ≡ []) × (new ≡ s)
Answered {S} serves s (line ∷ lines) answers new =
    (mid : S) × (one : Answer) × (more : List Answer) × (Speaks serves s (said line) one mid) ×
    (answers ≡ one ∷ more) × (Answered serves mid lines more new)

-- the text of answers
abbrev pub text_of : List Answer → List ℕ
text_of answers = concat (map (λ answer. answer.text) answers)

-- the text is these lines, and then the rest, if the bytes are known
abbrev pub ReadKnown : Option (List ℕ) → List (List ℕ) → Option (List ℕ) → Type 0
ReadKnown None lines rest = ⊤
ReadKnown (Some text) lines None = ⊥
ReadKnown (Some text) lines (Some rest) = ReadLines text lines rest

-- lines were read, and their answers were written
pub record Wrote {S : Type 0} (serves : Machine S) (old new : S) (input rest : Option (List ℕ))
    (before after : Option (List ℕ)) (lines : List (List ℕ)) : Type 0 where
  pub answers : List Answer
  pub read : ReadKnown input lines rest
  pub answered : Answered serves old lines answers new
  pub written : Appends before after (text_of answers)

-- this line comes next
abbrev pub NextKnown : Option (List ℕ) → List ℕ → Type 0
NextKnown None line = ⊤
NextKnown (Some rest) line = (more : List ℕ) × NextLine rest line more

-- the rest has nothing, or it begins with a line with this fault
abbrev pub IsEmptyKnown : Option (List ℕ) → Type 0
IsEmptyKnown None = ⊤
IsEmptyKnown (Some rest) = rest ≡ []

abbrev pub BeginsFaulty : LineFault → List ℕ → Type 0
BeginsFaulty fault rest =
    ((line more : List ℕ) × (NextLine rest line more × (said line ≡ Err fault))) ⊎
    ((fault ≡ faults.TooLong) × BeginsTooLong rest)

abbrev pub FaultyKnown : LineFault → Option (List ℕ) → Type 0
FaultyKnown fault None = ⊤
FaultyKnown fault (Some rest) = BeginsFaulty fault rest

-- the result of a script, with the texts read and written
abbrev pub ScriptOutcome : {S : Type 0} → Machine S → S → Option (List ℕ) → Option (List ℕ) → Option (List ℕ) →
    Option (List ℕ) → Result (Unit {0}) RunFault → Type 0
-- all lines were answered
ScriptOutcome {S} serves old input left before after (Ok done) =
    (lines : List (List ℕ)) × (new : S) × (rest : Option (List ℕ)) ×
    (Wrote serves old new input rest before after lines × IsEmptyKnown rest)
-- the lines before it were, and line n has the fault
ScriptOutcome {S} serves old input left before after (Err (stops.Line n fault)) =
    (lines : List (List ℕ)) × (new : S) × (rest : Option (List ℕ)) ×
    (Wrote serves old new input rest before after lines × FaultyKnown fault rest × (n ≡ length lines + 1))
-- all lines with their ends that were read were answered; after them a line without its end was read
ScriptOutcome {S} serves old input left before after (Err stops.Read) =
    (lines : List (List ℕ)) × (new : S) × (held : List ℕ) ×
    (Wrote serves old new input (prepend_known held left) before after lines × IsUnended held)
-- some first lines were answered; if a write failed, a front of the answer to the line after them was written
ScriptOutcome {S} serves old input left before after (Err stops.Memory) =
    (lines : List (List ℕ)) × (new : S) × (rest : Option (List ℕ)) × Wrote serves old new input rest before after lines
-- it was begun
ScriptOutcome {S} serves old input left before after (Err (stops.Open fault)) = ⊥
ScriptOutcome {S} serves old input left before after (Err stops.Stray) =
    (lines : List (List ℕ)) × (new : S) × (rest : Option (List ℕ)) × Wrote serves old new input rest before after lines
ScriptOutcome {S} serves old input left before after (Err stops.Write) =
    (lines : List (List ℕ)) × (new : S) × (rest : Option (List ℕ)) × (mid : Option (List ℕ)) × (answer : Answer)
    × (Wrote serves old new input rest before mid lines × (last : S) × (line : List ℕ) ×
    (NextKnown rest line × Speaks serves new (said line) answer last × AppendsSome mid after answer.text))
