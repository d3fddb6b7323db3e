-- Scripts that are answered in a manner: strict ones end at the first refusal, and those that go on answer a line with
-- a fault. This project's own.
use Rattle.std.specs.Prelude.{◌≡◌, ℕ, ◌+◌, Bool, true, false, List, [], ◌∷◌, ◌++◌, length, Option, Some, None, Result, Ok, Err, codes}
use Rattle.std.specs.List.{list_any}
use Rattle.std.specs.Io.KnownBytes.{Appends, prepend_known}
use Rattle.vpg_script.specs.Devices.{AppendsSome}
use Rattle.vpg_script.specs.Lines.{IsUnended}
use Rattle.vpg_script.specs.Script.{Said, said}
use Rattle.vpg_script.specs.Answer.{Answer, done, refused, is_failure, is_refusal}
use Rattle.vpg_script.specs.Framing.{framed, frames}
use Rattle.vpg_script.specs.Output.{Machine, ReadKnown, NextKnown, IsEmptyKnown, FaultyKnown}
use Rattle.vpg_script.specs.declared.command.LineFault.{LineFault}
use Rattle.vpg_script.specs.declared.command.LineFault.TheVariants as faults
use Rattle.vpg_script.specs.declared.serving.Manner.{Manner}
use Rattle.vpg_script.specs.declared.serving.Ending.{Ending}
use Rattle.vpg_script.specs.declared.serving.Ending.TheVariants as endings
use Rattle.vpg_script.specs.declared.fault.RunFault.{RunFault}
use Rattle.vpg_script.specs.declared.fault.RunFault.TheVariants as stops

-- ---- answers

abbrev pub fault_word : LineFault → List ℕ
fault_word faults.Word = codes "Word"
fault_word faults.Args = codes "Args"
fault_word faults.TooLong = codes "TooLong"

-- the answer to a line with a fault, if the script goes on
abbrev pub fault_answer : LineFault → Answer
fault_answer fault = refused (fault_word fault)

-- If the script goes on, the answer to a line with a fault is the fault, and nothing changes.
abbrev pub AnswersFault : {S : Type 0} → Bool → S → LineFault → Answer → S → Type 0
AnswersFault true s fault answer new = (answer ≡ fault_answer fault) × (new ≡ s)
AnswersFault false s fault answer new = ⊥

-- a machine's answer to the meaning of a line; `goes_on` says whether the script goes on after a line with a fault
abbrev pub Answers : {S : Type 0} → Bool → Machine S → S → Said → Answer → S → Type 0
Answers goes_on serves s (Ok None) answer new = (answer ≡ done []) × (new ≡ s)
Answers goes_on serves s (Ok (Some request)) answer new = serves s request answer new
Answers goes_on serves s (Err fault) answer new = AnswersFault goes_on s fault answer new

-- one line after another, with the answer to each
abbrev pub AnsweredEach : {S : Type 0} → Bool → Machine S → S → List (List ℕ) → List Answer → S → Type 0
AnsweredEach goes_on serves s [] answers new = (answers ≡ []) × (new ≡ s)
AnsweredEach {S} goes_on serves s (line ∷ lines) answers new =
    (mid : S) × (one : Answer) × (more : List Answer) × (Answers goes_on serves s (said line) one mid) ×
    (answers ≡ one ∷ more) × (AnsweredEach goes_on serves mid lines more new)

-- ---- scripts

-- lines were read, and their answers were written in the manner's form
pub record WroteEach {S : Type 0} (manner : Manner) (serves : Machine S) (old new : S)
    (input rest before after : Option (List ℕ)) (lines : List (List ℕ)) (answers : List Answer) : Type 0 where
  pub read : ReadKnown input lines rest
  pub answered : AnsweredEach manner.goes_on serves old lines answers new
  pub written : Appends before after (frames manner.form 1 answers)

-- as `WroteEach`, and a strict script has no refusal among them
pub record Went {S : Type 0} (manner : Manner) (serves : Machine S) (old new : S)
    (input rest before after : Option (List ℕ)) (lines : List (List ℕ)) (answers : List Answer) : Type 0 where
  pub wrote : WroteEach manner serves old new input rest before after lines answers
  pub unrefused : manner.is_strict ≡ true → list_any is_refusal answers ≡ false

-- A script with this ending leaves this state, with the text read, and the texts written before and after it.
abbrev pub Leaves : {S : Type 0} → Manner → Machine S → (old new : S) → (input before after : Option (List ℕ)) →
    Ending → Type 0
-- all lines were answered, and no assertion failed
Leaves manner serves old new input before after endings.Whole =
    (lines : List (List ℕ)) × (answers : List Answer) × (rest : Option (List ℕ)) ×
    (Went manner serves old new input rest before after lines answers × IsEmptyKnown rest ×
    (list_any is_failure answers ≡ false))
-- all lines were answered, and an assertion failed
Leaves manner serves old new input before after endings.Failed =
    (lines : List (List ℕ)) × (answers : List Answer) × (rest : Option (List ℕ)) ×
    (Went manner serves old new input rest before after lines answers × IsEmptyKnown rest ×
    (list_any is_failure answers ≡ true))
-- the script is strict, and n lines were answered, the last of them with the first refusal
Leaves manner serves old new input before after (endings.Refused n) =
    (lines : List (List ℕ)) × (answers : List Answer) × (last : Answer) × (rest : Option (List ℕ)) ×
    (WroteEach manner serves old new input rest before after lines (answers ++ last ∷ []) ×
    (manner.is_strict ≡ true) × (list_any is_refusal answers ≡ false) × (is_refusal last ≡ true) × (n ≡ length lines))

-- the result of a script that is answered in a manner, with the texts read and written
abbrev pub MannerOutcome : {S : Type 0} → Manner → Machine S → S → Option (List ℕ) → Option (List ℕ) →
    Option (List ℕ) → Option (List ℕ) → Result Ending RunFault → Type 0
-- it came to this ending, and left some state
MannerOutcome {S} manner serves old input left before after (Ok ending) =
    (new : S) × Leaves manner serves old new input before after ending
-- the script ends at a fault: the lines before it were answered, and line n has the fault
MannerOutcome {S} manner serves old input left before after (Err (stops.Line n fault)) =
    (lines : List (List ℕ)) × (answers : List Answer) × (new : S) × (rest : Option (List ℕ)) ×
    (Went manner serves old new input rest before after lines answers × FaultyKnown fault rest ×
    (manner.goes_on ≡ false) × (n ≡ length lines + 1))
-- all lines with their ends that were read were answered; after them a line without its end was read
MannerOutcome {S} manner serves old input left before after (Err stops.Read) =
    (lines : List (List ℕ)) × (answers : List Answer) × (new : S) × (held : List ℕ) ×
    (Went manner serves old new input (prepend_known held left) before after lines answers × IsUnended held)
-- some first lines were answered; if a write failed, a front of the answer to the line after them was written
MannerOutcome {S} manner serves old input left before after (Err stops.Memory) =
    (lines : List (List ℕ)) × (answers : List Answer) × (new : S) × (rest : Option (List ℕ)) ×
    Went manner serves old new input rest before after lines answers
-- it was begun
MannerOutcome {S} manner serves old input left before after (Err (stops.Open fault)) = ⊥
MannerOutcome {S} manner serves old input left before after (Err stops.Stray) =
    (lines : List (List ℕ)) × (answers : List Answer) × (new : S) × (rest : Option (List ℕ)) ×
    Went manner serves old new input rest before after lines answers
MannerOutcome {S} manner serves old input left before after (Err stops.Write) =
    (lines : List (List ℕ)) × (answers : List Answer) × (new : S) × (rest mid : Option (List ℕ)) × (answer : Answer) ×
    (Went manner serves old new input rest before mid lines answers × (last : S) × (line : List ℕ) ×
    (NextKnown rest line × Answers manner.goes_on serves new (said line) answer last ×
    AppendsSome mid after (framed manner.form (length lines + 1) answer)))
