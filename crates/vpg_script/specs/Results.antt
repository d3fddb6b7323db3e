-- The results of a script, and of one line.
use Rattle.std.specs.Prelude.{◌≡◌, ℕ, Bool, true, false, if◌then◌else◌, List, Option, Some, None, Result, Ok, Err, ⊤}
use Rattle.std.specs.Io.KnownBytes.{Appends}
use Rattle.vpg_script.specs.Devices.{AppendsSome}
use Rattle.vpg_script.specs.Lines.{HeldKnown, NextLine}
use Rattle.vpg_script.specs.Script.{Said, said}
use Rattle.vpg_script.specs.Output.{IsEmptyKnown, FaultyKnown}
use Rattle.vpg_script.specs.View.{request_shown}
use Rattle.vpg_script.specs.Framing.{framed}
use Rattle.vpg_script.specs.Manners.{fault_answer}
use Rattle.vpg_script.specs.declared.command.LineFault.{LineFault}
use Rattle.vpg_script.specs.declared.answering.Asked.{Asked}
use Rattle.vpg_script.specs.declared.answering.Asked.TheVariants as asks
use Rattle.vpg_script.specs.declared.tone.Tone.{Tone}
use Rattle.vpg_script.specs.declared.lines.NextFault.{NextFault}
use Rattle.vpg_script.specs.declared.lines.NextFault.TheVariants as reads
use Rattle.vpg_script.specs.declared.serving.Manner.{Manner}
use Rattle.vpg_script.specs.declared.serving.Ending.{Ending}
use Rattle.vpg_script.specs.declared.serving.Ending.TheVariants as endings
use Rattle.vpg_script.specs.declared.serving.ServeFault.{ServeFault}
use Rattle.vpg_script.specs.declared.serving.ServeFault.TheVariants as unserved
use Rattle.vpg_script.specs.declared.fault.RunFault.{RunFault}
use Rattle.vpg_script.specs.declared.fault.RunFault.TheVariants as stops

-- the script's result if its server stops it
abbrev pub stop_of : ServeFault → RunFault
stop_of unserved.Memory = stops.Memory
stop_of unserved.Stray = stops.Stray

-- the script's result if its reader stops it
abbrev pub stop_of_read : NextFault → RunFault
stop_of_read reads.Read = stops.Read
stop_of_read reads.Memory = stops.Memory

-- This holds of each result except Read.
abbrev pub UnlessReaderFails : {A : Type 0} → Result A RunFault → Type 0 → Type 0
UnlessReaderFails (Err stops.Read) P = ⊤
UnlessReaderFails result P = P

-- This holds of each result except Write.
abbrev pub UnlessWriterFails : {A : Type 0} → Result A RunFault → Type 0 → Type 0
UnlessWriterFails (Err stops.Write) P = ⊤
UnlessWriterFails result P = P

-- the ending of a script with all its lines answered, by whether an assertion failed
abbrev pub ending_of : Bool → Ending
ending_of failed = if failed then endings.Failed else endings.Whole

-- the result of an answer of this tone that is written as these bytes
abbrev pub PutOutcome : (bytes : List ℕ) → Tone → (before after : Option (List ℕ)) → Result Tone RunFault → Type 0
PutOutcome bytes tone before after (Ok given) = (given ≡ tone) × Appends before after bytes
PutOutcome bytes _ before after (Err stops.Write) = AppendsSome before after bytes
PutOutcome bytes _ before after (Err stops.Memory) = after ≡ before
PutOutcome bytes _ before after (Err stop) = ⊥

-- the result of line n, which has a fault: the script goes on, or stops there
abbrev pub FaultOutcome : Manner → ℕ → LineFault → (before after : Option (List ℕ)) → Result Tone RunFault → Type 0
FaultOutcome manner n fault before after (Ok tone) =
    (manner.goes_on ≡ true) × (tone ≡ (fault_answer fault).tone) ×
    Appends before after (framed manner.form n (fault_answer fault))
FaultOutcome manner n fault before after (Err (stops.Line m other)) =
    (m ≡ n) × (other ≡ fault) × (manner.goes_on ≡ false) × (after ≡ before)
FaultOutcome manner n fault before after (Err stops.Write) =
    (manner.goes_on ≡ true) × AppendsSome before after (framed manner.form n (fault_answer fault))
FaultOutcome manner n fault before after (Err stops.Memory) = after ≡ before
FaultOutcome manner n fault before after (Err stop) = ⊥

-- a line was taken off
abbrev pub TakenKnown : Option (List ℕ) → List ℕ → Option (List ℕ) → Type 0
TakenKnown None line rest = ⊤
TakenKnown (Some text) line None = ⊥
TakenKnown (Some text) line (Some rest) = NextLine text line rest

-- the line with this meaning, as it is read
abbrev pub AskedBy : Said → Result Asked RunFault → Type 0
AskedBy says (Ok (asks.Request request)) = says ≡ Ok (Some (request_shown request))
AskedBy says (Ok asks.Nothing) = says ≡ Ok None
AskedBy says (Ok (asks.Fault fault)) = says ≡ Err fault
AskedBy says (Ok asks.End) = ⊥
AskedBy says (Err stops.Memory) = ⊤
AskedBy says (Err stop) = ⊥

-- a line was taken off, and this is its meaning
abbrev pub TakenSaying : Option (List ℕ) → Said → Option (List ℕ) → Type 0
TakenSaying text says rest = (line : List ℕ) × (TakenKnown text line rest × (said line ≡ says))

-- The next line of a text, or its end; the second text is left then. A line with a fault is taken off if the script
-- goes on. The third text is left to be read, which matters if reading fails.
abbrev pub AskedOutcome : Bool → (text rest left : Option (List ℕ)) → Result Asked RunFault → Type 0
AskedOutcome goes_on text rest left (Ok (asks.Request request)) =
    TakenSaying text (Ok (Some (request_shown request))) rest
AskedOutcome goes_on text rest left (Ok asks.Nothing) = TakenSaying text (Ok None) rest
AskedOutcome goes_on text rest left (Ok (asks.Fault fault)) =
    FaultyKnown fault text × (goes_on ≡ true → TakenSaying text (Err fault) rest)
AskedOutcome goes_on text rest left (Ok asks.End) = IsEmptyKnown text
AskedOutcome goes_on text rest left (Err stops.Read) = HeldKnown text left
AskedOutcome goes_on text rest left (Err stops.Memory) = ⊤
AskedOutcome goes_on text rest left (Err stop) = ⊥

-- a line was read, to its end
abbrev pub HasLine : Bool → Asked → Type 0
HasLine goes_on (asks.Fault fault) = goes_on ≡ true
HasLine goes_on asks.End = ⊥
HasLine goes_on asked = ⊤
