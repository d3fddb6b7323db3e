-- The answers to lines. This project's own.
use Rattle.std.specs.Prelude.{◌≡◌, ℕ, Bool, true, false, List, [], ◌∷◌, ◌++◌, Result, Ok, Err, codes}
use Rattle.vpg_script.specs.declared.tone.Tone.{Tone}
use Rattle.vpg_script.specs.declared.tone.Tone.TheVariants as tones

-- an answer: its tone, and the text that is written
pub record Answer : Type 0 where
  pub tone : Tone
  pub text : List ℕ

-- a line is carried out, and this is written
abbrev pub done : List ℕ → Answer
done text = record { tone = tones.Done; text = text }

-- an assertion doesn't hold, and this is written
abbrev pub failed : List ℕ → Answer
failed text = record { tone = tones.Failed; text = text }

-- a line is refused, for the reason of these words
abbrev pub refused : List ℕ → Answer
refused why = record { tone = tones.Refused; text = codes "refused " ++ why ++ 10 ∷ [] }

-- whether an answer of this tone refuses its line
abbrev pub is_refused : Tone → Bool
is_refused tones.Refused = true
is_refused _ = false

-- whether an answer of this tone says that an assertion fails
abbrev pub is_failed : Tone → Bool
is_failed tones.Failed = true
is_failed _ = false

-- whether an answer refuses its line
abbrev pub is_refusal : Answer → Bool
is_refusal answer = is_refused answer.tone

-- whether an answer says that an assertion fails
abbrev pub is_failure : Answer → Bool
is_failure answer = is_failed answer.tone

-- the tone of a line that is carried out if its text is written
abbrev pub done_if : {E : Type 0} → Result (Unit {0}) E → Result Tone E
done_if (Ok written) = Ok tones.Done
done_if (Err e) = Err e

-- A line is carried out, with a text of this property.
abbrev pub IsDone : (List ℕ → Type 0) → Answer → Type 0
IsDone Says answer = (answer.tone ≡ tones.Done) × Says answer.text

-- The answer's text is appended, and its tone returned.
abbrev pub IsGiven : Answer → Tone → (before after : List ℕ) → Type 0
IsGiven answer tone before after = (tone ≡ answer.tone) × (after ≡ before ++ answer.text)

-- An answer of this property is given so.
abbrev pub Gives : (Answer → Type 0) → Tone → (before after : List ℕ) → Type 0
Gives Says tone before after = (answer : Answer) × (Says answer × IsGiven answer tone before after)
