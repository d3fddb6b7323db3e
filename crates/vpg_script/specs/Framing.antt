-- The forms in which answers are written: their text, or JSON (RFC 8259) with one object a line. This project's own.
use Rattle.std.specs.Prelude.{ℕ, ◌+◌, ◌==◌, List, [], ◌∷◌, ◌++◌, map, Option, Some, None, codes}
use Rattle.std.specs.List.{slice_split}
use Rattle.std.specs.Str.Lines.{lines}
use Rattle.std.specs.Str.Lossy.{utf8_lossy}
use Rattle.serde_json.specs.Data.{Data, null, number, unsigned, string, array, object, no_members, member}
use Rattle.serde_json.specs.View.{items_of}
use Rattle.serde_json.specs.Written.{compact_text}
use Rattle.vpg_script.specs.Script.{number_of, largest_serial}
use Rattle.vpg_script.specs.Answer.{Answer}
use Rattle.vpg_script.specs.declared.framing.Form.{Form}
use Rattle.vpg_script.specs.declared.framing.Form.TheVariants as forms
use Rattle.vpg_script.specs.declared.tone.Tone.{Tone}
use Rattle.vpg_script.specs.declared.tone.Tone.TheVariants as tones

abbrev pub tone_word : Tone → List ℕ
tone_word tones.Done = codes "done"
tone_word tones.Refused = codes "refused"
tone_word tones.Failed = codes "failed"

-- lines as strings
abbrev pub strings : List (List ℕ) → Data
strings lines = array (items_of (map string lines))

-- the words of a line of an answer
abbrev pub words_of : List ℕ → List (List ℕ)
words_of line = slice_split (λ b. b == 32) line

-- The cause of a refusal and its argument: the serial of a change if it is a number, else the name of a feature.
abbrev pub cause_with : (cause argument : List ℕ) → Option ℕ → Data
cause_with cause argument (Some serial) =
    object (member (codes "cause") (string cause) (member (codes "serial") (number (unsigned serial)) no_members))
cause_with cause argument None =
    object (member (codes "cause") (string cause) (member (codes "feature") (string argument) no_members))

-- the cause of a refusal of these words, the first of them `refused`
abbrev pub cause_of : List (List ℕ) → Data
cause_of [] = null
cause_of (refused ∷ []) = null
cause_of (refused ∷ cause ∷ []) = object (member (codes "cause") (string cause) no_members)
cause_of (refused ∷ cause ∷ argument ∷ words) = cause_with cause argument (number_of largest_serial argument)

abbrev pub refusal_of : List ℕ → Data
refusal_of line = cause_of (words_of line)

-- The object of an answer to line n: its tone, its lines, and if it is refused the cause, which the first line has.
abbrev pub object_of : ℕ → Tone → (first : List ℕ) → (lines : List (List ℕ)) → Data
object_of n tones.Refused first lines =
    object (member (codes "answer") (strings lines) (member (codes "line") (number (unsigned n))
    (member (codes "refused") (refusal_of first)
    (member (codes "tone") (string (tone_word tones.Refused)) no_members))))
object_of n given first lines =
    object (member (codes "answer") (strings lines) (member (codes "line") (number (unsigned n))
    (member (codes "tone") (string (tone_word given)) no_members)))

-- the text of this object without blanks, and a line feed; nothing for an answer without lines
abbrev pub json_line : ℕ → Tone → List (List ℕ) → List ℕ
json_line n given [] = []
json_line n given (first ∷ lines) = compact_text (object_of n given first (first ∷ lines)) ++ 10 ∷ []

-- The answer to line n in a form. In JSON U+FFFD stands for bytes that are not UTF-8.
abbrev pub framed : Form → ℕ → Answer → List ℕ
framed forms.Plain n answer = answer.text
framed forms.Json n answer = json_line n answer.tone (lines (utf8_lossy answer.text))

-- the answers to the lines from line n on
abbrev pub frames : Form → ℕ → List Answer → List ℕ
frames form n [] = []
frames form n (answer ∷ answers) = framed form n answer ++ frames form (n + 1) answers
