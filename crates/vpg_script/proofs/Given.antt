-- How an answer is given.
use Rattle.std.proofs.Common.{◌≡◌, ℕ, List, ◌++◌, Result, Ok, Err, refl, sym, ap₂, ◌∙◌, subst}
use Rattle.std.specs.Prelude.{IfOk, OnOk}
use Rattle.vpg_script.specs.Answer.{Answer, Gives, IsDone, done, done_if}
use Rattle.vpg_script.specs.declared.tone.Tone.{Tone}
use Rattle.vpg_script.specs.declared.tone.Tone.TheVariants as tones

pub if_ok : {T E : Type 0} (r : Result T E) (P Q : T → Type 0) → ((value : T) → P value → Q value) → IfOk r P → IfOk r Q
if_ok (Ok value) P Q f p = f value p
if_ok (Err e) P Q f p = tt

-- a text that was appended is the answer to a line that is carried out
pub done_gives : {E : Type 0} (Says : List ℕ → Type 0) (P : Answer → Type 0) → ((answer : Answer) → IsDone Says answer → P answer) → (r : Result (Unit {0}) E) (s : Result Tone E) → s ≡ done_if r →
    (before after : List ℕ) → OnOk r ((text : List ℕ) × (Says text × (after ≡ before ++ text))) → IfOk s (λ tone. Gives P tone before after)
done_gives {E} Says P is r s made before after told = subst (λ (t : Result Tone E). IfOk t (λ tone. Gives P tone before after)) (sym made) (go r told)
  where
    go : (x : Result (Unit {0}) E) → OnOk x ((text : List ℕ) × (Says text × (after ≡ before ++ text))) → IfOk (done_if x) (λ tone. Gives P tone before after)
    go (Ok written) so = (done so.0, (is (done so.0) (refl, so.1.0), (refl, so.1.1)))
    go (Err e) so = tt

-- answers that are done are one if their texts are
pub done_one : (Says Tells : List ℕ → Type 0) (one other : Answer) → (Says one.text → Tells other.text → one.text ≡ other.text) → IsDone Says one → IsDone Tells other → one ≡ other
done_one Says Tells one other same a b = ap₂ (λ (tone : Tone) (text : List ℕ). record { tone = tone; text = text }) (a.0 ∙ sym b.0) (same a.1 b.1)

-- an answer of this tone and this text
pub is_done : (answer : Answer) (text : List ℕ) → answer.tone ≡ tones.Done → answer.text ≡ text → answer ≡ done text
is_done answer text tone_is text_is = ap₂ (λ (tone : Tone) (bytes : List ℕ). record { tone = tone; text = bytes }) tone_is text_is
