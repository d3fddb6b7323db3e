-- What was written is the answer to a look.
use Rattle.std.proofs.Common.{◌≡◌, ℕ, List, ◌++◌, Result}
use Rattle.std.specs.Prelude.{IfOk, OnOk}
use Rattle.vpg_script.specs.Answer.{Gives, IsDone, done_if}
use Rattle.vpg_script.specs.declared.tone.Tone.{Tone}
use Rattle.vpg_script.proofs.Given.{done_gives}
use Rattle.vpg_texts.proofs.Shown.{on_ok}
use Rattle.vpg_looks.specs.Answers.{Appends}

-- a text that was appended is the answer to a look that is done
pub told_done : {E : Type 0} (Says : List ℕ → Type 0) (r : Result (Unit {0}) E) (s : Result Tone E) → s ≡ done_if r → (before after : List ℕ) → OnOk r (Appends Says before after) →
    IfOk s (λ tone. Gives (IsDone Says) tone before after)
told_done Says r s made before after told = done_gives Says (IsDone Says) (λ answer is. is) r s made before after told

module _ {E : Type 0} (Says : List ℕ → Type 0) (text : List ℕ) (says : Says text) (r : Result (Unit {0}) E) where
  -- a text of this property
  pub appends : (before after : List ℕ) → OnOk r (after ≡ before ++ text) → OnOk r (Appends Says before after)
  appends before after told = on_ok r _ _ (λ appended. (text, (says, appended))) told

  -- so it is the answer to a look that is done
  pub told_text : (s : Result Tone E) → s ≡ done_if r → (before after : List ℕ) → OnOk r (after ≡ before ++ text) →
      IfOk s (λ tone. Gives (IsDone Says) tone before after)
  told_text s made before after told = told_done Says r s made before after (appends before after told)
