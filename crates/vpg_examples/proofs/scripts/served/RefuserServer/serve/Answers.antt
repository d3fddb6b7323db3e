use Rattle.std.proofs.Common.{refl}
use Rattle.vpg_script.specs.declared.tone.Tone.TheVariants as tones
use Rattle.vpg_examples.proofs.scripts.served.RefuserServer.serve.Goals as goal

pub returns-clause-answer : goal.returns-clause-answer
returns-clause-answer g c = (
  record { tone = tones.Refused; text = c.in_ok-refusal.field-0.now },
  (refl, (refl, c.in_ok-extend_from_slice.ensures.items)),
)
