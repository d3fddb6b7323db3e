use Rattle.std.proofs.Common.{◌∙◌}
use Rattle.vpg_desk.specs.State.{IsOpened}
use Rattle.vpg_office.proofs.office.opened_desk.Goals as goal

pub opening_press-requires-clause-opens : goal.opening_press-requires-clause-opens
opening_press-requires-clause-opens g c = coe 0 1 (k. IsOpened (c.requires.of.0 k) (c.requires.of.1 k)) c.in-Ok.ensures.fits

pub returns-in-Err-opening_press-clause-at_limit : goal.returns-in-Err-opening_press-clause-at_limit
returns-in-Err-opening_press-clause-at_limit g c = ((λ is. absurd (cc is)), (λ at. absurd (c.in-Ok.ensures.fits.not_at_limit at)))

pub returns-in-Err-opening_press-clause-conflict : goal.returns-in-Err-opening_press-clause-conflict
returns-in-Err-opening_press-clause-conflict g c = λ f is. absurd (cc is)

pub opening_press-requires-clause-of : goal.opening_press-requires-clause-of
opening_press-requires-clause-of g c = ((λ k. (c.of-desk.ensures k).game) ∙ c.in-Ok.ensures.game ∙ c.requires.of.0, (λ k. (c.of-desk.ensures k).diagram) ∙ c.in-Ok.ensures.diagram ∙ c.requires.of.1)
