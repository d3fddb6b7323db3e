use Rattle.std.proofs.lemmas.Grind.{common_steps}
use Rattle.std.proofs.Common.{arith, ◌∙◌}
use Rattle.vpg_desk.specs.State.{IsOpened}
use Rattle.vpg_office.proofs.office.Shared+Row+L+Log+L.open.Goals as goal

pub returns-in-Ok-opened_desk-clause-fits : goal.returns-in-Ok-opened_desk-clause-fits
returns-in-Ok-opened_desk-clause-fits g c = coe 0 1 (k. IsOpened (c.requires.of.0 k) (c.requires.of.1 k)) c.in-Ok-opened_desk.ensures.fits

pub open-log-requires-clause-opens : goal.open-log-requires-clause-opens
open-log-requires-clause-opens g c = coe 0 1 (k. IsOpened (c.requires.of.0 k) (c.requires.of.1 k)) c.in-Ok-opened_desk.ensures.fits

pub open-log-requires-clause-of : goal.open-log-requires-clause-of
open-log-requires-clause-of g c = (c.in-Ok-opened_desk.ensures.game ∙ c.requires.of.0, c.in-Ok-opened_desk.ensures.diagram ∙ c.requires.of.1)

pub open-book-requires-clause-name : goal.open-book-requires-clause-name
open-book-requires-clause-name g c = (λ k. (c.site.view_is k).name) ∙ c.requires.site.1

pub open-book-requires-clause-parts : goal.open-book-requires-clause-parts
open-book-requires-clause-parts g c = (λ k. (c.site.view_is k).parts) ∙ c.requires.site.2

pub of-purse-requires : goal.of-purse-requires
of-purse-requires g c = grind (arith, common_steps)

pub invariant_of-result : goal.invariant_of-result
invariant_of-result g c = grind (arith, common_steps)

pub returns-in_default-clause-at_limit : goal.returns-in_default-clause-at_limit
returns-in_default-clause-at_limit g c = c.memory_fault.ensures.at_limit

pub returns-in_default-clause-conflict : goal.returns-in_default-clause-conflict
returns-in_default-clause-conflict g c = λ f is. absurd (c.memory_fault.ensures.conflict f is)
