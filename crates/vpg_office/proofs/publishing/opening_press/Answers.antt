use Rattle.std.proofs.Common.{◌∙◌}
use Rattle.vpg_office.proofs.publishing.opening_press.Goals as goal

pub returns-in-Ok-clause-press : goal.returns-in-Ok-clause-press
returns-in-Ok-clause-press g c = (λ k. (c.in-Ok.ensures.shown k).front) ∙ c.in_ok-sheet.ensures.front ∙ c.empty.ensures
