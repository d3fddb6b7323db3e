use Rattle.std.proofs.Common.{◌≡◌, ◌<◌, List, subst}
use Rattle.std.proofs.lemmas.List.{take_rest}
use Rattle.vpg_office.specs.Kept.{lines_of}
use Rattle.vpg_office.specs.Story.{lines_by}
use Rattle.vpg_office.specs.declared.asked.LoggedCall.{LoggedCall}
use Rattle.vpg_office.proofs.chronicle.has_call_since.Goals as goal

pub returns-clause-yes : goal.returns-clause-yes
returns-clause-yes c = λ has. subst (λ (ts : List LoggedCall). 0 < lines_by c.args.session (lines_of ts)) (take_rest c.args.told.now c.args.seen) (c.has_call_of.ensures.yes has)

pub returns-clause-no : goal.returns-clause-no
returns-clause-no c = λ none. subst (λ (ts : List LoggedCall). lines_by c.args.session (lines_of ts) ≡ 0) (take_rest c.args.told.now c.args.seen) (c.has_call_of.ensures.no none)
