use Rattle.std.proofs.Common.{sym, ◌∙◌}
use Rattle.vpg_office.proofs.work.with_site.Goals as goal

pub work-requires-clause-of : goal.work-requires-clause-of
work-requires-clause-of g c = c.requires.owners

pub work-requires-clause-room : goal.work-requires-clause-room
work-requires-clause-room g c = sym c.requires.room.0 ∙ sym c.requires.counts_on

pub returns-in-Err-clause-at_limit : goal.returns-in-Err-clause-at_limit
returns-in-Err-clause-at_limit g c = c.in-Err.ensures.at_limit

pub returns-in-Err-clause-conflict : goal.returns-in-Err-clause-conflict
returns-in-Err-clause-conflict g c = c.in-Err.ensures.conflict

pub returns-in-Err-clause-game_back : goal.returns-in-Err-clause-game_back
returns-in-Err-clause-game_back g c = c.in-Err.ensures.game_back

pub returns-in-Err-clause-diagram_back : goal.returns-in-Err-clause-diagram_back
returns-in-Err-clause-diagram_back g c = c.in-Err.ensures.diagram_back
