use Rattle.vpg_office.proofs.log.Calls.refuse.Goals as goal

pub enter-requires-clause-kept : goal.enter-requires-clause-kept
enter-requires-clause-kept g c = c.requires.kept

pub enter-requires-clause-room : goal.enter-requires-clause-room
enter-requires-clause-room g c = c.requires.room

pub enter-requires-clause-place : goal.enter-requires-clause-place
enter-requires-clause-place g c = c.requires.place

pub enter-requires-clause-fits : goal.enter-requires-clause-fits
enter-requires-clause-fits g c = c.requires.fits

pub enter-requires-clause-few : goal.enter-requires-clause-few
enter-requires-clause-few g c = c.requires.few
