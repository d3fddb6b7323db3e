use Rattle.std.proofs.lemmas.Grind.{common_steps}
use Rattle.std.proofs.Common.{Err, map, ap, arith}
use Rattle.vpg_diagram.specs.Clauses.{clauses_of, counts_of}
use Rattle.vpg_partial.specs.Known.{literal_of}
use Rattle.vpg_partial.proofs.KnownLemmas.{conflict_named}
use Rattle.vpg_why.proofs.asking.games_with.Goals as goal

pub updated-requires-clause-held : goal.updated-requires-clause-held
updated-requires-clause-held c = (map literal_of c.args.order.now.decisions, rw (c.deref.ensures, c.deref-2.ensures, c.deref-3.ensures, c.game.ensures.game, c.diagram.ensures.diagram) c.games.ensures)

pub returns-in-Err-Conflict-clause-conflict : goal.returns-in-Err-Conflict-clause-conflict
returns-in-Err-Conflict-clause-conflict c e =
    let lines = c.args.order.now.diagram.lines in
    conflict_named (clauses_of lines) (counts_of lines) (map literal_of c.args.decisions.now) c.in-Err-Conflict.field-0-0
    (rw (c.deref-3.ensures, c.diagram.ensures.diagram) at (c.in-Err-Conflict.ensures.conflict c.in-Err-Conflict.field-0-0 (ap Err c.in-Err-Conflict.field-0-is)))

pub returns-in-Ok-clause-games : goal.returns-in-Ok-clause-games
returns-in-Ok-clause-games c = grind (arith, common_steps)

pub returns-in-Ok-clause-conflict : goal.returns-in-Ok-clause-conflict
returns-in-Ok-clause-conflict c = grind (arith, common_steps)

pub updated-requires-clause-named : goal.updated-requires-clause-named
updated-requires-clause-named c = grind (arith, common_steps)

pub unreachable-requires : goal.unreachable-requires
unreachable-requires c = grind (arith, common_steps)
