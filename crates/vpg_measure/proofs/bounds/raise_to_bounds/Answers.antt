use Rattle.std.proofs.Common.{length, arith}
use Rattle.std.proofs.lemmas.Grind.{common_steps}
use Rattle.vpg_game.specs.Levels.{top_of}
use Rattle.vpg_measure.proofs.RaisedTables.{greater_within, greater_above, greater_reaches, greater_below}
use Rattle.vpg_measure.proofs.Supported.{supported_below}
use Rattle.vpg_measure.proofs.bounds.raise_to_bounds.Goals as goal

pub returns-clause-table : goal.returns-clause-table
returns-clause-table c = record {
  len = c.raise_all.ensures.length;
  within = greater_within (length c.args.arena.now) c.args.table.now c.args.certificate.now.bounds c.raise_all.new.table c.requires.table.len c.requires.bounds.len c.raise_all.ensures.length c.raise_all.ensures.values
      (top_of c.args.shape.now) c.requires.table.within c.requires.bounds.within;
}

pub returns-clause-above : goal.returns-clause-above
returns-clause-above c = greater_above (length c.args.arena.now) c.args.table.now c.args.certificate.now.bounds c.raise_all.new.table c.requires.table.len c.requires.bounds.len c.raise_all.ensures.length c.raise_all.ensures.values

pub returns-clause-reached : goal.returns-clause-reached
returns-clause-reached c = λ t. greater_reaches (length c.args.arena.now) c.args.table.now c.args.certificate.now.bounds c.raise_all.new.table c.requires.table.len c.requires.bounds.len c.raise_all.ensures.length c.raise_all.ensures.values

pub returns-clause-below : goal.returns-clause-below
returns-clause-below c = λ other o p h. greater_below (length c.args.arena.now) c.args.table.now c.args.certificate.now.bounds c.raise_all.new.table c.requires.table.len c.requires.bounds.len c.raise_all.ensures.length c.raise_all.ensures.values
    other h
    (supported_below c.args.shape.now c.args.dual_shape.now c.args.arena.now c.args.table.now c.args.certificate.now.bounds c.args.certificate.now.ranks other
    (c.are_supported.ensures.closed c.if-not-are_supported.false) c.requires.table c.requires.bounds c.requires.ranks (c.are_supported.ensures.supported.0 c.if-not-are_supported.false) o p h)

pub returns-clause-raised : goal.returns-clause-raised
returns-clause-raised c = grind (arith, common_steps)
