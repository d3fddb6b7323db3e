use Rattle.std.proofs.Common.{◌∙◌}
use Rattle.vpg_winners.proofs.Samples.{own_listed}
use Rattle.vpg_winners.proofs.sampling.some_of.Goals as goal

pub returns-clause-each : goal.returns-clause-each
returns-clause-each c =
    own_listed c.args.sets.now c.of_products.new.self c.and.new.self c.args.set c.in_ok-drawn.drawn c.in_ok-own.own
    c.requires c.in_ok-drawn.ensures.grown c.in_ok-own.ensures.set c.and.new.self.features c.args.sets.now.features
    (c.in_ok-own.ensures.grown.features ∙ c.in_ok-drawn.ensures.grown.features) c.in_ok-found.found.items
    c.in_ok-found.ensures.each
