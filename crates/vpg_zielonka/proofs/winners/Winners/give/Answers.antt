use Rattle.std.proofs.Common.{length, refl}
use Rattle.vpg_sides.specs.declared.player.Player.TheVariants.{Even, Odd}
use Rattle.vpg_zielonka.proofs.Giving.{others_stay}
use Rattle.vpg_zielonka.proofs.winners.Winners.give.Goals as goal

pub returns-in_ok-self-in-Even-clause-others : goal.returns-in_ok-self-in-Even-clause-others
returns-in_ok-self-in-Even-clause-others c = others_stay c.args.sets.now c.joined.new.sets
    c.in_ok-self-in-Even.ensures.grown (length c.args.more.now) c.args.self.now
    (record { won = c.in_ok-self-in-Even.field-0; lost = c.args.self.now.lost }) c.requires.sets c.args.player Even
    c.in-Even.is refl

pub returns-in_ok-self-in-Odd-clause-others : goal.returns-in_ok-self-in-Odd-clause-others
returns-in_ok-self-in-Odd-clause-others c = others_stay c.args.sets.now c.joined-in-Odd.new.sets
    c.in_ok-self-in-Odd.ensures.grown (length c.args.more.now) c.args.self.now
    (record { won = c.args.self.now.won; lost = c.in_ok-self-in-Odd.field-0 }) c.requires.sets c.args.player Odd
    c.in-Odd.is refl
