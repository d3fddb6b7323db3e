use Rattle.std.proofs.lemmas.Grind.{common_steps}
use Rattle.std.proofs.Common.{rules, ◌↔◌, IsTrue, length, arith}
use Rattle.vpg_guards.specs.Known.{AreAllKnown}
use Rattle.vpg_partial.proofs.OneProduct.{full_by_table}
use Rattle.vpg_partial.proofs.partial.Partial.is_full.Goals as goal

pub returns-clause-full : goal.returns-clause-full
returns-clause-full c =
    let full : IsTrue c.all.result ↔ AreAllKnown (length c.args.self.now) c.args.self.now = search rules in
    λ lines choices table. full_by_table lines choices c.args.self.now c.all.result full table

pub returns-clause-known : goal.returns-clause-known
returns-clause-known c = grind (arith, common_steps)
