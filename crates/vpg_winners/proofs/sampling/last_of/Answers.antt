use Rattle.std.proofs.lemmas.List.Elements.{All-from_recursion, All-pop}
use Rattle.vpg_why.specs.Found.{IsFoundProduct}
use Rattle.vpg_why.specs.declared.searching.Example.{Example}
use Rattle.vpg_winners.proofs.sampling.last_of.Goals as goal

pub returns : goal.returns
returns c game diagram aim own are =
    (All-pop (λ (e : Example). IsFoundProduct game diagram aim own e.features.items e.first) c.args.found.items
    c.pop.new.self.items c.pop.result c.pop.ensures.items
    (All-from_recursion (λ (e : Example). IsFoundProduct game diagram aim own e.features.items e.first)
    c.args.found.items are)).1
