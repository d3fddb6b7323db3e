use Rattle.std.proofs.Common.{◌≡◌, ◌+◌, map, ◌∙◌}
use Rattle.vpg_game.specs.Game.{entry_priorities}
use Rattle.vpg_game.proofs.making.tops.Goals as goal

pub returns : goal.returns
returns c =
    let own : c.deref.result.now ≡ entry_priorities c.args.entries.now = c.deref.ensures.value ∙ c.in_ok-own.ensures.own in
    let dual : c.deref-2.result.now ≡ map (λ p. p + 1) (entry_priorities c.args.entries.now) = c.deref-2.ensures.value ∙ c.in_ok-own.ensures.dual in
    rw (own, dual) at c.tops_of.ensures
