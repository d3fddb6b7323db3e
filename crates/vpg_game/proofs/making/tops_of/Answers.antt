use Rattle.std.proofs.Common.{refl, ap₂}
use Rattle.vpg_game.proofs.Made.{none_not, top_found}
use Rattle.vpg_game.proofs.making.tops_of.Goals as goal

pub returns-in_default : goal.returns-in_default
returns-in_default c both = none_not _ _ _ c.in_default.is c.in_ok-top.ensures both.0

pub returns : goal.returns
returns c =
    let own = top_found _ c.in-Some.top c.args.own.now c.args.own.now c.in-Some.is c.in_ok-top.ensures refl in
    let dual = top_found _ c.in-Some-2.dual_top c.args.dual.now c.args.dual.now c.in-Some-2.is c.in_ok-dual_top.ensures refl in
    ((own.0, dual.0), ap₂ (λ x y. (x, y)) own.1 dual.1)
