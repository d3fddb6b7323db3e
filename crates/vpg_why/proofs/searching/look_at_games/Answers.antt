use Rattle.std.proofs.Common.{List, sym, subst}
use Rattle.vpg_guards.specs.declared.tri.Tri.{Tri}
use Rattle.vpg_why.specs.Explained.{choices}
use Rattle.vpg_why.specs.Suffices.{IsTopUnder, IsLowUnder}
use Rattle.vpg_why.proofs.searching.look_at_games.Goals as goal

pub is_top_within-requires-clause-games : goal.is_top_within-requires-clause-games
is_top_within-requires-clause-games c = (choices c.args.decisions.now, c.requires.games)

pub outlook_under-requires-clause-yes : goal.outlook_under-requires-clause-yes
outlook_under-requires-clause-yes c e = subst (λ (k : List Tri). IsTopUnder c.args.order.now.game c.args.which c.args.vertex k) (sym c.known.ensures) (c.in_ok-shown.ensures.yes e)

pub returns-clause-settled : goal.returns-clause-settled
returns-clause-settled c s =
    c.in_ok-found.ensures.settled (c.in_ok-shown.ensures.settled (s c.args.games.now.known c.requires.games.known))

pub outlook_under-requires-clause-no : goal.outlook_under-requires-clause-no
outlook_under-requires-clause-no c e = subst (λ (k : List Tri). IsLowUnder c.args.order.now.game c.args.which c.args.vertex k) (sym c.known.ensures) (c.in_ok-shown.ensures.low e)
