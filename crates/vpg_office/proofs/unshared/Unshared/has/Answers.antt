use Rattle.std.proofs.Common.{List, ap, ◌∙◌, subst}
use Rattle.vpg_desk.specs.History.{Event}
use Rattle.vpg_office.specs.Fronts.{family_between}
use Rattle.vpg_office.specs.Kept.{IsElsewhere}
use Rattle.vpg_office.proofs.Places.{elsewhere}
use Rattle.vpg_office.proofs.unshared.Unshared.has.Goals as goal

pub returns-in-Err-clause-lacks : goal.returns-in-Err-clause-lacks
returns-in-Err-clause-lacks g c = λ _.
    subst (λ (log : List Event). IsElsewhere g.L.Terms.shelves (family_between g.L.Terms.game g.L.Terms.diagram) log c.args.front.now) (ap (λ u. u.log) c.self-inside.view_is ∙ c.self.view_is)
    (elsewhere g.L.Terms.shelves g.L.Terms.game g.L.Terms.diagram _ _ c.self-inside.invariant.replay.kept c.args.front.now c.in-Err._place c.in-Err.ensures.lacks)
