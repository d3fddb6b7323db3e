use Rattle.std.proofs.Common.{Bool, List, sym, subst}
use Rattle.vpg_written.proofs.Values.{set_by_adding, set_kept}
use Rattle.vpg_written.specs.Terms.{AreSets, IsSetBy}
use Rattle.vpg_written.specs.Actions.{AreActions}
use Rattle.vpg_written.proofs.sets.set_by_mark.Goals as goal

pub returns-in-Known : goal.returns-in-Known
returns-in-Known c = λ actions are. let a = c.in_ok-number.ensures actions (subst (λ (ss : List (List Bool)). AreSets c.args.system.now.actions ss actions) (sym c.as_slice.ensures.value) are) in
    let x = subst (AreActions c.args.system.now.actions c.args.mark.now actions c.args.first c.args.second) c.in-Known.is a in
    set_kept c.args.system.now.actions c.args.sets.now.items actions are c.args.mark.now c.args.first c.args.second c.in-Known.number x.0 x.1

pub returns-in_ok-added-in-New : goal.returns-in_ok-added-in-New
returns-in_ok-added-in-New c = λ actions are. let a = c.in_ok-number.ensures actions (subst (λ (ss : List (List Bool)). AreSets c.args.system.now.actions ss actions) (sym c.as_slice.ensures.value) are) in
    let x = subst (AreActions c.args.system.now.actions c.args.mark.now actions c.args.first c.args.second) c.in-New.is a in
    let e = c.in_ok-added-in-New.ensures in
    subst (λ (ss : List (List Bool)). IsSetBy c.args.system.now.actions c.args.mark.now actions c.args.first c.args.second ss c.in_ok-added-in-New.field-0) (sym e.1)
    (set_by_adding c.args.system.now.actions c.args.sets.now.items actions are c.args.mark.now c.args.first c.args.second c.in-New.set x.formula c.in_ok-added-in-New.field-0 x.set_is e.0 x.is)
