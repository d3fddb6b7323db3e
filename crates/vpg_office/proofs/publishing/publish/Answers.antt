use Rattle.std.proofs.Common.{◌≡◌, List, sym, ◌∙◌, subst}
use Rattle.std.specs.Arc.{arc_value}
use mathlib.Core.List.{IsPrefix}
use Rattle.vpg_desk.specs.History.{Event}
use Rattle.vpg_office.specs.Beginnings.{itself}
use Rattle.vpg_office.proofs.publishing.publish.Goals as goal

pub returns-in-Ok-clause-begins : goal.returns-in-Ok-clause-begins
returns-in-Ok-clause-begins g c =
    let same : (arc_value c.in_ok-sheet.sheet).front ≡ c.args.newest.now = cc (c.in_ok-sheet.ensures.front) in
    subst (λ (l : List Event). IsPrefix l c.args.newest.now) (sym ((λ k. (c.in-Ok.ensures.shown k).front) ∙ same)) (itself c.args.newest.now)

pub returns-in-Err-clause-begins : goal.returns-in-Err-clause-begins
returns-in-Err-clause-begins g c = coe 0 1 (k. IsPrefix ((sym c.in-Err.ensures.same) k).front c.args.newest.now) c.requires.grows
