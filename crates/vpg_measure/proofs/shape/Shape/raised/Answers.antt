use Rattle.std.proofs.Common.{◌≡◌, ◌∙◌, List, ap, subst, IfOk}
use Rattle.vpg_game.specs.declared.levels.Level.{Level}
use Rattle.vpg_game.specs.Levels.{levels_of}
use Rattle.vpg_measure.proofs.shape.Shape.raised.Goals as goal

pub over-requires : goal.over-requires
over-requires c = rw c.deref.ensures.value c.in_ok-priorities.ensures.limit

pub returns : goal.returns
returns c =
    subst (λ (levels : List Level). IfOk c.over.result (λ shape. shape ≡ levels))
    (ap levels_of (c.deref.ensures.value ∙ c.in_ok-priorities.ensures.priorities))
    c.over.ensures
