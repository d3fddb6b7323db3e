use Rattle.std.proofs.Common.{◌≡◌, subst, List}
use Rattle.std.specs.Prelude.{IfOk}
use Rattle.vpg_sides.specs.declared.verdict.Verdict.{Verdict}
use Rattle.vpg_texts.proofs.Differing.{verdicts_are}
use Rattle.vpg_texts.proofs.showing.changes.verdicts_by.Goals as goal

pub returns : goal.returns
returns c =
    subst (λ (all : List Verdict). IfOk c.verdicts.result (λ verdicts. verdicts.items ≡ all)) (verdicts_are c.args.game.now c.args.games.now c.requires.levels c.args.hopeful.now c.args.dual.now) c.verdicts.ensures
