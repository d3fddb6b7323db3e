use Rattle.std.proofs.Common.{◌<◌, ℕ, Option, length, subst, arith}
use Rattle.std.specs.Prelude.{IfSome}
use Rattle.std.proofs.lemmas.Grind.{common_steps}
use Rattle.vpg_texts.proofs.text.plan_line.Goals as goal

pub identifier-requires-in-Some : goal.identifier-requires-in-Some
identifier-requires-in-Some c = subst (λ (w : Option ℕ). IfSome w (λ w. w < length c.args.game.now.vertices)) c.in-Some.is c.requires.w

pub returns-in_ok-push-in-Some : goal.returns-in_ok-push-in-Some
returns-in_ok-push-in-Some c = grind (arith, common_steps)
