use Rattle.std.proofs.Common.{List, arith}
use Rattle.std.specs.Prelude.{flat_map}
use Rattle.std.proofs.lemmas.Grind.{common_steps}
use Rattle.vpg_script.specs.declared.look.Claim.{Claim}
use Rattle.vpg_texts.specs.Sights.{failing_text}
use Rattle.vpg_texts.proofs.Pieces.{all_written}
use Rattle.vpg_texts.proofs.sights.failing.Goals as goal

pub loop-c-preserved : goal.loop-c-preserved
loop-c-preserved c = grind (arith, common_steps)

pub returns : goal.returns
returns c =
    all_written (λ (claims : List Claim). flat_map (failing_text c.args.settled c.args.hopeless c.args.sure) claims) c.args.claims.now c.loop-c.c-index c.args.out.now.items c.loop-c.out.items
    c.loop-c-test.false c.loop-c.invariant
