use Rattle.std.proofs.Common.{◌+◌, ◌∙◌, ap, get_or, length, arith}
use Rattle.std.proofs.lemmas.List.{get_or_default, length_push}
use Rattle.vpg_parts.specs.declared.part.Part.TheVariants.{False}
use Rattle.vpg_parts.specs.declared.symbol.Symbol.TheVariants.{True}
use Rattle.vpg_normal.specs.Placing.{part_of}
use Rattle.vpg_normal.proofs.Sizes.{size_fits}
use Rattle.vpg_normal.proofs.Passes.{pushed}
use Rattle.vpg_normal.proofs.arena.parts.Goals as goal

pub part-requires : goal.part-requires
part-requires c = omega (arith, size_fits c.args.symbols.now c.args.sizes.now (c.loop-place.place + 1) c.requires.sizes, c.loop-place-test.true, c.requires.few)

pub loop-place-preserved : goal.loop-place-preserved
loop-place-preserved c =
    let place = c.loop-place.place in
    let parts = c.loop-place.parts.items in record {
      count = ap length c.in_ok-push.ensures.items ∙ length_push parts c.part.result ∙ ap (λ n. n + 1) c.loop-place.invariant.count;
      each = λ k l. rw c.in_ok-push.ensures.items (pushed (λ j. part_of c.args.sizes.now c.args.fixpoints.now c.args.priorities.now j (get_or c.args.symbols.now j True)) parts False c.part.result place c.loop-place.invariant.count
          (c.part.ensures ∙ ap (part_of c.args.sizes.now c.args.fixpoints.now c.args.priorities.now place) (get_or_default c.args.symbols.now place _ True c.loop-place-test.true)) c.loop-place.invariant.each k l);
    }
