use Rattle.std.proofs.Common.{ℕ, ◌+◌, List, take, get_or, subst}
use Rattle.std.proofs.lemmas.List.{take_more, take_all}
use Rattle.vpg_warnings.specs.Guards.{AreTriedOf}
use Rattle.vpg_warnings.proofs.Refuted.{tried_none, tried_next}
use Rattle.vpg_warnings.proofs.guards.tried_of.Goals as goal

pub loop-feature-init : goal.loop-feature-init
loop-feature-init c = rw c.new-features.ensures.items tried_none

pub loop-feature-preserved : goal.loop-feature-preserved
loop-feature-preserved c =
    tried_next c.args.named.now (take c.loop-feature.feature-index c.args.named.now) (take (c.loop-feature.feature-index + 1) c.args.named.now) c.loop-feature.features.items c.note.new.features.items
    (get_or c.args.named.now c.loop-feature.feature-index 0) (take_more c.args.named.now c.loop-feature.feature-index 0 c.loop-feature-test.true) c.loop-feature.invariant c.in_ok-note.ensures

pub returns : goal.returns
returns c =
    subst (λ (names : List ℕ). AreTriedOf names c.loop-feature.features.items) (take_all c.loop-feature.feature-index c.args.named.now c.loop-feature-test.false) c.loop-feature.invariant
