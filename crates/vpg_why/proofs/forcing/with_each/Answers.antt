use Rattle.std.proofs.Common.{false, List, ◌++◌, refl, sym, ap, ◌∙◌, append-nil}
use Rattle.std.proofs.lemmas.List.{take_all}
use Rattle.vpg_diagram.specs.declared.clause.Literal.{Literal}
use Rattle.vpg_partial.specs.declared.decision.Decision.{Decision}
use Rattle.vpg_why.specs.Explained.{choices}
use Rattle.vpg_why.proofs.Beside.{pushed}
use Rattle.vpg_why.proofs.forcing.with_each.Goals as goal

pub loop-literal-init : goal.loop-literal-init
loop-literal-init c = ap (λ (ds : List Decision). choices ds) c.in_ok-more.ensures.items ∙ sym (append-nil (choices c.args.decisions.now))

pub loop-literal-preserved : goal.loop-literal-preserved
loop-literal-preserved c =
    pushed c.args.literals.now (choices c.args.decisions.now) c.loop-literal.literal-index (record { feature = 0; value = false }) c.loop-literal.more.items _ _ c.loop-literal-test.true refl c.in_ok-push.ensures.items c.loop-literal.invariant

pub returns : goal.returns
returns c = c.loop-literal.invariant ∙ ap (λ (ls : List Literal). choices c.args.decisions.now ++ ls) (take_all c.loop-literal.literal-index c.args.literals.now c.loop-literal-test.false)
