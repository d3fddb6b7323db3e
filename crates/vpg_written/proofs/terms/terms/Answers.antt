use Rattle.std.proofs.Common.{ℕ, List, [], subst, arith}
use Rattle.vpg_written.specs.Parsing.{parsed, IsMade}
use Rattle.vpg_written.specs.Entries.{AreMade}
use Rattle.vpg_formula.specs.declared.mark.Mark.{Mark}
use Rattle.vpg_written.proofs.Whole.{none_made_yet, one_made_more}
use Rattle.vpg_written.proofs.terms.terms.Goals as goal

pub loop-entry-init : goal.loop-entry-init
loop-entry-init c = λ actions sets. none_made_yet c.args.system.now.actions actions c.args.entries.now _ _ c.new-terms.ensures.items sets

pub loop-entry-preserved : goal.loop-entry-preserved
loop-entry-preserved c = λ actions sets. one_made_more c.args.system.now.actions actions c.args.entries.now c.loop-entry.entry-index _ _ _ _ c.entry-item.result _ c.loop-entry-test.true c.entry-item.is (c.loop-entry.invariant actions sets)
    (λ acts a. subst (λ (ms : List Mark). IsMade c.args.system.now.actions acts (parsed [] ms) c.pieces.new.sets.items c.in_ok-pieces.pieces.items) c.as_slice.ensures.value (c.in_ok-pieces.ensures acts a)) c.as_bytes.ensures c.in_ok-push.ensures.items

pub returns : goal.returns
returns c = λ actions sets. subst (λ (n : ℕ). AreMade c.args.system.now.actions actions c.args.entries.now n c.loop-entry.sets.items c.loop-entry.terms.items) (omega arith) (c.loop-entry.invariant actions sets)
