use Rattle.std.proofs.Common.{List, [], ◌∷◌, ◌++◌, sym, subst}
use Rattle.vpg_written.specs.Parsing.{AreStacked, reduced, arity, IsMade}
use Rattle.vpg_written.specs.declared.piece.Piece.{Piece}
use Rattle.vpg_written.proofs.Parsing.{none_made, mark_made, all_made}
use Rattle.vpg_written.proofs.terms.pieces.Goals as goal

pub loop-mark-init : goal.loop-mark-init
loop-mark-init c = λ actions sets. none_made c.args.system.now.actions actions _ _ c.new-pieces.ensures.items sets

pub loop-mark-preserved : goal.loop-mark-preserved
loop-mark-preserved c = λ actions sets. mark_made c.args.system.now.actions actions c.args.marks.now c.loop-mark.mark-index c.mark-item.result _ _ _ _ c.in_ok-piece.piece c.loop-mark-test.true c.mark-item.is (c.loop-mark.invariant actions sets)
    (λ acts ts a b. subst (λ (ps : List Piece). IsMade c.args.system.now.actions acts (reduced (arity c.mark-item.result) c.mark-item.result ts) c.made.new.sets.items (ps ++ c.in_ok-piece.piece ∷ [])) c.as_slice.ensures.value
    (c.in_ok-piece.ensures acts ts a (subst (AreStacked c.args.system.now.actions acts ts) (sym c.as_slice.ensures.value) b))) c.in_ok-push.ensures.items

pub returns : goal.returns
returns c = λ actions sets. all_made c.args.system.now.actions actions c.args.marks.now c.loop-mark.mark-index _ _ c.loop-mark-test.false (c.loop-mark.invariant actions sets)
