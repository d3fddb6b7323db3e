use Rattle.std.proofs.Common.{◌∙◌, map, ap, sym, subst, List, All, arith, Vec, Global}
use Rattle.std.proofs.lemmas.List.Elements.{All-push}
use Rattle.vpg_trail.specs.declared.entry.Entry.{Entry}
use Rattle.vpg_trail.specs.Shown.{entry_of, VertexBelow}
use Rattle.vpg_trail.proofs.Replays.{lifts_some, lifts_none}
use Rattle.vpg_trail.proofs.raise.lifts.Goals as goal
use Rattle.vpg_trail.proofs.raise.lifts.Goals.{then-old-new+in_ok-clone+in_ok-push, else-old-new}

pub loop-vertex-preserved : goal.loop-vertex-preserved
loop-vertex-preserved c = record {
  lifts = λ page e. elim c.if-old-new.branch [
    | then-old-new+in_ok-clone+in_ok-push w ↦ lifts_some c.args.table c.args.present.now c.args.values.now c.args.under.now page c.loop-vertex.lifts.items c.loop-vertex.vertex c.args.vertices e c.loop-vertex-test.true (c.loop-vertex.invariant.lifts page e)
        c.if-old-new.lifts.items _ _ w.in_ok-clone.field-0 w.in_ok-clone.ensures.cases (ap (λ (v : Vec Entry Global). v.items) w.lifts-is ∙ w.in_ok-push.ensures.items) c.get-old.ensures c.get-new.ensures w.if-old-new.true
    | else-old-new w ↦ ap (λ (v : Vec Entry Global). map entry_of v.items) w.lifts-is ∙ lifts_none c.args.table c.args.present.now c.args.values.now c.args.under.now page c.loop-vertex.lifts.items c.loop-vertex.vertex c.args.vertices e c.loop-vertex-test.true (c.loop-vertex.invariant.lifts page e) (omega (arith, w.if-old-new.false, c.get-old.ensures, c.get-new.ensures))
  ];
  vertices = elim c.if-old-new.branch [
    | then-old-new+in_ok-clone+in_ok-push w ↦ subst (λ (l : List Entry). All (λ e. VertexBelow c.args.vertices (entry_of e)) l) (sym (ap (λ (v : Vec Entry Global). v.items) w.lifts-is ∙ w.in_ok-push.ensures.items))
        (All-push (λ e. VertexBelow c.args.vertices (entry_of e)) c.loop-vertex.lifts.items _ c.loop-vertex.invariant.vertices c.loop-vertex-test.true)
    | else-old-new w ↦ subst (λ (v : Vec Entry Global). All (λ e. VertexBelow c.args.vertices (entry_of e)) v.items) (sym w.lifts-is) c.loop-vertex.invariant.vertices
  ];
}
