use Rattle.std.proofs.Common.{◌≡◌, ◌+◌, ◌-◌, ◌++◌, ◌∙◌, ◌∷◌, [], List, All, sym, ap, subst, map, take, drop, length, Some, None, Vec, Global, filter, rules}
use Rattle.std.proofs.lemmas.List.Elements.{All-push}
use Rattle.vpg_trail.specs.Page.{Hopeful, Dual, table_of, reset_all}
use Rattle.vpg_trail.specs.declared.entry.Entry.{Entry}
use Rattle.vpg_trail.specs.Shown.{entry_of, VertexBelow, keeps}
use Rattle.vpg_trail.specs.WellFormed.{LiftsStandAfter}
use Rattle.vpg_trail.proofs.Lifting.{stays_standing}
use Rattle.vpg_trail.proofs.Replays.{kept_none, kept_some, kept_table, vertex_read, some_vertex, told_stays, below_table, below_page}
use Rattle.vpg_trail.proofs.retract.staying_after.Goals as goal
use Rattle.vpg_trail.proofs.retract.staying_after.Goals.{in-Some+in_ok-push, in_default}

pub reset_entry-requires-clause-hopeful : goal.reset_entry-requires-clause-hopeful
reset_entry-requires-clause-hopeful c =
    below_table Hopeful (map entry_of (take c.args.place c.args.entries.now) ++ map entry_of c.loop-entry.kept.items) c.args.vertices c.loop-entry.hopeful (entry_of c.entry-item.result) c.loop-entry.invariant.hopeful
    (vertex_read c.args.vertices c.args.entries.now (length c.args.entries.now - (c.args.place + 1)) (c.args.place + 1) c.loop-entry.entry-index c.entry-item.result c.requires.vertices c.loop-entry-test.true c.entry-item.is)

pub reset_entry-requires-clause-dual : goal.reset_entry-requires-clause-dual
reset_entry-requires-clause-dual c =
    below_table Dual (map entry_of (take c.args.place c.args.entries.now) ++ map entry_of c.loop-entry.kept.items) c.args.vertices c.loop-entry.dual (entry_of c.entry-item.result) c.loop-entry.invariant.dual
    (vertex_read c.args.vertices c.args.entries.now (length c.args.entries.now - (c.args.place + 1)) (c.args.place + 1) c.loop-entry.entry-index c.entry-item.result c.requires.vertices c.loop-entry-test.true c.entry-item.is)

pub loop-entry-preserved : goal.loop-entry-preserved
loop-entry-preserved c =
    let n = c.args.vertices in
    let before = map entry_of (take c.args.place c.args.entries.now) in
    let later = take (length c.args.entries.now - (c.args.place + 1)) (drop (c.args.place + 1) c.args.entries.now) in
    let x : VertexBelow c.args.vertices (entry_of c.entry-item.result) = vertex_read n c.args.entries.now (length c.args.entries.now - (c.args.place + 1)) (c.args.place + 1) c.loop-entry.entry-index c.entry-item.result c.requires.vertices c.loop-entry-test.true c.entry-item.is in
    elim c.match-branch-4.branch [
      | in-Some+in_ok-push w ↦ (
          let stays = w.in-Some.stays in
          let vertex : VertexBelow c.args.vertices (entry_of w.in-Some.stays) = below_page Hopeful (before ++ map entry_of c.loop-entry.kept.items) n c.loop-entry.hopeful (entry_of stays) c.loop-entry.invariant.hopeful
          (some_vertex (λ e. VertexBelow (length c.loop-entry.hopeful) (entry_of e)) c.in_ok-stays.field-0 stays w.in-Some.is c.in_ok-stays.ensures.hopeful) in
          let pushed : c.match-branch-4.kept.items ≡ c.loop-entry.kept.items ++ w.in-Some.stays ∷ [] = ap (λ (v : Vec Entry Global). v.items) w.kept-is ∙ w.in_ok-push.ensures.items in
          record {
            items = c.loop-entry.invariant.items;
            hopeful = w.hopeful-is ∙ kept_table Hopeful n before c.loop-entry.kept.items c.loop-entry.hopeful w.take_in.new.hopeful stays c.loop-entry.invariant.hopeful w.take_in.ensures.hopeful vertex ∙ ap (λ (l : List Entry). table_of Hopeful (map entry_of (take c.args.place c.args.entries.now) ++ map entry_of l) c.args.vertices) (sym pushed);
            dual = w.dual-is ∙ kept_table Dual n before c.loop-entry.kept.items c.loop-entry.dual w.take_in.new.dual stays c.loop-entry.invariant.dual w.take_in.ensures.dual vertex ∙ ap (λ (l : List Entry). table_of Dual (map entry_of (take c.args.place c.args.entries.now) ++ map entry_of l) c.args.vertices) (sym pushed);
            kept = ap (map entry_of) pushed ∙ kept_some c.args.feature n before later c.loop-entry.kept.items c.loop-entry.hopeful c.loop-entry.dual c.loop-entry.entry-index c.entry-item.result c.loop-entry-test.true c.entry-item.is
                c.loop-entry.invariant.hopeful c.loop-entry.invariant.dual c.loop-entry.invariant.kept x stays (told_stays c.in_ok-stays.field-0 (Some stays) _ c.in_ok-stays.ensures.stays w.in-Some.is);
            vertices = subst (λ (l : List Entry). All (λ e. VertexBelow c.args.vertices (entry_of e)) l) (sym pushed) (All-push (λ e. VertexBelow c.args.vertices (entry_of e)) c.loop-entry.kept.items stays c.loop-entry.invariant.vertices vertex);
          })
      | in_default w ↦ record {
        items = c.loop-entry.invariant.items;
        hopeful = w.hopeful-is ∙ c.loop-entry.invariant.hopeful ∙ ap (λ (v : Vec Entry Global). table_of Hopeful (map entry_of (take c.args.place c.args.entries.now) ++ map entry_of v.items) c.args.vertices) (sym w.kept-is);
        dual = w.dual-is ∙ c.loop-entry.invariant.dual ∙ ap (λ (v : Vec Entry Global). table_of Dual (map entry_of (take c.args.place c.args.entries.now) ++ map entry_of v.items) c.args.vertices) (sym w.kept-is);
        kept = ap (λ (v : Vec Entry Global). map entry_of v.items) w.kept-is ∙ kept_none c.args.feature n before later c.loop-entry.kept.items c.loop-entry.hopeful c.loop-entry.dual c.loop-entry.entry-index c.entry-item.result c.loop-entry-test.true c.entry-item.is
            c.loop-entry.invariant.hopeful c.loop-entry.invariant.dual c.loop-entry.invariant.kept x (told_stays c.in_ok-stays.field-0 None _ c.in_ok-stays.ensures.stays w.in_default.is);
        vertices = subst (λ (v : Vec Entry Global). All (λ e. VertexBelow c.args.vertices (entry_of e)) v.items) (sym w.kept-is) c.loop-entry.invariant.vertices;
      }
    ]

pub returns-clause-lifts : goal.returns-clause-lifts
returns-clause-lifts c w =
    let before = map entry_of (take c.args.place c.args.entries.now) in
    let kept : map entry_of c.loop-entry.kept.items ≡ reset_all before (filter (keeps c.args.feature) (map entry_of (drop (c.args.place + 1) c.args.entries.now))) = search rules in
    subst (LiftsStandAfter before) (sym kept) (stays_standing (keeps c.args.feature) c.args.place c.args.entries.now c.requires.place w)
