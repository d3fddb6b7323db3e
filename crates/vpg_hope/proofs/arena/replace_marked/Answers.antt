use Rattle.std.proofs.lemmas.Grind.{common_steps}
use Rattle.std.proofs.Common.{◌≡◌, ◌+◌, ◌<◌, ◌≤◌, false, length, refl, sym, ap, subst, ◌∙◌, arith}
use Rattle.std.specs.Arc.{arc_slice_items}
use Rattle.vpg_features.proofs.Noted.{any_default}
use Rattle.vpg_game.specs.Game.{graph_of}
use Rattle.vpg_hope.specs.Arena.{row_vertices}
use Rattle.vpg_hope.proofs.Selected.{room_at}
use Rattle.vpg_hope.proofs.Drafts.{IsDraft, vertices_count, draft_begun, draft_replaced, draft_left, draft_done}
use Rattle.vpg_hope.proofs.arena.replace_marked.Goals as goal
use Rattle.vpg_hope.proofs.arena.replace_marked.Goals.{then-marks-v+in_ok-one+in_ok-two, else-marks-v}

both_are : {X Y : Type 0} (P : X → Y → Type 0) {x x' : X} {y y' : Y} → x' ≡ x → y' ≡ y → P x y → P x' y'
both_are P {x} {x'} {y} {y'} ex ey h = subst (λ a. P a y') (sym ex) (subst (λ b. P x b) (sym ey) h)

pub push_row-requires-clause-room : goal.push_row-requires-clause-room
push_row-requires-clause-room c =
    let game = c.args.game.now in
    let less : c.loop-v.v < length game.vertices = omega (arith, c.loop-v-test.true, c.vertices-v-end.ensures.count) in
    omega (arith, room_at game.vertices c.loop-v.one.own.items c.loop-v.v less c.loop-v.invariant.one.few, c.vertices-v-end.ensures.game.few_edges)

pub push_row-requires-then-marks-v-clause-room : goal.push_row-requires-then-marks-v-clause-room
push_row-requires-then-marks-v-clause-room c =
    let game = c.args.game.now in
    let less : c.loop-v.v < length game.vertices = omega (arith, c.loop-v-test.true, c.vertices-v-end.ensures.count) in
    omega (arith, room_at game.vertices c.loop-v.two.own.items c.loop-v.v less c.loop-v.invariant.two.few, c.vertices-v-end.ensures.game.few_edges)

pub index_mut-requires-then-marks-v : goal.index_mut-requires-then-marks-v
index_mut-requires-then-marks-v c = omega (arith, c.loop-v-test.true, c.vertices-v-end.ensures.graph, c.loop-v.invariant.two.count)

pub loop-v-init : goal.loop-v-init
loop-v-init c =
    let one = c.args.one.now in
    let two = c.args.two.now in
    record {
      shared = refl;
      one = draft_begun c.args.first c.args.game.now one.rows.items (arc_slice_items one.shared) one.own.items c.requires.held;
      second_shared = refl;
      two = draft_begun c.args.second c.args.game.now two.rows.items (arc_slice_items two.shared) two.own.items c.requires.second_held;
    }

pub loop-v-preserved : goal.loop-v-preserved
loop-v-preserved c =
    let game = c.args.game.now in
    let v = c.loop-v.v in
    let i = c.loop-v.invariant in
    let one = c.args.one.now in
    let two = c.args.two.now in
    let olds = row_vertices one.rows.items (arc_slice_items one.shared) one.own.items in
    let second_olds = row_vertices two.rows.items (arc_slice_items two.shared) two.own.items in
    let count : length olds ≡ length (graph_of game) = vertices_count c.args.first game one.rows.items (arc_slice_items one.shared) one.own.items c.requires.held in
    let second_count : length second_olds ≡ length (graph_of game) = vertices_count c.args.second game two.rows.items (arc_slice_items two.shared) two.own.items c.requires.second_held in
    let less : v < length game.vertices = omega (arith, c.loop-v-test.true, c.vertices-v-end.ensures.count) in
    let in_graph : v < length (graph_of game) = omega (arith, less, c.vertices-v-end.ensures.count, c.vertices-v-end.ensures.graph) in
    let within : v < length c.args.marks.now = omega (arith, c.requires.marks, in_graph) in
    elim c.if-marks-v.branch [
      | then-marks-v+in_ok-one+in_ok-two w ↦ record {
        shared = ap (λ d. arc_slice_items d.shared) w.one-is ∙ i.shared;
        one = both_are (IsDraft c.args.first game olds (arc_slice_items one.shared) (v + 1)) (ap (λ d. d.rows.items) w.one-is) (ap (λ d. d.own.items) w.one-is)
            (draft_replaced c.args.first game olds (arc_slice_items one.shared) v count less c.loop-v.one.rows.items c.loop-v.one.own.items c.vertices-v-end.ensures.game i.one _ _ w.in_ok-one.ensures.own w.in_ok-one.ensures.row);
        second_shared = ap (λ d. arc_slice_items d.shared) w.two-is ∙ i.second_shared;
        two = both_are (IsDraft c.args.second game second_olds (arc_slice_items two.shared) (v + 1)) (ap (λ d. d.rows.items) w.two-is) (ap (λ d. d.own.items) w.two-is)
            (draft_replaced c.args.second game second_olds (arc_slice_items two.shared) v second_count less c.loop-v.two.rows.items c.loop-v.two.own.items c.vertices-v-end.ensures.game i.two _ _ w.in_ok-two.ensures.own w.in_ok-two.ensures.row);
      }
      | else-marks-v w ↦ record {
        shared = ap (λ d. arc_slice_items d.shared) w.one-is ∙ i.shared;
        one = both_are (IsDraft c.args.first game olds (arc_slice_items one.shared) (v + 1)) (ap (λ d. d.rows.items) w.one-is) (ap (λ d. d.own.items) w.one-is)
            (draft_left c.args.first game olds (arc_slice_items one.shared) v count less c.loop-v.one.rows.items c.loop-v.one.own.items i.one
            (c.requires.held.held v in_graph (any_default c.args.marks.now v false _ within ∙ w.if-marks-v.false)));
        second_shared = ap (λ d. arc_slice_items d.shared) w.two-is ∙ i.second_shared;
        two = both_are (IsDraft c.args.second game second_olds (arc_slice_items two.shared) (v + 1)) (ap (λ d. d.rows.items) w.two-is) (ap (λ d. d.own.items) w.two-is)
            (draft_left c.args.second game second_olds (arc_slice_items two.shared) v second_count less c.loop-v.two.rows.items c.loop-v.two.own.items i.two
            (c.requires.second_held.held v in_graph (any_default c.args.marks.now v false _ within ∙ w.if-marks-v.false)));
      }
    ]

pub returns-clause-first : goal.returns-clause-first
returns-clause-first c =
    let one = c.args.one.now in
    let past : length (graph_of c.args.game.now) ≤ c.loop-v.v = omega (arith, c.loop-v-test.false, c.vertices-v-end.ensures.graph) in
    draft_done c.args.first c.args.game.now one.rows.items (arc_slice_items one.shared) one.own.items (arc_slice_items c.loop-v.one.shared) c.loop-v.v c.loop-v.one.rows.items c.loop-v.one.own.items
    c.requires.held c.loop-v.invariant.shared past c.loop-v.invariant.one

pub returns-clause-second : goal.returns-clause-second
returns-clause-second c =
    let two = c.args.two.now in
    let past : length (graph_of c.args.game.now) ≤ c.loop-v.v = omega (arith, c.loop-v-test.false, c.vertices-v-end.ensures.graph) in
    draft_done c.args.second c.args.game.now two.rows.items (arc_slice_items two.shared) two.own.items (arc_slice_items c.loop-v.two.shared) c.loop-v.v c.loop-v.two.rows.items c.loop-v.two.own.items
    c.requires.second_held c.loop-v.invariant.second_shared past c.loop-v.invariant.two

pub overflow_cast-v-then-marks-v-2 : goal.overflow_cast-v-then-marks-v-2
overflow_cast-v-then-marks-v-2 c = grind (arith, common_steps)

pub push_row-requires-then-marks-v-clause-vertex : goal.push_row-requires-then-marks-v-clause-vertex
push_row-requires-then-marks-v-clause-vertex c = grind (arith, common_steps)

pub push_row-requires-then-marks-v-clause-features : goal.push_row-requires-then-marks-v-clause-features
push_row-requires-then-marks-v-clause-features c = grind (arith, common_steps)

pub push_row-requires-then-marks-v-clause-game : goal.push_row-requires-then-marks-v-clause-game
push_row-requires-then-marks-v-clause-game c = grind (arith, common_steps)

pub index_mut-requires : goal.index_mut-requires
index_mut-requires c = grind (arith, common_steps)

pub overflow_cast-v-then-marks-v : goal.overflow_cast-v-then-marks-v
overflow_cast-v-then-marks-v c = grind (arith, common_steps)

pub push_row-requires-clause-vertex : goal.push_row-requires-clause-vertex
push_row-requires-clause-vertex c = grind (arith, common_steps)

pub push_row-requires-clause-features : goal.push_row-requires-clause-features
push_row-requires-clause-features c = grind (arith, common_steps)

pub push_row-requires-clause-game : goal.push_row-requires-clause-game
push_row-requires-clause-game c = grind (arith, common_steps)

pub bounds-marks-v : goal.bounds-marks-v
bounds-marks-v c = grind (arith, common_steps)
