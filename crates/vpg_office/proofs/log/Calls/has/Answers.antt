use Rattle.std.proofs.Common.{◌≡◌, ◌≤◌, List, [], ◌++◌, Option, length, sym, ap, ◌∙◌, subst, arith}
use mathlib.Core.List.{IsPrefix}
use Rattle.boxcar.specs.Table.{Shelves, Where, Shows}
use Rattle.vpg_desk.specs.History.{Event}
use Rattle.vpg_office.specs.Kept.{IsFront, IsInRow, story_to, story}
use Rattle.vpg_office.specs.Fronts.{family_between}
use Rattle.vpg_office.specs.Story.{events_of}
use Rattle.vpg_office.specs.declared.asked.Answer.{Answer}
use Rattle.vpg_office.specs.declared.asked.Entry.{Entry}
use Rattle.vpg_office.proofs.Places.{front_long, has_calls, is_beginning, is_shown, lacking, none_there, other_there, some_story}
use Rattle.vpg_office.proofs.log.Calls.has.Goals as goal

pub agrees-requires : goal.agrees-requires
agrees-requires g c =
    let i = c.front.invariant in
    let size : c.front.inside.count ≡ length (story c.in-Some.place.value c.in-Some.field-0-1) = i.count_is ∙ ap (λ (o : Option (Where Entry × Answer)). length (story_to o)) c.in-Some.is in
    let some = some_story c.in-Some.place.value c.in-Some.field-0-1 in
    let mine : Shows g.L.Terms.shelves c.index-mine.result.now = is_shown g.L.Terms.shelves g.L.Terms.game g.L.Terms.diagram c.args.self.now.chronicle c.args.self.now.newest c.requires.kept c.front.inside.count c.index-mine.result.now (omega (arith, c.if-count-len.false, c.len.ensures)) c.index-mine.ensures in
    let theirs : Shows g.L.Terms.shelves c.in-Some.place = subst (IsInRow g.L.Terms.shelves) c.in-Some.is i.in_row in
    (subst (λ (s : Shelves). Shows s c.index-mine.result.now) (sym c.requires.row) mine, subst (λ (s : Shelves). Shows s c.in-Some.place) (sym c.requires.row) theirs, sym c.index.ensures ∙ c.if-index.false ∙ c.index-2.ensures)

pub returns-clause-begins : goal.returns-clause-begins
returns-clause-begins g c =
    subst (λ (l : List Event). IsPrefix l c.args.self.now.newest) (ap (λ (o : Option (Where Entry × Answer)). events_of (family_between g.L.Terms.game g.L.Terms.diagram) (story_to o)) (sym c.in-Some.is) ∙ c.front.view_is)
    (is_beginning g.L.Terms.shelves g.L.Terms.game g.L.Terms.diagram c.args.self.now.chronicle c.args.self.now.newest c.requires.kept c.front.inside.count c.in-Some.place c.index-mine.result.now c.in-Some.field-0-1
    (subst (λ (o : Option (Where Entry × Answer)). IsFront g.L.Terms.shelves g.L.Terms.game g.L.Terms.diagram g.L.Terms.limit c.front.inside.count o) c.in-Some.is c.front.invariant) (omega (arith, c.if-count-len.false, c.len.ensures)) c.index-mine.ensures c.agrees.ensures)

pub returns-in_default-clause-begins : goal.returns-in_default-clause-begins
returns-in_default-clause-begins g c =
    let none : [] ≡ c.args.front.now = ap (λ (o : Option (Where Entry × Answer)). events_of (family_between g.L.Terms.game g.L.Terms.diagram) (story_to o)) (sym c.in_default.is) ∙ c.front.view_is in
    (c.args.self.now.newest, ap (λ (l : List Event). l ++ c.args.self.now.newest) (sym none))

pub overflow_sub-count : goal.overflow_sub-count
overflow_sub-count g c = has_calls g.L.Terms.shelves g.L.Terms.game g.L.Terms.diagram g.L.Terms.limit c.front.inside.count c.front.inside.last (c.in-Some.place, c.in-Some.field-0-1) c.front.invariant c.in-Some.is

pub index-mine-requires : goal.index-mine-requires
index-mine-requires g c =
    let some : 1 ≤ c.front.inside.count = has_calls g.L.Terms.shelves g.L.Terms.game g.L.Terms.diagram g.L.Terms.limit c.front.inside.count c.front.inside.last (c.in-Some.place, c.in-Some.field-0-1) c.front.invariant c.in-Some.is in
    omega (arith, some, c.if-count-len.false, c.len.ensures)

pub returns-then-count-len-clause-lacks : goal.returns-then-count-len-clause-lacks
returns-then-count-len-clause-lacks g c =
    let places = c.args.self.now.chronicle.places.items in
    let i = c.front.invariant in
    lacking places c.front.inside.count c.front.inside.last c.in-Some.place c.again.result c.in-Some.field-0-1 c.args.front.now i c.in-Some.is c.again.ensures c.front.view_is
    (none_there places c.args.front.now c.front.inside.count c.in-Some.place (front_long c.front.inside.count c.front.inside.last c.args.front.now i c.front.view_is) (omega (arith, c.if-count-len.true, c.len.ensures)))

pub returns-then-index-clause-lacks : goal.returns-then-index-clause-lacks
returns-then-index-clause-lacks g c =
    let places = c.args.self.now.chronicle.places.items in
    let i = c.front.invariant in
    let some : 1 ≤ c.front.inside.count = has_calls g.L.Terms.shelves g.L.Terms.game g.L.Terms.diagram g.L.Terms.limit c.front.inside.count c.front.inside.last (c.in-Some.place, c.in-Some.field-0-1) i c.in-Some.is in
    lacking places c.front.inside.count c.front.inside.last c.in-Some.place c.again-then-index.result c.in-Some.field-0-1 c.args.front.now i c.in-Some.is c.again-then-index.ensures c.front.view_is
    (other_there places c.args.front.now c.front.inside.count c.in-Some.place c.index-mine.result.now (front_long c.front.inside.count c.front.inside.last c.args.front.now i c.front.view_is) (omega (arith, some, c.if-count-len.false, c.len.ensures)) c.index-mine.ensures
    (λ e. c.if-index.true (c.index.ensures ∙ e ∙ sym c.index-2.ensures)))
