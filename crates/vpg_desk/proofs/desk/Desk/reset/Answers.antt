use Rattle.std.proofs.Common.{◌≡◌, IfErr, Result, Ok, Err, ◌∙◌, ◌+◌, ◌++◌, [], ℕ, List, All, length, map, take, drop, sym, ap, subst, arith, refl}
use Rattle.std.specs.Arc.{arc_value}
use Rattle.std.proofs.lemmas.List.{take-map, drop-map, length-map, length-take}
use Rattle.vpg_measure.specs.Games.{ArePageGames}
use Rattle.vpg_trail.specs.Page.{Entry as Step, choices_of, decisions_of, free_after, all_retracted}
use Rattle.vpg_trail.specs.Shown.{entry_of, VertexBelow}
use Rattle.vpg_trail.specs.WellFormed.{LiftsStandAfter}
use Rattle.vpg_desk.specs.Book.{Reset, Changed, Refused}
use Rattle.vpg_faults.specs.declared.refusal.Refusal.TheVariants.{NotDecided, TooManyChanges}
use Rattle.vpg_desk.specs.DeskFields.{desk_of}
use Rattle.vpg_desk.specs.Setting.{HasConflict}
use Rattle.vpg_desk.specs.State.{DeskState, Replies, IsStep, setting_between}
use Rattle.vpg_faults.specs.declared.fault.ResetFault.TheVariants.{Memory}
use Rattle.vpg_desk.specs.Cuts.{cuts_of, notes_of, cut_book, SuffixesBelow}
use Rattle.vpg_desk.specs.Notes.{GivesBack}
use Rattle.vpg_desk.specs.Trail.{book_of}
use Rattle.vpg_desk.specs.declared.cuts.Cut.{Cut}
use Rattle.vpg_desk.proofs.Unchanged.{still_desk, on_err}
use Rattle.vpg_desk.proofs.Shared.{held_at, features_at, limit_at}
use Rattle.vpg_desk.proofs.Decided.{limits}
use Rattle.vpg_desk.proofs.Retracted.{none_left, reset_not_decided, reset_too_many, reset_accepted, reset_page, left_consistent, left_step, left_desk}
use Rattle.vpg_desk.proofs.desk.Desk.reset.Goals as goal
use Rattle.vpg_desk.proofs.desk.Desk.reset.Goals.{After-vertices, After-deref-3}

-- the entries before a place, and those from it on
module _ {A : Type 0} (shown_as : A → Step) (items : List A) (page : List Step) (same : map shown_as items ≡ page) (place : ℕ) where
  front : take place page ≡ map shown_as (take place items)
  front = ap (take place) (sym same) ∙ take-map shown_as place items

  from : drop place page ≡ map shown_as (drop place items)
  from = ap (drop place) (sym same) ∙ drop-map shown_as place items

accepted : (c : After-vertices) → Replies (desk_of c.self.inside) Reset (Changed (c.self.inside.changes + 1))
accepted c =
    reset_accepted c.self.inside c.self.invariant
    (none_left c.self.inside.trail.entries c.in-Some.place c.in-Some.ensures.decision.0 (map entry_of (drop (c.in-Some.place + 1) c.entries-entries.result.now))
    (from entry_of c.entries-entries.result.now c.self.inside.trail.entries c.entries-entries.ensures.entries c.in-Some.place ∙ c.in-Some.ensures.decision.1))
    c.if-self-eq-MOST_CHANGES.false

-- what stays of the entries after the first decision
abbrev Stays : After-deref-3 → Type 0
Stays c = map entry_of c.in_ok-kept.kept.items ≡ free_after (map entry_of (take c.in-Some.place c.entries-entries.result.now)) (map entry_of (drop (c.in-Some.place + 1) c.entries-entries.result.now))

left : (c : After-deref-3) → Stays c → take c.in-Some.place c.self.inside.trail.entries ++ map entry_of c.in_ok-kept.kept.items ≡ all_retracted c.self.inside.trail.entries
left c stays =
    let later = map entry_of (drop (c.in-Some.place + 1) c.entries-entries.result.now) in
    let before = front entry_of c.entries-entries.result.now c.self.inside.trail.entries c.entries-entries.ensures.entries c.in-Some.place in
    reset_page c.self.inside c.self.invariant c.in-Some.place c.in-Some.ensures.decision.0 later (map entry_of c.in_ok-kept.kept.items)
    (from entry_of c.entries-entries.result.now c.self.inside.trail.entries c.entries-entries.ensures.entries c.in-Some.place ∙ c.in-Some.ensures.decision.1)
    (ap decisions_of before ∙ c.in-Some.ensures.before)
    (stays ∙ ap (λ (l : List Step). free_after l later) (sym before))

page : (c : After-deref-3) → Stays c → map entry_of (take c.in-Some.place c.entries-entries.result.now) ++ map entry_of c.in_ok-kept.kept.items ≡ all_retracted c.self.inside.trail.entries
page c stays =
    ap (λ (l : List Step). l ++ map entry_of c.in_ok-kept.kept.items) (sym (front entry_of c.entries-entries.result.now c.self.inside.trail.entries c.entries-entries.ensures.entries c.in-Some.place)) ∙ left c stays

shown : (c : After-deref-3) → Stays c → map entry_of (take c.in-Some.place c.entries-entries.result.now) ++ map entry_of c.deref-3.result.now ≡ all_retracted c.self.inside.trail.entries
shown c stays = ap (λ l. map entry_of (take c.in-Some.place c.entries-entries.result.now) ++ map entry_of l) c.deref-3.ensures.value ∙ page c stays

pub games_of_page-requires-clause-consistent : goal.games_of_page-requires-clause-consistent
games_of_page-requires-clause-consistent c =
    coe 0 1 (k. HasConflict (setting_between (sym c.deref.ensures k) (sym c.deref-2.ensures k)) (choices_of (sym (shown (goal.at.games_of_page-requires-clause-consistent c).After-deref-3 c.in_ok-kept.ensures.kept) k)) → ⊥)
    (left_consistent c.self.inside c.self.invariant Reset (all_retracted c.self.inside.trail.entries) (accepted (goal.at.games_of_page-requires-clause-consistent c).After-vertices) (λ s. refl) tt)

pub cut_out-requires-clause-lifts : goal.cut_out-requires-clause-lifts
cut_out-requires-clause-lifts c =
    coe 0 1 (k. LiftsStandAfter ((sym (take-map entry_of c.in-Some.place c.entries-entries.result.now) ∙ ap (take c.in-Some.place) c.entries-entries.ensures.entries) k) (map entry_of c.in_ok-kept.kept.items))
    (c.in_ok-kept.ensures.lifts (subst (LiftsStandAfter []) (sym c.entries-entries.ensures.entries) c.entries-entries.ensures.lifts))

pub overflow_add-serial : goal.overflow_add-serial
overflow_add-serial c = omega (arith, (limits c.self.inside c.self.invariant).1)

pub overflow_add-self : goal.overflow_add-self
overflow_add-self c = omega (arith, (limits c.self.inside c.self.invariant).0, (limits c.self.inside c.self.invariant).1)

pub invariant_of-self-2 : goal.invariant_of-self-2
invariant_of-self-2 c =
    let at = (goal.at.invariant_of-self-2 c).After-deref-3 in
    left_desk c.self.inside c.self.invariant Reset (all_retracted c.self.inside.trail.entries) (accepted (goal.at.invariant_of-self-2 c).After-vertices) (λ s. refl) tt c.args.session c.in-Some.place (map entry_of c.in_ok-kept.kept.items) c.in_ok-games.games c.cut_out.new.past c.cut_out.new.trail c.clear.new.self
    (omega (arith, c.in-Some.ensures.place, length-map c.entries-entries.result.now entry_of, ap length c.entries-entries.ensures.entries)) (left at c.in_ok-kept.ensures.kept) c.in_ok-cut_out.ensures.past c.in_ok-cut_out.ensures.notes c.in_ok-cut_out.ensures.below c.in_ok-cut_out.ensures.trail c.clear.ensures.items
    (coe 0 1 (k. ArePageGames (c.deref.ensures k) (c.deref-2.ensures k) (choices_of (shown at c.in_ok-kept.ensures.kept k)) (arc_value c.in_ok-games.games)) c.in_ok-games.ensures)
    c.gives_back-is_noted.result
    (λ t. coe 0 1 (k. GivesBack (cuts_of (c.deref-5.ensures.value k)) (notes_of (c.deref-5.ensures.value k)) c.in-Some.place (map entry_of (c.deref-6.ensures.value k))) (c.gives_back-is_noted.ensures.0 t))

pub returns-clause-accepted : goal.returns-clause-accepted
returns-clause-accepted c =
    let at = (goal.at.returns-clause-accepted c).After-deref-3 in
    subst (λ (n : ℕ). IsStep c.args.self.now c.args.session Reset (Changed n) (desk_of (record { game = c.self.inside.game; diagram = c.self.inside.diagram; games = c.in_ok-games.games; trail = c.cut_out.new.trail; past = c.cut_out.new.past; future = c.clear.new.self; changes = c.self.inside.changes + 1; tokens = c.self.inside.tokens + 1; is_noted = c.gives_back-is_noted.result }))) (sym c.of.ensures)
    (subst (λ (s : DeskState). IsStep s c.args.session Reset (Changed (c.self.inside.changes + 1)) (desk_of (record { game = c.self.inside.game; diagram = c.self.inside.diagram; games = c.in_ok-games.games; trail = c.cut_out.new.trail; past = c.cut_out.new.past; future = c.clear.new.self; changes = c.self.inside.changes + 1; tokens = c.self.inside.tokens + 1; is_noted = c.gives_back-is_noted.result }))) c.self.view_is
    (left_step c.self.inside c.self.invariant Reset (all_retracted c.self.inside.trail.entries) (accepted (goal.at.returns-clause-accepted c).After-vertices) (λ s. refl) tt c.args.session c.in-Some.place (map entry_of c.in_ok-kept.kept.items) c.in_ok-games.games c.cut_out.new.past c.cut_out.new.trail c.clear.new.self
    (omega (arith, c.in-Some.ensures.place, length-map c.entries-entries.result.now entry_of, ap length c.entries-entries.ensures.entries)) (left at c.in_ok-kept.ensures.kept) c.in_ok-cut_out.ensures.past c.in_ok-cut_out.ensures.notes c.in_ok-cut_out.ensures.below c.in_ok-cut_out.ensures.trail c.clear.ensures.items
    (coe 0 1 (k. ArePageGames (c.deref.ensures k) (c.deref-2.ensures k) (choices_of (shown at c.in_ok-kept.ensures.kept k)) (arc_value c.in_ok-games.games)) c.in_ok-games.ensures)))

-- want of memory comes where nothing else refuses
unrefused : {T E X : Type 0} (fault : E) (r : Result T E) → X → IfErr r (λ f. f ≡ fault → X)
unrefused fault (Ok t) x = tt
unrefused fault (Err f) x = λ _. x

would : (c : After-vertices) → Replies c.args.self.now Reset (Changed (c.args.self.now.book.changes + 1))
would c = subst (λ (s : DeskState). Replies s Reset (Changed (s.book.changes + 1))) c.self.view_is (accepted c)

pub returns-in_err-kept-clause-last : goal.returns-in_err-kept-clause-last
returns-in_err-kept-clause-last c = unrefused Memory c.from_residual.result (would (goal.at.returns-in_err-kept-clause-last c).After-vertices)

pub returns-in_err-games-clause-last : goal.returns-in_err-games-clause-last
returns-in_err-games-clause-last c = unrefused Memory c.from_residual-in_err-games.result (would (goal.at.returns-in_err-games-clause-last c).After-vertices)

pub returns-in_err-cut_out-clause-last : goal.returns-in_err-cut_out-clause-last
returns-in_err-cut_out-clause-last c = unrefused Memory c.from_residual-in_err-cut_out.result (would (goal.at.returns-in_err-cut_out-clause-last c).After-vertices)

pub games_of_page-requires-clause-held : goal.games_of_page-requires-clause-held
games_of_page-requires-clause-held c =
    held_at c.self.inside c.self.invariant c.deref.result.now c.deref-2.result.now c.deref-4.result.now c.deref.ensures c.deref-2.ensures c.deref-4.ensures

pub invariant_of-self : goal.invariant_of-self
invariant_of-self c =
    let same = c.in_err-cut_out.ensures.err_past in
    still_desk c.self.inside c.self.invariant c.cut_out.new.trail c.cut_out.new.past c.self.inside.future c.in_err-cut_out.ensures.err_trail (ap cuts_of same) refl (ap notes_of same) refl
    (subst (λ (l : List Cut). SuffixesBelow c.self.inside.trail.vertices l) (sym same) c.self.invariant.past_below) c.self.invariant.future_below

pub games_of_page-requires-clause-features : goal.games_of_page-requires-clause-features
games_of_page-requires-clause-features c = features_at c.self.inside c.self.invariant c.deref.result.now c.deref-2.result.now c.deref.ensures c.deref-2.ensures

pub games_of_page-requires-clause-not_at_limit : goal.games_of_page-requires-clause-not_at_limit
games_of_page-requires-clause-not_at_limit c = limit_at c.self.inside c.self.invariant c.deref.result.now c.deref.ensures

pub cut_out-requires-clause-place : goal.cut_out-requires-clause-place
cut_out-requires-clause-place c = omega (arith, c.in-Some.ensures.place, length-map c.entries-entries.result.now entry_of, ap length c.entries-entries.ensures.entries)

pub returns-in_default-clause-refused : goal.returns-in_default-clause-refused
returns-in_default-clause-refused c =
    subst (λ (s : DeskState). Replies s Reset (Refused NotDecided)) c.self.view_is
    (reset_not_decided c.self.inside (ap decisions_of (sym c.entries-entries.ensures.entries) ∙ c.in_default.ensures.none))

pub returns-then-self-eq-MOST_CHANGES-clause-refused : goal.returns-then-self-eq-MOST_CHANGES-clause-refused
returns-then-self-eq-MOST_CHANGES-clause-refused c =
    subst (λ (s : DeskState). Replies s Reset (Refused TooManyChanges)) c.self.view_is
    (reset_too_many c.self.inside
    (none_left c.self.inside.trail.entries c.in-Some.place c.in-Some.ensures.decision.0 (map entry_of (drop (c.in-Some.place + 1) c.entries-entries.result.now))
    (from entry_of c.entries-entries.result.now c.self.inside.trail.entries c.entries-entries.ensures.entries c.in-Some.place ∙ c.in-Some.ensures.decision.1))
    c.if-self-eq-MOST_CHANGES.true)

pub slice_bounds-before-end : goal.slice_bounds-before-end
slice_bounds-before-end c = omega (arith, c.in-Some.ensures.place, length-take c.in-Some.place c.entries-entries.result.now)

pub free_lifts_after-requires-clause-vertices : goal.free_lifts_after-requires-clause-vertices
free_lifts_after-requires-clause-vertices c = subst (λ (n : ℕ). All (λ e. VertexBelow n (entry_of e)) c.entries-entries.result.now) (sym c.vertices.ensures) c.entries-entries.ensures.vertices

pub cut_out-requires-clause-vertices : goal.cut_out-requires-clause-vertices
cut_out-requires-clause-vertices c = subst (λ (n : ℕ). All (λ e. VertexBelow n (entry_of e)) c.in_ok-kept.kept.items) c.vertices.ensures c.in_ok-kept.ensures.vertices

pub returns-in_err-cut_out-clause-err : goal.returns-in_err-cut_out-clause-err
returns-in_err-cut_out-clause-err c =
    on_err c.from_residual-in_err-cut_out.result
    ((λ k. record { game = arc_value c.self.inside.game; diagram = arc_value c.self.inside.diagram; book = book_of (cut_book (c.in_err-cut_out.ensures.err_past k) (c.in_err-cut_out.ensures.err_trail k).entries c.self.inside.future.items c.self.inside.changes c.self.inside.tokens) })
    ∙ c.self.view_is)
