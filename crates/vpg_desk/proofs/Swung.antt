-- What a desk answers to undo and redo, and what accepted ones leave.
use Rattle.std.proofs.Common.{◌≡◌, ℕ, ◌<◌, Bool, List, [], ◌∷◌, map, reverse, length, arith, Some, None, IfSome, refl, sym, ap, ◌∙◌, subst, Vec, Global}
use Rattle.std.specs.Arc.{arc_value}
use Rattle.std.specs.List.{AllByRecursion}
use Rattle.std.specs.declared.sync.Arc.{Arc}
use Rattle.vpg_diagram.proofs.Lists.{All-implies}
use Rattle.vpg_measure.specs.Games.{GamesView, ArePageGames}
use Rattle.vpg_trail.specs.Page.{Entry as Step, choices_of}
use Rattle.vpg_trail.specs.Shown.{Track}
use Rattle.vpg_trail.specs.WellFormed.{IsWellFormed}
use Rattle.vpg_desk.specs.Book.{Book, Kept, Undo, Redo, Undone, Redone, Refused, IsReply, serials_of, refuses_undo, refuses_redo, undone, redone, IsSettledPage}
use Rattle.vpg_faults.specs.declared.refusal.Refusal.TheVariants.{NotNewest as IsNotNewest, NotNext as IsNotNext}
use Rattle.vpg_desk.specs.Cuts.{cut_of, cuts_of, notes_of, cut_book, serials_from_top, pages_of, SuffixesBelow, IsSwung}
use Rattle.vpg_desk.specs.Desk.{family_of}
use Rattle.vpg_desk.specs.DeskFields.{setting_in, book_in, desk_of, IsDesk}
use Rattle.vpg_faults.specs.Refusals.{undo_refusal, redo_refusal}
use Rattle.vpg_desk.specs.Headline.{Tells}
use Rattle.vpg_desk.specs.Notes.{NotedAre, NotesHold}
use Rattle.vpg_desk.specs.Setting.{HasConflict}
use Rattle.vpg_desk.specs.State.{Replies, IsStep, IsReached}
use Rattle.vpg_desk.specs.Trail.{Cut as Saved, Trail as CutBook, StandsFor, pages_over, spliced, swung_back, swung_forth}
use Rattle.vpg_desk.specs.declared.cuts.Cut.{Cut}
use Rattle.vpg_desk.specs.declared.desk.Desk.TheInside.{Inside}
use Rattle.vpg_faults.specs.declared.fault.RedoFault.{RedoFault}
use Rattle.vpg_faults.specs.declared.fault.RedoFault.TheVariants.{Overtaken, NotNext, Memory as RedoMemory}
use Rattle.vpg_faults.specs.declared.fault.UndoFault.{UndoFault}
use Rattle.vpg_faults.specs.declared.fault.UndoFault.TheVariants.{Sealed, NotNewest, Memory as UndoMemory}
use Rattle.vpg_desk.proofs.Noted.{noted_undone, noted_redone}
use Rattle.vpg_desk.proofs.Reaching.{reached_step, reached_tells, reached_well_formed}
use Rattle.vpg_desk.proofs.Refusals.{not_newest_tells, not_next_tells}
use Rattle.vpg_desk.proofs.Trail.{serials_agree, swing_back_is_undo, swing_forth_is_redo}

-- the serials of the pages are those of the cuts
serials_of_cuts : (cuts : List Cut) → map (λ c. c.serial) (map cut_of cuts) ≡ map (λ c. c.serial) cuts
serials_of_cuts [] = refl
serials_of_cuts (c ∷ cuts) = ap (λ (l : List ℕ). c.serial ∷ l) (serials_of_cuts cuts)

module _ (d : Inside) (i : IsDesk d) where
  pub past_serials : serials_of (book_in d).past ≡ serials_from_top d.past.items
  past_serials = (serials_agree (cut_book d.past.items d.trail.entries d.future.items d.changes d.tokens)).0 ∙ serials_of_cuts (reverse d.past.items)

  pub future_serials : serials_of (book_in d).future ≡ serials_from_top d.future.items
  future_serials = (serials_agree (cut_book d.past.items d.trail.entries d.future.items d.changes d.tokens)).1 ∙ serials_of_cuts (reverse d.future.items)

  -- no page has a conflict, and each is well formed
  pub past_consistent : AllByRecursion (λ k. ¬ (HasConflict (setting_in d) (choices_of k.page))) (pages_of d.trail.entries d.past.items)
  past_consistent = All-implies (λ (k : Kept). Tells (setting_in d) k.page) (λ (k : Kept). ¬ (HasConflict (setting_in d) (choices_of k.page))) (book_in d).past (λ k t. t.consistent) (reached_tells (setting_in d) (book_in d) i.opened.is_setting i.reached).past

  pub future_consistent : AllByRecursion (λ k. ¬ (HasConflict (setting_in d) (choices_of k.page))) (pages_of d.trail.entries d.future.items)
  future_consistent = All-implies (λ (k : Kept). Tells (setting_in d) k.page) (λ (k : Kept). ¬ (HasConflict (setting_in d) (choices_of k.page))) (book_in d).future (λ k t. t.consistent) (reached_tells (setting_in d) (book_in d) i.opened.is_setting i.reached).future

  pub past_well_formed : AllByRecursion (λ k. IsWellFormed k.page) (pages_of d.trail.entries d.past.items)
  past_well_formed = (reached_well_formed (setting_in d) (book_in d) i.reached).past

  pub future_well_formed : AllByRecursion (λ k. IsWellFormed k.page) (pages_of d.trail.entries d.future.items)
  future_well_formed = (reached_well_formed (setting_in d) (book_in d) i.reached).future

  -- ---- the replies

  module _ (s : ℕ) where
    pub undo_refused : (fault : UndoFault) → refuses_undo s (serials_from_top d.past.items) ≡ undo_refusal fault → IfSome (undo_refusal fault) (λ refusal. Replies (desk_of d) (Undo s) (Refused refusal))
    undo_refused Sealed e = (undo_refusal Sealed, (sym (ap (refuses_undo s) past_serials ∙ e), refl))
    undo_refused (NotNewest newest) e = (undo_refusal (NotNewest newest), (sym (ap (refuses_undo s) past_serials ∙ e), refl))
    undo_refused UndoMemory e = tt

    pub redo_refused : (fault : RedoFault) → refuses_redo s (serials_from_top d.future.items) ≡ redo_refusal fault → IfSome (redo_refusal fault) (λ refusal. Replies (desk_of d) (Redo s) (Refused refusal))
    redo_refused Overtaken e = (redo_refusal Overtaken, (sym (ap (refuses_redo s) future_serials ∙ e), refl))
    redo_refused (NotNext next) e = (redo_refusal (NotNext next), (sym (ap (refuses_redo s) future_serials ∙ e), refl))
    redo_refused RedoMemory e = tt

    pub undo_accepted : refuses_undo s (serials_from_top d.past.items) ≡ None → Replies (desk_of d) (Undo s) (Undone s)
    undo_accepted e = (None, (sym (ap (refuses_undo s) past_serials ∙ e), refl))

    pub redo_accepted : refuses_redo s (serials_from_top d.future.items) ≡ None → Replies (desk_of d) (Redo s) (Redone s)
    redo_accepted e = (None, (sym (ap (refuses_redo s) future_serials ∙ e), refl))

    -- the newest past serial is above the token's, the nearest future one below it
    pub newest_above : (n : ℕ) → refuses_undo s (serials_from_top d.past.items) ≡ Some (IsNotNewest n) → s < n
    newest_above n e =
        (not_newest_tells (family_of (setting_in d)) i.reached.0 s n i.reached.1.legal
        (subst (λ (b : Book). IsReply (family_of (setting_in d)) b (Undo s) (Refused (IsNotNewest n))) (sym i.reached.1.leaves) (Some (IsNotNewest n), (sym (ap (refuses_undo s) past_serials ∙ e), refl)))).1

    pub nearest_below : (n : ℕ) → refuses_redo s (serials_from_top d.future.items) ≡ Some (IsNotNext n) → n < s
    nearest_below n e =
        (not_next_tells (family_of (setting_in d)) i.reached.0 s n i.reached.1.legal
        (subst (λ (b : Book). IsReply (family_of (setting_in d)) b (Redo s) (Refused (IsNotNext n))) (sym i.reached.1.leaves) (Some (IsNotNext n), (sym (ap (refuses_redo s) future_serials ∙ e), refl)))).1

  -- ---- the desks that are left

  abbrev cuts_in : CutBook
  cuts_in = cut_book d.past.items d.trail.entries d.future.items d.changes d.tokens

  own : StandsFor (cut_book d.past.items d.trail.entries d.future.items d.changes d.tokens) (book_in d)
  own = record { same = refl; past_fits = i.past_fits; future_fits = i.future_fits }

  -- on the nearest page
  module _ (s : ℕ) (games : Arc GamesView Global) (is_noted : Bool) (past future : Vec Cut Global) (trail : Track) (vertices : trail.vertices ≡ d.trail.vertices)
      (past_below : SuffixesBelow d.trail.vertices past.items) (future_below : SuffixesBelow d.trail.vertices future.items) where
    nearest_desk : (book : Book) → StandsFor (cut_book past.items trail.entries future.items d.changes d.tokens) book → IsReached (setting_in d) book → ArePageGames (arc_value d.game) (arc_value d.diagram) (choices_of trail.entries) (arc_value games) →
        NotesHold (IsSettledPage (family_of (setting_in d))) (record { present = is_noted; past = notes_of past.items; future = notes_of future.items }) book →
        IsDesk (record d { games = games; trail = trail; past = past; future = future; is_noted = is_noted })
    nearest_desk book stands reached known notes = record {
      opened = i.opened;
      reached = subst (IsReached (setting_in d)) (sym stands.same) reached;
      games = known;
      vertices = vertices ∙ i.vertices;
      past_fits = stands.past_fits;
      future_fits = stands.future_fits;
      past_below = subst (λ (n : ℕ). SuffixesBelow n past.items) (sym vertices) past_below;
      future_below = subst (λ (n : ℕ). SuffixesBelow n future.items) (sym vertices) future_below;
      noted = subst (NotesHold (IsSettledPage (family_of (setting_in d))) (record { present = is_noted; past = notes_of past.items; future = notes_of future.items })) (sym stands.same) notes;
    }

    module _ (accepted : refuses_undo s (serials_from_top d.past.items) ≡ None) (swung : IsSwung d.past.items d.trail.entries d.future.items past.items trail.entries future.items)
        (known : (cut : Saved) (further : List Saved) → cuts_of d.past.items ≡ cut ∷ further → ArePageGames (arc_value d.game) (arc_value d.diagram) (choices_of (spliced d.trail.entries cut.place cut.suffix)) (arc_value games)) where
      undone_stands : StandsFor (cut_book past.items trail.entries future.items d.changes d.tokens) (undone (book_in d) (book_in d).past)
      undone_stands = subst (λ (t : CutBook). StandsFor t (undone (book_in d) (book_in d).past)) same (swing_back_is_undo cuts_in (book_in d) own)
        where
          same : swung_back cuts_in (cuts_of d.past.items) ≡ cut_book past.items trail.entries future.items d.changes d.tokens
          same = ap (swung_back cuts_in) swung.left ∙ (λ k. record { past = cuts_of past.items; entries = sym swung.entries_are k; future = sym swung.went k; changes = d.changes; tokens = d.tokens })

      pub undone_step : (session : ℕ) → IsStep (desk_of d) session (Undo s) (Undone s) (desk_of (record d { games = games; trail = trail; past = past; future = future; is_noted = is_noted }))
      undone_step session = record { step = (undo_accepted s accepted, undone_stands.same); game = refl; diagram = refl }

      undone_notes : notes_of d.past.items ≡ is_noted ∷ notes_of past.items → notes_of future.items ≡ d.is_noted ∷ notes_of d.future.items →
          NotesHold (IsSettledPage (family_of (setting_in d))) (record { present = is_noted; past = notes_of past.items; future = notes_of future.items }) (undone (book_in d) (book_in d).past)
      undone_notes note left =
          subst (λ (l : List Bool). NotesHold (IsSettledPage (family_of (setting_in d))) (record { present = is_noted; past = notes_of past.items; future = l }) (undone (book_in d) (book_in d).past)) (sym left)
          (noted_undone (IsSettledPage (family_of (setting_in d))) (book_in d) (book_in d).past is_noted d.is_noted (notes_of past.items) (notes_of d.future.items) some i.noted.present
          (subst (λ (l : List Bool). NotedAre (IsSettledPage (family_of (setting_in d))) l (book_in d).past) note i.noted.past) i.noted.future)
        where
          some : 0 < length (book_in d).past
          some = subst (λ (l : List Saved). 0 < length (pages_over d.trail.entries l)) (sym swung.left) (omega arith)

      pub undone_desk : notes_of d.past.items ≡ is_noted ∷ notes_of past.items → notes_of future.items ≡ d.is_noted ∷ notes_of d.future.items →
          IsDesk (record d { games = games; trail = trail; past = past; future = future; is_noted = is_noted })
      undone_desk note left =
          nearest_desk (undone (book_in d) (book_in d).past) undone_stands (reached_step (setting_in d) (book_in d) 0 (Undo s) (Undone s) i.reached (undo_accepted s accepted) tt)
          (subst (λ (l : List Step). ArePageGames (arc_value d.game) (arc_value d.diagram) (choices_of l) (arc_value games)) (sym swung.entries_are) (known swung.nearest (cuts_of past.items) swung.left))
          (undone_notes note left)

    module _ (accepted : refuses_redo s (serials_from_top d.future.items) ≡ None) (swung : IsSwung d.future.items d.trail.entries d.past.items future.items trail.entries past.items)
        (known : (cut : Saved) (further : List Saved) → cuts_of d.future.items ≡ cut ∷ further → ArePageGames (arc_value d.game) (arc_value d.diagram) (choices_of (spliced d.trail.entries cut.place cut.suffix)) (arc_value games)) where
      redone_stands : StandsFor (cut_book past.items trail.entries future.items d.changes d.tokens) (redone (book_in d) (book_in d).future)
      redone_stands = subst (λ (t : CutBook). StandsFor t (redone (book_in d) (book_in d).future)) same (swing_forth_is_redo cuts_in (book_in d) own)
        where
          same : swung_forth cuts_in (cuts_of d.future.items) ≡ cut_book past.items trail.entries future.items d.changes d.tokens
          same = ap (swung_forth cuts_in) swung.left ∙ (λ k. record { past = sym swung.went k; entries = sym swung.entries_are k; future = cuts_of future.items; changes = d.changes; tokens = d.tokens })

      pub redone_step : (session : ℕ) → IsStep (desk_of d) session (Redo s) (Redone s) (desk_of (record d { games = games; trail = trail; past = past; future = future; is_noted = is_noted }))
      redone_step session = record { step = (redo_accepted s accepted, redone_stands.same); game = refl; diagram = refl }

      redone_notes : notes_of d.future.items ≡ is_noted ∷ notes_of future.items → notes_of past.items ≡ d.is_noted ∷ notes_of d.past.items →
          NotesHold (IsSettledPage (family_of (setting_in d))) (record { present = is_noted; past = notes_of past.items; future = notes_of future.items }) (redone (book_in d) (book_in d).future)
      redone_notes note left =
          subst (λ (l : List Bool). NotesHold (IsSettledPage (family_of (setting_in d))) (record { present = is_noted; past = l; future = notes_of future.items }) (redone (book_in d) (book_in d).future)) (sym left)
          (noted_redone (IsSettledPage (family_of (setting_in d))) (book_in d) (book_in d).future is_noted d.is_noted (notes_of d.past.items) (notes_of future.items) some i.noted.present i.noted.past
          (subst (λ (l : List Bool). NotedAre (IsSettledPage (family_of (setting_in d))) l (book_in d).future) note i.noted.future))
        where
          some : 0 < length (book_in d).future
          some = subst (λ (l : List Saved). 0 < length (pages_over d.trail.entries l)) (sym swung.left) (omega arith)

      pub redone_desk : notes_of d.future.items ≡ is_noted ∷ notes_of future.items → notes_of past.items ≡ d.is_noted ∷ notes_of d.past.items →
          IsDesk (record d { games = games; trail = trail; past = past; future = future; is_noted = is_noted })
      redone_desk note left =
          nearest_desk (redone (book_in d) (book_in d).future) redone_stands (reached_step (setting_in d) (book_in d) 0 (Redo s) (Redone s) i.reached (redo_accepted s accepted) tt)
          (subst (λ (l : List Step). ArePageGames (arc_value d.game) (arc_value d.diagram) (choices_of l) (arc_value games)) (sym swung.entries_are) (known swung.nearest (cuts_of future.items) swung.left))
          (redone_notes note left)
