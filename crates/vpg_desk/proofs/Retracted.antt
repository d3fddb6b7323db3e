-- What an accepted retract or reset leaves.
use Rattle.std.proofs.Common.{◌≡◌, ℕ, ◌+◌, ◌<◌, ◌≤◌, Bool, true, false, not, cond, ◌==◌, List, [], ◌∷◌, ◌++◌, length, take, drop, filter, IsTrue, Option, Some, None, refl, sym, ap, ◌∙◌, subst, arith, Vec, Global, ne_eqb, length-append, take-append-drop}
use Rattle.std.specs.Prelude.{nat_le}
use Rattle.std.proofs.lemmas.Bool.{lt-leb, le-leb}
use Rattle.std.specs.Arc.{arc_value}
use Rattle.std.specs.declared.sync.Arc.{Arc}
use Rattle.vpg_diagram.specs.FeatureDiagram.{feature_count}
use Rattle.vpg_measure.specs.Games.{GamesView, ArePageGames}
use Rattle.vpg_trail.specs.Page.{Entry as Step, Decided, Decision, choices_of, decisions_of, has_decided, assumes, before_decision, after_decision, reset_all, retracted, free_after, all_retracted}
use Rattle.vpg_trail.specs.Shown.{Track}
use Rattle.vpg_trail.specs.WellFormed.{IsWellFormed}
use Rattle.vpg_trail.proofs.AllRetracted.{cut_at_first}
use Rattle.vpg_trail.proofs.PageLemmas.{decisions_of-append}
use Rattle.vpg_desk.specs.Book.{Refused, Changed, Call, Retract, Reset, most_changes, changed, after, IsSettledPage}
use Rattle.vpg_faults.specs.declared.refusal.Refusal.{Refusal}
use Rattle.vpg_faults.specs.declared.refusal.Refusal.TheVariants.{UnknownFeature, NotDecided, TooManyChanges}
use Rattle.vpg_desk.specs.Cuts.{cuts_of, notes_of, cut_book, SuffixesBelow}
use Rattle.vpg_desk.specs.Desk.{family_of}
use Rattle.vpg_desk.specs.DeskFields.{setting_in, book_in, notes_in, desk_of, IsDesk}
use Rattle.vpg_desk.specs.Lawful.{HandsIn, IsLawful}
use Rattle.vpg_desk.specs.Notes.{NotesHold, GivesBack}
use Rattle.vpg_desk.specs.Setting.{HasConflict}
use Rattle.vpg_desk.specs.State.{Replies, IsStep, IsReached}
use Rattle.vpg_desk.specs.Trail.{StandsFor, book_of}
use Rattle.vpg_desk.specs.declared.cuts.Cut.{Cut}
use Rattle.vpg_desk.specs.declared.desk.Desk.TheInside.{Inside}
use Rattle.vpg_desk.proofs.Decided.{limits}
use Rattle.vpg_desk.proofs.Noted.{noted_with, noted_back}
use Rattle.vpg_desk.proofs.Reaching.{reached_step, reached_tells, reached_well_formed}
use Rattle.vpg_desk.proofs.Trail.{cut_is_change}

-- the front and what stays of the later entries
pub retracted_parts : (f : ℕ) (page front later kept : List Step) → front ≡ before_decision f page → later ≡ after_decision f page → kept ≡ reset_all front (filter (λ e. not (assumes f e)) later) → front ++ kept ≡ retracted f page
retracted_parts f page front later kept b a e = ap (λ (l : List Step). front ++ l) e ∙ (λ k. b k ++ reset_all (b k) (filter (λ x. not (assumes f x)) (a k)))

-- the refusal, by its three tests
abbrev refusal_by : (unknown decided many : Bool) → Option Refusal
refusal_by unknown decided many = cond unknown (Some UnknownFeature) (cond (not decided) (Some NotDecided) (cond many (Some TooManyChanges) None))

-- the refusal of a reset, by its two tests
abbrev reset_refusal_by : (none many : Bool) → Option Refusal
reset_refusal_by none many = cond none (Some NotDecided) (cond many (Some TooManyChanges) None)

pub retract_accepted : (d : Inside) → IsDesk d → (f : ℕ) → f < feature_count (arc_value d.diagram).lines → has_decided f d.trail.entries ≡ true → (d.changes ≡ 1048576 → ⊥) →
    Replies (desk_of d) (Retract f) (Changed (d.changes + 1))
retract_accepted d i f inside decided n = (None, (sym (λ k. refusal_by (lt-leb (feature_count (arc_value d.diagram).lines) f inside k) (decided k) (lt-leb most_changes d.changes room k)), refl))
  where
    room : d.changes < most_changes
    room = omega (arith, (limits d i).1, n)

module _ (d : Inside) (f : ℕ) where
  pub retract_unknown : feature_count (arc_value d.diagram).lines ≤ f → Replies (desk_of d) (Retract f) (Refused UnknownFeature)
  retract_unknown h = (Some UnknownFeature, (sym (λ k. refusal_by (le-leb (feature_count (arc_value d.diagram).lines) f h k) (has_decided f d.trail.entries) (nat_le most_changes d.changes)), refl))

  module _ (inside : f < feature_count (arc_value d.diagram).lines) where
    pub retract_not_decided : has_decided f d.trail.entries ≡ false → Replies (desk_of d) (Retract f) (Refused NotDecided)
    retract_not_decided none = (Some NotDecided, (sym (λ k. refusal_by (lt-leb (feature_count (arc_value d.diagram).lines) f inside k) (none k) (nat_le most_changes d.changes)), refl))

    pub retract_too_many : has_decided f d.trail.entries ≡ true → d.changes ≡ 1048576 → Replies (desk_of d) (Retract f) (Refused TooManyChanges)
    retract_too_many decided e =
        (Some TooManyChanges, (sym (λ k. refusal_by (lt-leb (feature_count (arc_value d.diagram).lines) f inside k) (decided k) (le-leb most_changes d.changes (omega (arith, e)) k)), refl))

-- ---- a reset

pub none_left : (page : List Step) (k : ℕ) (chosen : Decision) (later : List Step) → drop k page ≡ Decided chosen ∷ later → (length (decisions_of page) == 0) ≡ false
none_left page k chosen later e = ne_eqb _ _ (λ none. omega (arith, none, ap length (ap decisions_of (sym (take-append-drop k page)) ∙ decisions_of-append (take k page) (drop k page) ∙ ap (λ (l : List Step). decisions_of (take k page) ++ decisions_of l) e), length-append (decisions_of (take k page)) (chosen ∷ decisions_of later)))

pub reset_accepted : (d : Inside) → IsDesk d → (length (decisions_of d.trail.entries) == 0) ≡ false → (d.changes ≡ 1048576 → ⊥) → Replies (desk_of d) Reset (Changed (d.changes + 1))
reset_accepted d i some n = (None, (sym (λ k. reset_refusal_by (some k) (lt-leb most_changes d.changes room k)), refl))
  where
    room : d.changes < most_changes
    room = omega (arith, (limits d i).1, n)

module _ (d : Inside) where
  pub reset_not_decided : decisions_of d.trail.entries ≡ [] → Replies (desk_of d) Reset (Refused NotDecided)
  reset_not_decided none = (Some NotDecided, (sym (λ k. reset_refusal_by (length (none k) == 0) (nat_le most_changes d.changes)), refl))

  pub reset_too_many : (length (decisions_of d.trail.entries) == 0) ≡ false → d.changes ≡ 1048576 → Replies (desk_of d) Reset (Refused TooManyChanges)
  reset_too_many some e = (Some TooManyChanges, (sym (λ k. reset_refusal_by (some k) (le-leb most_changes d.changes (omega (arith, e)) k)), refl))

-- the page that a reset leaves
pub reset_page : (d : Inside) → IsDesk d → (place : ℕ) (chosen : Decision) (later kept : List Step) → drop place d.trail.entries ≡ Decided chosen ∷ later → decisions_of (take place d.trail.entries) ≡ [] → kept ≡ free_after (take place d.trail.entries) later →
    take place d.trail.entries ++ kept ≡ all_retracted d.trail.entries
reset_page d i place chosen later kept at none is =
    let parts : d.trail.entries ≡ take place d.trail.entries ++ Decided chosen ∷ later = sym (take-append-drop place d.trail.entries) ∙ ap (λ (l : List Step). take place d.trail.entries ++ l) at in
    ap (λ (l : List Step). take place d.trail.entries ++ l) is
    ∙ cut_at_first (take place d.trail.entries) later chosen (subst IsWellFormed parts (reached_well_formed (setting_in d) (book_in d) i.reached).present) none
    ∙ ap all_retracted (sym parts)

-- ---- the page that is left

-- by a change that is accepted and leaves this page
module _ (d : Inside) (i : IsDesk d) (call : Call) (page : List Step) (accepted : Replies (desk_of d) call (Changed (d.changes + 1)))
    (leaves : (session : ℕ) → after (family_of (setting_in d)) (book_in d) session call ≡ changed (book_in d) page) (hands : HandsIn (IsLawful (family_of (setting_in d))) call) where
  reached : IsReached (setting_in d) (changed (book_in d) page)
  reached = subst (IsReached (setting_in d)) (leaves 0) (reached_step (setting_in d) (book_in d) 0 call (Changed (d.changes + 1)) i.reached accepted hands)

  pub left_consistent : HasConflict (setting_in d) (choices_of page) → ⊥
  left_consistent = (reached_tells (setting_in d) (changed (book_in d) page) i.opened.is_setting reached).present.consistent

  module _ (session place : ℕ) (kept : List Step) (games : Arc GamesView Global) (later : Vec Cut Global) (trail : Track) (future : Vec Cut Global)
      (within : place ≤ length d.trail.entries)
      (page_is : take place d.trail.entries ++ kept ≡ page)
      (cuts : cuts_of later.items ≡ record { serial = d.changes + 1; place = place; suffix = drop place d.trail.entries } ∷ cuts_of d.past.items)
      (notes : notes_of later.items ≡ d.is_noted ∷ notes_of d.past.items)
      (below : SuffixesBelow d.trail.vertices d.past.items → SuffixesBelow d.trail.vertices later.items)
      (trail_is : trail ≡ record { vertices = d.trail.vertices; entries = take place d.trail.entries ++ kept })
      (emptied : future.items ≡ [])
      (games_are : ArePageGames (arc_value d.game) (arc_value d.diagram) (choices_of page) (arc_value games)) where
    stands : StandsFor (cut_book later.items trail.entries future.items (d.changes + 1) (d.tokens + 1)) (changed (book_in d) page)
    stands = coe 0 1 (k. StandsFor (record { past = sym cuts k; entries = (sym trail_is k).entries; future = cuts_of (sym emptied k); changes = d.changes + 1; tokens = d.tokens + 1 }) (changed (book_in d) (page_is k)))
        (cut_is_change (cut_book d.past.items d.trail.entries d.future.items d.changes d.tokens) (book_in d) place kept (record { same = refl; past_fits = i.past_fits; future_fits = i.future_fits }) within)

    pub left_step : IsStep (desk_of d) session call (Changed (d.changes + 1)) (record { game = arc_value d.game; diagram = arc_value d.diagram; book = book_of (cut_book later.items trail.entries future.items (d.changes + 1) (d.tokens + 1)) })
    left_step = record { step = (accepted, stands.same ∙ sym (leaves session)); game = refl; diagram = refl }

    -- with a note that the newest past page had, where that is given back
    pub left_desk : (note : Bool) → (IsTrue note → GivesBack (cuts_of d.past.items) (notes_of d.past.items) place kept) →
        IsDesk (record { game = d.game; diagram = d.diagram; games = games; trail = trail; past = later; future = future; changes = d.changes + 1; tokens = d.tokens + 1; is_noted = note })
    left_desk note back = record {
      opened = i.opened;
      reached = subst (IsReached (setting_in d)) (sym stands.same) reached;
      games = subst (λ (l : List Step). ArePageGames (arc_value d.game) (arc_value d.diagram) (choices_of l) (arc_value games)) (sym (ap (λ (t : Track). t.entries) trail_is ∙ page_is)) games_are;
      vertices = ap (λ (t : Track). t.vertices) trail_is ∙ i.vertices;
      past_fits = stands.past_fits;
      future_fits = stands.future_fits;
      past_below = subst (λ (t : Track). SuffixesBelow t.vertices later.items) (sym trail_is) (below i.past_below);
      future_below = subst (λ (l : List Cut). SuffixesBelow trail.vertices l) (sym emptied) (λ k x h. absurd (omega arith));
      noted = coe 0 1 (k. NotesHold (IsSettledPage (family_of (setting_in d))) (record { present = note; past = sym notes k; future = notes_of (sym emptied k) }) (sym stands.same k))
          (noted_with (IsSettledPage (family_of (setting_in d))) (notes_in d) (book_in d) page note settled i.noted);
    }
      where
        settled : IsTrue note → IsSettledPage (family_of (setting_in d)) page
        settled is = subst (IsSettledPage (family_of (setting_in d))) page_is
            (noted_back (IsSettledPage (family_of (setting_in d))) (cuts_of d.past.items) (notes_of d.past.items) place kept d.trail.entries (back is) i.noted.past)
