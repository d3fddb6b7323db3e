-- What a desk answers to a commit, and what an accepted one leaves.
use Rattle.std.proofs.Common.{◌≡◌, ℕ, ◌<◌, ◌≤◌, max, Bool, true, false, IsTrue, ◌⊎◌, inl, inr, get_or, slice_index, le_antisymm, List, ◌++◌, length, map, Option, Some, None, IfSome, IfErr, OnOk, Result, Ok, Err, refl, sym, ap, ◌∙◌, subst, arith, append-nil}
use Rattle.std.proofs.lemmas.Bool.{false≢true}
use Rattle.std.proofs.lemmas.List.{same_lists, get_or_default}
use Rattle.std.specs.Arc.{arc_value}
use Rattle.std.specs.Bool.{Decides}
use Rattle.vpg_game.proofs.Graphs.{same_count}
use Rattle.vpg_game.specs.Game.{NamedGame, graph_of}
use Rattle.vpg_diagram.specs.DiagramText.{NamedDiagram}
use Rattle.vpg_guards.specs.Formula.{Formula}
use Rattle.vpg_guards.specs.Known.{kleene}
use Rattle.vpg_hope.specs.Hope.{Extends}
use Rattle.vpg_measure.proofs.TwoGames.{arena_length, progress_earlier}
use Rattle.vpg_measure.specs.Games.{GamesView, ArePageGames}
use Rattle.vpg_measure.specs.Orders.{HarvestView, IsHarvest, IsSettledHarvest, harvest_table}
use Rattle.vpg_measure.specs.TwoGames.{IsProgressOf, IsTableBelow}
use Rattle.vpg_partial.specs.TableLaws.{IsKnownTable}
use Rattle.vpg_trail.specs.Page.{Which, Hopeful, Dual, Literal, Decision, literal_of, choices_of, value_at, table_of, raises}
use Rattle.vpg_trail.specs.Shown.{Track}
use Rattle.vpg_trail.specs.WellFormed.{LiftsStandAfter}
use Rattle.vpg_trail.proofs.Lifting.{well_formed_lifts_stand}
use Rattle.vpg_trail.proofs.PageLemmas.{choices_of-append, value_at-append, length-table_of, table_of-at}
use Rattle.vpg_desk.specs.Book.{Book, Commit, Added, Refused, IsSettledPage, committed, raises_of, first_missing, outdated_at, refuses_commit}
use Rattle.vpg_faults.specs.declared.refusal.Refusal.{Refusal}
use Rattle.vpg_faults.specs.declared.refusal.Refusal.TheVariants.{OtherGame, Outdated}
use Rattle.vpg_desk.specs.Commit.{IsOrderOf, handed_in, raised_by}
use Rattle.vpg_faults.specs.Refusals.{commit_refusal}
use Rattle.vpg_faults.specs.declared.fault.CommitFault.{CommitFault}
use Rattle.vpg_faults.specs.declared.fault.CommitFault.TheVariants.{Memory}
use Rattle.vpg_desk.specs.Cuts.{notes_of, cut_book, SuffixesBelow}
use Rattle.vpg_desk.specs.Desk.{family_of, IsProgressUnder}
use Rattle.vpg_desk.specs.DeskFields.{setting_in, book_in, desk_of, IsDesk}
use Rattle.vpg_desk.specs.Lawful.{IsLawful, PageIsBelow, harvested}
use Rattle.vpg_desk.specs.Notes.{NotedAre}
use Rattle.vpg_desk.specs.State.{DeskState, Replies, IsStep, IsReached}
use Rattle.vpg_desk.specs.Trail.{StandsFor, book_of}
use Rattle.vpg_desk.specs.declared.desk.Desk.TheInside.{Inside}
use Rattle.vpg_desk.proofs.Answering.{tells}
use Rattle.vpg_desk.proofs.Lawful.{harvests_are_lawful}
use Rattle.vpg_desk.proofs.Raising.{raises-decisions, raises-reach, raises_of_well_formed, missing_none}
use Rattle.vpg_desk.proofs.Reaching.{reached_step}
use Rattle.vpg_desk.proofs.Sound.{sound_of}
use Rattle.vpg_desk.proofs.Telling.{added_are_few}
use Rattle.vpg_desk.proofs.Trail.{append_is_commit}

-- a harvest has a value for each vertex of its game
pub harvest_length : (harvest : HarvestView) (which : Which) → IsHarvest harvest → length (harvest_table which harvest) ≡ length harvest.order.game.vertices
harvest_length harvest which h = (h.below which).is_table.len ∙ arena_length Formula (kleene harvest.order.known) which (graph_of harvest.order.game) ∙ same_count harvest.order.game

-- lifts decide nothing
pub raised_choices : (harvest : HarvestView) (trail : Track) → choices_of (trail.entries ++ raised_by harvest trail) ≡ choices_of trail.entries
raised_choices harvest trail =
    choices_of-append trail.entries (raised_by harvest trail)
    ∙ ap (λ (l : List Literal). choices_of trail.entries ++ l)
    (choices_of-append (raises under trail.entries Hopeful harvest.hopeful trail.vertices) (raises under trail.entries Dual harvest.dual trail.vertices)
    ∙ ap (λ (l : List Decision). map literal_of l ++ choices_of (raises under trail.entries Dual harvest.dual trail.vertices)) (raises-decisions under trail.entries Hopeful harvest.hopeful trail.vertices)
    ∙ ap (map literal_of) (raises-decisions under trail.entries Dual harvest.dual trail.vertices))
    ∙ append-nil (choices_of trail.entries)
  where
    under : List Literal
    under = map literal_of harvest.order.decisions

module _ (d : Inside) (harvest : HarvestView) (b : Bool) (ours : Decides b (IsOrderOf (desk_of d) harvest.order)) where
  pub other_refused : b ≡ false → (x : Bool) × (Decides x (IsOrderOf (desk_of d) harvest.order) × Replies (desk_of d) (Commit (handed_in x harvest)) (Refused OtherGame))
  other_refused e = (false, (subst (λ (x : Bool). Decides x (IsOrderOf (desk_of d) harvest.order)) e ours, (Some OtherGame, (refl, refl))))

pub own_outdated : (d : Inside) (harvest : HarvestView) (f : ℕ) → first_missing (choices_of d.trail.entries) (map literal_of harvest.order.decisions) ≡ Some f →
    Replies (desk_of d) (Commit (handed_in true harvest)) (Refused (Outdated f))
own_outdated d harvest f m = (Some (Outdated f), (ap outdated_at (sym m), refl))

-- what is told of a harvest of the desk's own holds of one that was compared
module _ {T E : Type 0} (state : DeskState) (harvest : HarvestView) (fault_of : E → CommitFault) (ours : IsOrderOf state harvest.order) where
  pub own_same : (r : Result T E) → OnOk r (IsOrderOf state harvest.order)
  own_same (Ok n) = ours
  own_same (Err e) = tt

  pub own_told : (r : Result T E) → IfErr r (λ e. IfSome (commit_refusal (fault_of e)) (λ refusal. Replies state (Commit (handed_in true harvest)) (Refused refusal))) →
      IfErr r (λ e. IfSome (commit_refusal (fault_of e)) (λ refusal. (x : Bool) × (Decides x (IsOrderOf state harvest.order) × Replies state (Commit (handed_in x harvest)) (Refused refusal))))
  own_told (Ok n) h = tt
  own_told (Err e) h = by (commit_refusal (fault_of e)) h
    where
      by : (r : Option Refusal) → IfSome r (λ refusal. Replies state (Commit (handed_in true harvest)) (Refused refusal)) →
          IfSome r (λ refusal. (x : Bool) × (Decides x (IsOrderOf state harvest.order) × Replies state (Commit (handed_in x harvest)) (Refused refusal)))
      by None h = tt
      by (Some refusal) h = (true, (((λ _. ours), (λ _. refl)), h))

  pub own_last : (r : Result T E) → IfErr r (λ e. fault_of e ≡ Memory → refuses_commit state.book (handed_in true harvest) ≡ None) →
      IfErr r (λ e. fault_of e ≡ Memory → IsOrderOf state harvest.order × (refuses_commit state.book (handed_in true harvest) ≡ None))
  own_last (Ok n) h = tt
  own_last (Err e) h = λ m. (ours, h m)

-- ---- what an accepted commit leaves

module _ (d : Inside) (i : IsDesk d) (harvest : HarvestView) (is_harvest : IsHarvest harvest) (ours : IsOrderOf (desk_of d) harvest.order)
    (none : first_missing (choices_of d.trail.entries) (map literal_of harvest.order.decisions) ≡ None) where
  -- the trail's raises are the book's
  pub raised_are : raised_by harvest d.trail ≡ raises_of (family_of (setting_in d)) (handed_in true harvest) d.trail.entries
  raised_are = λ k. raises (map literal_of harvest.order.decisions) d.trail.entries Hopeful harvest.hopeful (i.vertices k) ++ raises (map literal_of harvest.order.decisions) d.trail.entries Dual harvest.dual (i.vertices k)

  pub few : length (raised_by harvest d.trail) ≤ 131072
  few = omega (arith, ap length raised_are, added_are_few (family_of (setting_in d)) (handed_in true harvest) d.trail.entries, same_count (arc_value d.game), i.opened.is_game.few)

  pub lifts_stand : LiftsStandAfter d.trail.entries (raised_by harvest d.trail)
  lifts_stand =
      subst (LiftsStandAfter d.trail.entries) (sym raised_are)
      (well_formed_lifts_stand d.trail.entries _ (raises_of_well_formed (family_of (setting_in d)) (handed_in true harvest) d.trail.entries (missing_none _ _ none)))

  lawful : IsLawful (family_of (setting_in d)) (handed_in true harvest)
  lawful = harvests_are_lawful (setting_in d) (handed_in true harvest) harvest.order.known i.opened.is_setting
      (subst (λ (x : NamedDiagram). IsKnownTable x.lines (map literal_of harvest.order.decisions) harvest.order.known) ours.1 is_harvest.order.known) tables
    where
      below : (which : Which) → IsTableBelow (kleene harvest.order.known) which (graph_of (arc_value d.game)) (harvest_table which harvest)
      below which = subst (λ (g : NamedGame). IsTableBelow (kleene harvest.order.known) which (graph_of g) (harvest_table which harvest)) ours.0 (is_harvest.below which)

      tables : (which : Which) → IsTableBelow (kleene harvest.order.known) which (graph_of (arc_value d.game)) (harvested (handed_in true harvest) which)
      tables Hopeful = below Hopeful
      tables Dual = below Dual

  accepted : (n : ℕ) → n ≡ length (raised_by harvest d.trail) → Replies (desk_of d) (Commit (handed_in true harvest)) (Added n)
  accepted n e = (None, (ap outdated_at (sym none), ap Added (e ∙ ap length raised_are)))

  module _ (trail : Track) (trail_is : trail ≡ record { vertices = d.trail.vertices; entries = d.trail.entries ++ raised_by harvest d.trail }) (n : ℕ) (added : n ≡ length (raised_by harvest d.trail)) where
    stands : StandsFor (cut_book d.past.items trail.entries d.future.items d.changes d.tokens) (committed (family_of (setting_in d)) (book_in d) (handed_in true harvest))
    stands = coe 0 1 (k. StandsFor (cut_book d.past.items (sym trail_is k).entries d.future.items d.changes d.tokens) (record (book_in d) { present = d.trail.entries ++ raised_are k }))
        (append_is_commit (cut_book d.past.items d.trail.entries d.future.items d.changes d.tokens) (book_in d) (raised_by harvest d.trail) (record { same = refl; past_fits = i.past_fits; future_fits = i.future_fits }))

    pub committed_step : (session : ℕ) → IsStep (desk_of d) session (Commit (handed_in true harvest)) (Added n) (record { game = arc_value d.game; diagram = arc_value d.diagram; book = book_of (cut_book d.past.items trail.entries d.future.items d.changes d.tokens) })
    committed_step session = record { step = (accepted n added, stands.same); game = refl; diagram = refl }

    pub committed_desk : (is_noted : Bool) → (IsTrue is_noted → IsSettledPage (family_of (setting_in d)) trail.entries) → IsDesk (record d { trail = trail; is_noted = is_noted })
    committed_desk is_noted noted = record {
      opened = i.opened;
      reached = subst (IsReached (setting_in d)) (sym stands.same) (reached_step (setting_in d) (book_in d) 0 (Commit (handed_in true harvest)) (Added n) i.reached (accepted n added) (λ _. lawful));
      games = subst (λ (l : List Literal). ArePageGames (arc_value d.game) (arc_value d.diagram) l (arc_value d.games)) (sym (ap (λ (t : Track). choices_of t.entries) trail_is ∙ raised_choices harvest d.trail)) i.games;
      vertices = ap (λ (t : Track). t.vertices) trail_is ∙ i.vertices;
      past_fits = stands.past_fits;
      future_fits = stands.future_fits;
      past_below = subst (λ (t : Track). SuffixesBelow t.vertices d.past.items) (sym trail_is) i.past_below;
      future_below = subst (λ (t : Track). SuffixesBelow t.vertices d.future.items) (sym trail_is) i.future_below;
      noted = record {
        present = noted;
        past = subst (λ (b : Book). NotedAre (IsSettledPage (family_of (setting_in d))) (notes_of d.past.items) b.past) (sym stands.same) i.noted.past;
        future = subst (λ (b : Book). NotedAre (IsSettledPage (family_of (setting_in d))) (notes_of d.future.items) b.future) (sym stands.same) i.noted.future;
      };
    }

    -- ---- whether it is settled then

    below : PageIsBelow (family_of (setting_in d)) trail.entries
    below = (tells (record d { trail = trail; is_noted = false }) (committed_desk false (λ t. absurd (false≢true t)))).below

    choices : choices_of trail.entries ≡ choices_of d.trail.entries
    choices = ap (λ (t : Track). choices_of t.entries) trail_is ∙ raised_choices harvest d.trail

    value : (which : Which) (v : ℕ) → value_at which v trail.entries ≡ max (value_at which v d.trail.entries) (value_at which v (raised_by harvest d.trail))
    value which v = ap (λ (t : Track). value_at which v t.entries) trail_is ∙ value_at-append which v d.trail.entries (raised_by harvest d.trail)

    -- it is where its values are at least those of a progress table: no value is above one
    reaches : (which : Which) (values : List ℕ) → IsProgressUnder (setting_in d) (choices_of d.trail.entries) which values →
        ((v : ℕ) → v < length (graph_of (arc_value d.game)) → slice_index values v ≤ value_at which v trail.entries) →
        IsProgressUnder (setting_in d) (choices_of trail.entries) which (table_of which trail.entries (length (graph_of (arc_value d.game))))
    reaches which values progress least = subst (λ (t : List ℕ). IsProgressUnder (setting_in d) (choices_of trail.entries) which t) (sym same) under
      where
        under : IsProgressUnder (setting_in d) (choices_of trail.entries) which values
        under = subst (λ (l : List Literal). IsProgressUnder (setting_in d) l which values) (sym choices) progress

        len : length values ≡ length (graph_of (arc_value d.game))
        len = progress.1.1.is_table.len ∙ arena_length Formula (kleene progress.0) which (graph_of (arc_value d.game))

        at : (v e : ℕ) → v < length (table_of which trail.entries (length (graph_of (arc_value d.game)))) → get_or (table_of which trail.entries (length (graph_of (arc_value d.game)))) v e ≡ get_or values v e
        at v e l =
            let h : v < length (graph_of (arc_value d.game)) = subst (λ (m : ℕ). v < m) (length-table_of which trail.entries (length (graph_of (arc_value d.game)))) l in
            let k : v < length values = subst (λ (m : ℕ). v < m) (sym len) h in
            get_or_default (table_of which trail.entries (length (graph_of (arc_value d.game)))) v e 0 l ∙ table_of-at which trail.entries (length (graph_of (arc_value d.game))) v h
            ∙ le_antisymm (below which v values under) (least v h) ∙ get_or_default values v 0 e k

        same : table_of which trail.entries (length (graph_of (arc_value d.game))) ≡ values
        same =
            same_lists (table_of which trail.entries (length (graph_of (arc_value d.game)))) values
            (length-table_of which trail.entries (length (graph_of (arc_value d.game))) ∙ sym len) at

    -- so it stays settled
    stays_settled : IsSettledPage (family_of (setting_in d)) d.trail.entries → IsSettledPage (family_of (setting_in d)) trail.entries
    stays_settled settled which =
        reaches which (table_of which d.trail.entries (length (graph_of (arc_value d.game)))) (settled which)
        (λ v h. omega (arith, table_of-at which d.trail.entries (length (graph_of (arc_value d.game))) v h, value which v))

    -- and a settled harvest settles it, where the harvest's decisions make known what is known of the page
    module _ (settled : IsSettledHarvest harvest) (known : IsKnownTable (arc_value d.diagram).lines (map literal_of harvest.order.decisions) (arc_value d.games).known) where
      progress : (which : Which) → IsProgressUnder (setting_in d) (choices_of d.trail.entries) which (harvest_table which harvest)
      progress which = ((arc_value d.games).known, (i.games.known, progress_earlier Formula (kleene harvest.order.known) (kleene (arc_value d.games).known) (graph_of (arc_value d.game)) which (harvest_table which harvest) grows there))
        where
          grows : Extends (kleene harvest.order.known) (kleene (arc_value d.games).known) (graph_of (arc_value d.game))
          grows = (sound_of (setting_in d) i.opened.is_setting).grows (map literal_of harvest.order.decisions) (map literal_of harvest.order.decisions) (arc_value d.games).known harvest.order.known (λ c s. s) known
              (subst (λ (x : NamedDiagram). IsKnownTable x.lines (map literal_of harvest.order.decisions) harvest.order.known) ours.1 is_harvest.order.known)

          here : IsProgressOf (kleene harvest.order.known) which (graph_of harvest.order.game) (harvest_table which harvest)
          here = record { is_table = (is_harvest.below which).is_table; settled = settled which }

          there : IsProgressOf (kleene harvest.order.known) which (graph_of (arc_value d.game)) (harvest_table which harvest)
          there = subst (λ (g : NamedGame). IsProgressOf (kleene harvest.order.known) which (graph_of g) (harvest_table which harvest)) ours.0 here

      inside : (v : ℕ) → v < length (graph_of (arc_value d.game)) → v < d.trail.vertices
      inside v h = subst (λ (m : ℕ). v < m) (sym i.vertices) h

      least : (which : Which) (v : ℕ) → v < length (graph_of (arc_value d.game)) → slice_index (harvest_table which harvest) v ≤ value_at which v trail.entries
      least Hopeful v h =
          omega (
            arith,
            raises-reach (map literal_of harvest.order.decisions) d.trail.entries Hopeful harvest.hopeful d.trail.vertices v (inside v h),
            value Hopeful v,
            value_at-append Hopeful v (raises (map literal_of harvest.order.decisions) d.trail.entries Hopeful harvest.hopeful d.trail.vertices) (raises (map literal_of harvest.order.decisions) d.trail.entries Dual harvest.dual d.trail.vertices),
          )
      least Dual v h =
          omega (
            arith,
            raises-reach (map literal_of harvest.order.decisions) d.trail.entries Dual harvest.dual d.trail.vertices v (inside v h),
            value Dual v,
            value_at-append Dual v (raises (map literal_of harvest.order.decisions) d.trail.entries Hopeful harvest.hopeful d.trail.vertices) (raises (map literal_of harvest.order.decisions) d.trail.entries Dual harvest.dual d.trail.vertices),
          )

      settled_then : IsSettledPage (family_of (setting_in d)) trail.entries
      settled_then which = reaches which (harvest_table which harvest) (progress which) (least which)

    -- one or the other
    pub settled_by : (read : GamesView) → read ≡ arc_value d.games →
        IsTrue d.is_noted ⊎ (IsSettledHarvest harvest × IsKnownTable harvest.order.diagram.lines (map literal_of harvest.order.decisions) read.known) → IsSettledPage (family_of (setting_in d)) trail.entries
    settled_by read same (inl noted) = stays_settled (i.noted.present noted)
    settled_by read same (inr (settled, known)) = settled_then settled (coe 0 1 (k. IsKnownTable (ours.1 k).lines (map literal_of harvest.order.decisions) (same k).known) known)
