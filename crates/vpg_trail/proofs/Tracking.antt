-- Tables that are those of the entries.
use Rattle.std.proofs.Common.{◌≡◌, ℕ, ◌-◌, ◌<◌, ◌≤◌, List, [], ◌∷◌, ◌++◌, map, replicate, take, drop, All, length, arith, sym, ap, ◌∙◌, subst, take-append-drop}
use Rattle.std.proofs.lemmas.List.{map_push, map-append, take-map, drop-map, length-map, get_or-map, length-take-le, take_rest}
use Rattle.std.proofs.lemmas.List.Elements.{All-push, All-append, All-map, All-take, All-drop}
use Rattle.std.proofs.Math.Seq.{drop-append_seam}
use Rattle.vpg_measure.specs.Measures.{Shape}
use Rattle.vpg_measure.specs.Numbers.{AreZeroMeasures}
use Rattle.vpg_sides.specs.declared.which.Which.TheVariants.{Hopeful, Dual}
use Rattle.vpg_trail.specs.Page.{Which, Entry as Step, table_of}
use Rattle.vpg_trail.specs.declared.entry.Entry.{Entry}
use Rattle.vpg_trail.specs.Shown.{entry_of, VertexBelow, IsTracked, after_entry}
use Rattle.vpg_trail.specs.WellFormed.{LiftStands, LiftsStandAfter}
use Rattle.vpg_trail.proofs.Tables.{tables_after_entry}
use Rattle.vpg_trail.proofs.PageLemmas.{length-table_of, stand-append, stand_parts}
use Rattle.vpg_trail.proofs.Replays.{after_entry_is}

pub tracked_start : (n : ℕ) (hopeful dual : List ℕ) → hopeful ≡ replicate n 0 → dual ≡ replicate n 0 → IsTracked n [] hopeful dual
tracked_start n hopeful dual h d = record {
  below = λ k x l. absurd (omega arith);
  lifts = tt;
  hopeful_is = h ∙ sym (tables_after_entry Hopeful [] n).3;
  dual_is = d ∙ sym (tables_after_entry Dual [] n).3;
}

-- no entries give a table of zeros
pub opened_zero : (which : Which) (n : ℕ) (entries : List Entry) (shape : Shape) (table : List ℕ) → entries ≡ [] → table ≡ replicate n 0 → AreZeroMeasures shape table →
    AreZeroMeasures shape (table_of which (map entry_of entries) n)
opened_zero which n entries shape table none zero measures =
    subst (AreZeroMeasures shape) (zero ∙ sym (tables_after_entry which [] n).3 ∙ ap (λ (l : List Entry). table_of which (map entry_of l) n) (sym none)) measures

pub tracked_one : (n : ℕ) (entries after : List Entry) (e : Entry) (hopeful dual next_hopeful next_dual : List ℕ) → IsTracked n (map entry_of entries) hopeful dual → VertexBelow n (entry_of e) →
    LiftStands (map entry_of entries) (entry_of e) → after ≡ entries ++ e ∷ [] → next_hopeful ≡ after_entry Hopeful hopeful (entry_of e) → next_dual ≡ after_entry Dual dual (entry_of e) → IsTracked n (map entry_of after) next_hopeful next_dual
tracked_one n entries after e hopeful dual next_hopeful next_dual t v s a h d =
    subst (λ (l : List Step). IsTracked n l next_hopeful next_dual) (sym (ap (map entry_of) a ∙ map_push entry_of entries e)) (record {
      below = All-push (VertexBelow n) (map entry_of entries) (entry_of e) t.below v;
      lifts = stand-append LiftStands [] (map entry_of entries) (entry_of e ∷ []) t.lifts (s, tt);
      hopeful_is = h ∙ ap (λ (l : List ℕ). after_entry Hopeful l (entry_of e)) t.hopeful_is ∙ after_entry_is Hopeful (map entry_of entries) n e v;
      dual_is = d ∙ ap (λ (l : List ℕ). after_entry Dual l (entry_of e)) t.dual_is ∙ after_entry_is Dual (map entry_of entries) n e v;
    })

-- the entries of the code are on vertices of the page
pub All-unmap : (n : ℕ) (entries : List Entry) → All (VertexBelow n) (map entry_of entries) → All (λ e. VertexBelow n (entry_of e)) entries
All-unmap n entries all k d h = subst (VertexBelow n) (get_or-map entry_of entries k d (entry_of d) h) (all k (entry_of d) (subst (λ (m : ℕ). k < m) (sym (length-map entries entry_of)) h))

pub tracked_more : (n : ℕ) (entries after more : List Entry) (hopeful dual next_hopeful next_dual : List ℕ) → IsTracked n (map entry_of entries) hopeful dual → All (λ e. VertexBelow n (entry_of e)) more →
    LiftsStandAfter (map entry_of entries) (map entry_of more) → after ≡ entries ++ more →
    ((page : List Step) → hopeful ≡ table_of Hopeful page n → next_hopeful ≡ table_of Hopeful (page ++ map entry_of more) n) →
    ((page : List Step) → dual ≡ table_of Dual page n → next_dual ≡ table_of Dual (page ++ map entry_of more) n) → IsTracked n (map entry_of after) next_hopeful next_dual
tracked_more n entries after more hopeful dual next_hopeful next_dual t v s a h d =
    subst (λ (l : List Step). IsTracked n l next_hopeful next_dual) (sym (ap (map entry_of) a ∙ map-append entry_of entries more)) (record {
      below = All-append (VertexBelow n) (map entry_of entries) (map entry_of more) t.below (All-map (VertexBelow n) entry_of more v);
      lifts = stand-append LiftStands [] (map entry_of entries) (map entry_of more) t.lifts s;
      hopeful_is = h (map entry_of entries) t.hopeful_is;
      dual_is = d (map entry_of entries) t.dual_is;
    })

pub tracked_length : (n : ℕ) (page : List Step) (hopeful dual : List ℕ) → IsTracked n page hopeful dual → (length hopeful ≡ n) × (length dual ≡ n)
tracked_length n page hopeful dual t = (ap length t.hopeful_is ∙ length-table_of Hopeful page n, ap length t.dual_is ∙ length-table_of Dual page n)

-- an entry of the page's vertices, by the view
pub below_viewed : (n m k : ℕ) (e : Step) → VertexBelow m e → n ≡ m → k ≡ n → VertexBelow k e
below_viewed n m k e h a b = subst (λ (x : ℕ). VertexBelow x e) (sym (b ∙ a)) h

pub all_viewed : (n m : ℕ) (entries : List Entry) → n ≡ m → All (λ e. VertexBelow n (entry_of e)) entries → All (λ e. VertexBelow m (entry_of e)) entries
all_viewed n m entries a h = subst (λ (x : ℕ). All (λ e. VertexBelow x (entry_of e)) entries) a h

-- after a splice
pub spliced_below : (n place : ℕ) (entries after suffix : List Entry) → All (VertexBelow n) (map entry_of entries) → All (λ e. VertexBelow n (entry_of e)) suffix → after ≡ take place entries ++ suffix → All (λ e. VertexBelow n (entry_of e)) after
spliced_below n place entries after suffix all s e =
    subst (All (λ e. VertexBelow n (entry_of e))) (sym e)
    (All-append (λ e. VertexBelow n (entry_of e)) (take place entries) suffix (All-take (λ e. VertexBelow n (entry_of e)) place entries (All-unmap n entries all)) s)

pub spliced_is : (place : ℕ) (entries after suffix : List Entry) → after ≡ take place entries ++ suffix → map entry_of after ≡ take place (map entry_of entries) ++ map entry_of suffix
spliced_is place entries after suffix e = ap (map entry_of) e ∙ map-append entry_of (take place entries) suffix ∙ ap (λ (l : List Step). l ++ map entry_of suffix) (sym (take-map entry_of place entries))

pub removed_is : (place : ℕ) (entries removed : List Entry) → removed ≡ drop place entries → map entry_of removed ≡ drop place (map entry_of entries)
removed_is place entries removed e = ap (map entry_of) e ∙ sym (drop-map entry_of place entries)

pub removed_below : (n place : ℕ) (entries removed : List Entry) → All (VertexBelow n) (map entry_of entries) → removed ≡ drop place entries → All (λ e. VertexBelow n (entry_of e)) removed
removed_below n place entries removed all e = subst (All (λ e. VertexBelow n (entry_of e))) (sym e) (All-drop (λ e. VertexBelow n (entry_of e)) place entries (All-unmap n entries all))

-- the entries from the place on, as the code reads them
pub later_is : (place : ℕ) (entries after suffix read : List Entry) → place ≤ length entries → after ≡ take place entries ++ suffix → read ≡ after → take (length read - place) (drop place read) ≡ suffix
later_is place entries after suffix read within a r =
    take_rest read place
    ∙ ap (drop place) (r ∙ a)
    ∙ ap (λ (m : ℕ). drop m (take place entries ++ suffix)) (sym (length-take-le place entries within))
    ∙ drop-append_seam (take place entries) suffix

-- what a splice leaves, by what it takes back and what it takes in
module _ (n place : ℕ) (entries after suffix removed later : List Entry) (hopeful dual : List ℕ) (tracked : IsTracked n (map entry_of entries) hopeful dual)
    (after_is : after ≡ take place entries ++ suffix) (removed_here : removed ≡ drop place entries) where
  abbrev front : List Step
  front = take place (map entry_of entries)

  parts : map entry_of entries ≡ front ++ map entry_of removed
  parts = sym (take-append-drop place (map entry_of entries)) ∙ ap (λ (l : List Step). front ++ l) (sym (removed_is place entries removed removed_here))

  both_stand : LiftsStandAfter [] front × LiftsStandAfter front (map entry_of removed)
  both_stand = stand_parts LiftStands [] front (map entry_of removed) (subst (LiftsStandAfter []) parts tracked.lifts)

  pub removed_stand : LiftsStandAfter front (map entry_of removed)
  removed_stand = both_stand.1

  module _ (below : All (λ e. VertexBelow n (entry_of e)) suffix) (stand : LiftsStandAfter front (map entry_of suffix)) (later_here : later ≡ suffix) where
    after_parts : map entry_of after ≡ front ++ map entry_of suffix
    after_parts = spliced_is place entries after suffix after_is

    table_again : (table : Which) (old back next : List ℕ) → old ≡ table_of table (map entry_of entries) n →
        ((page : List Step) → LiftsStandAfter page (map entry_of removed) → old ≡ table_of table (page ++ map entry_of removed) n → back ≡ table_of table page n) →
        ((page : List Step) → back ≡ table_of table page n → next ≡ table_of table (page ++ map entry_of later) n) → next ≡ table_of table (map entry_of after) n
    table_again table old back next o b e =
        e front (b front both_stand.1 (o ∙ ap (λ (l : List Step). table_of table l n) parts))
        ∙ ap (λ (l : List Entry). table_of table (front ++ map entry_of l) n) later_here
        ∙ ap (λ (l : List Step). table_of table l n) (sym after_parts)

    pub tracked_spliced : (back_hopeful back_dual next_hopeful next_dual : List ℕ) →
        ((page : List Step) → LiftsStandAfter page (map entry_of removed) → hopeful ≡ table_of Hopeful (page ++ map entry_of removed) n → back_hopeful ≡ table_of Hopeful page n) →
        ((page : List Step) → LiftsStandAfter page (map entry_of removed) → dual ≡ table_of Dual (page ++ map entry_of removed) n → back_dual ≡ table_of Dual page n) →
        ((page : List Step) → back_hopeful ≡ table_of Hopeful page n → next_hopeful ≡ table_of Hopeful (page ++ map entry_of later) n) →
        ((page : List Step) → back_dual ≡ table_of Dual page n → next_dual ≡ table_of Dual (page ++ map entry_of later) n) → IsTracked n (map entry_of after) next_hopeful next_dual
    tracked_spliced back_hopeful back_dual next_hopeful next_dual bh bd nh nd = record {
      below = All-map (VertexBelow n) entry_of after (spliced_below n place entries after suffix tracked.below below after_is);
      lifts = subst (LiftsStandAfter []) (sym after_parts) (stand-append LiftStands [] front (map entry_of suffix) both_stand.0 stand);
      hopeful_is = table_again Hopeful hopeful back_hopeful next_hopeful tracked.hopeful_is bh nh;
      dual_is = table_again Dual dual back_dual next_dual tracked.dual_is bd nd;
    }
