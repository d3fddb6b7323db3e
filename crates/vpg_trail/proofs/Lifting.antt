-- Lifts that stand after the entries before them, and tables with entries taken back.
use Rattle.std.proofs.Common.{◌≡◌, ℕ, ◌+◌, ◌<◌, ◌≤◌, Bool, true, false, cond, not, List, [], ◌∷◌, ◌++◌, map, filter, length, take, drop, get_or, slice_set, arith, refl, sym, ap, ◌∙◌, subst, append_assoc}
use Rattle.std.proofs.lemmas.List.{set-set, set-get_or, get_or_default}
use Rattle.vpg_trail.specs.Page.{Which, Lift as Raise, Entry as Step, Decided, Lifted, same_table, assumes, is_free, value_at, table_of, reset, reset_all}
use Rattle.vpg_trail.specs.WellFormed.{LiftStands, LiftsStandAfter}
use Rattle.vpg_trail.specs.Laws.{WellFormedLiftsStand, LiftsStandInParts, RetractedLiftsStand, FreeLiftsStand}
use Rattle.vpg_trail.specs.declared.entry.Entry.{Entry}
use Rattle.vpg_trail.specs.declared.entry.Entry.TheVariants.{Decide, Lift}
use Rattle.vpg_trail.specs.Shown.{entry_of, VertexBelow, before_entry}
use Rattle.vpg_trail.proofs.PageLemmas.{value_at-append, stand-append, stand_parts}
use Rattle.vpg_trail.proofs.Places.{split_read, read_more}
use Rattle.vpg_trail.proofs.Replays.{same_table-true}
use Rattle.vpg_trail.proofs.Tables.{tables_after_entry, tables_hold}

-- ---- the laws

pub well_formed_lifts_stand : WellFormedLiftsStand
well_formed_lifts_stand before [] w = tt
well_formed_lifts_stand before (Decided d ∷ page) w = (tt, well_formed_lifts_stand (before ++ Decided d ∷ []) page w.1)
well_formed_lifts_stand before (Lifted l ∷ page) w = (w.0.0, well_formed_lifts_stand (before ++ Lifted l ∷ []) page w.1)

pub lifts_stand_in_parts : LiftsStandInParts
lifts_stand_in_parts before page more = (stand_parts LiftStands before page more, λ p. stand-append LiftStands before page more p.0 p.1)

abbrev IsLowerPage : List Step → List Step → Type 0
IsLowerPage low high = (table : Which) (v : ℕ) → value_at table v low ≤ value_at table v high

stay_standing : (keep : Step → Bool) (low high later : List Step) → IsLowerPage low high → LiftsStandAfter high later → LiftsStandAfter low (reset_all low (filter keep later))
stay_standing keep low high [] t w = tt
stay_standing keep low high (Decided d ∷ later) t w =
    go (keep (Decided d))
    (stay_standing keep low (high ++ Decided d ∷ []) later (λ table v. omega (arith, value_at-append table v high (Decided d ∷ []), t table v)) w.1)
    (stay_standing keep (low ++ Decided d ∷ []) (high ++ Decided d ∷ []) later (λ table v. omega (arith, value_at-append table v low (Decided d ∷ []), value_at-append table v high (Decided d ∷ []), t table v)) w.1)
  where
    go : (b : Bool) → LiftsStandAfter low (reset_all low (filter keep later)) →
        LiftsStandAfter (low ++ Decided d ∷ []) (reset_all (low ++ Decided d ∷ []) (filter keep later)) →
        LiftsStandAfter low (reset_all low (cond b (Decided d ∷ filter keep later) (filter keep later)))
    go true dropped stays = (tt, stays)
    go false dropped stays = dropped
stay_standing keep low high (Lifted l ∷ later) t w =
    go (keep (Lifted l))
    (stay_standing keep low (high ++ Lifted l ∷ []) later (λ table v. omega (arith, value_at-append table v high (Lifted l ∷ []), t table v)) w.1)
    (stay_standing keep (low ++ reset low (Lifted l) ∷ []) (high ++ Lifted l ∷ []) later (λ table v. omega (arith, value_at-append table v low (reset low (Lifted l) ∷ []), value_at-append table v high (Lifted l ∷ []), t table v)) w.1)
  where
    go : (b : Bool) → LiftsStandAfter low (reset_all low (filter keep later)) →
        LiftsStandAfter (low ++ reset low (Lifted l) ∷ []) (reset_all (low ++ reset low (Lifted l) ∷ []) (filter keep later)) →
        LiftsStandAfter low (reset_all low (cond b (Lifted l ∷ filter keep later) (filter keep later)))
    go true dropped stays = ((refl, omega (arith, t l.table l.vertex, w.0.0, w.0.1)), stays)
    go false dropped stays = dropped

-- the entry that is retracted only raises the tables
standing_without : (keep : Step → Bool) (before later : List Step) (e : Step) → LiftsStandAfter (before ++ e ∷ []) later → LiftsStandAfter before (reset_all before (filter keep later))
standing_without keep before later e w = stay_standing keep before (before ++ e ∷ []) later (λ table v. omega (arith, value_at-append table v before (e ∷ []))) w

pub retracted_lifts_stand : RetractedLiftsStand
retracted_lifts_stand f before later e w = standing_without (λ x. not (assumes f x)) before later e w

pub free_lifts_stand : FreeLiftsStand
free_lifts_stand before later e w = standing_without is_free before later e w

-- what stays of the entries behind a place
pub stays_standing : (keep : Step → Bool) (place : ℕ) (entries : List Entry) → place < length entries → LiftsStandAfter [] (map entry_of entries) →
    LiftsStandAfter (map entry_of (take place entries)) (reset_all (map entry_of (take place entries)) (filter keep (map entry_of (drop (place + 1) entries))))
stays_standing keep place [] h w = absurd (omega arith)
stays_standing keep place (e ∷ entries) h w =
    standing_without keep (map entry_of (take place (e ∷ entries))) (map entry_of (drop (place + 1) (e ∷ entries))) (entry_of x)
    (stand_parts LiftStands [] (map entry_of (take place (e ∷ entries))) (entry_of x ∷ map entry_of (drop (place + 1) (e ∷ entries)))
    (subst (LiftsStandAfter []) (split_read (e ∷ entries) place x h (get_or_default (e ∷ entries) place e x h)) w)).1.1
  where
    x : Entry
    x = get_or (e ∷ entries) place e

-- ---- one entry taken back

pub before_entry_is : (table : Which) (page : List Step) (n : ℕ) (e : Entry) → VertexBelow n (entry_of e) → LiftStands page (entry_of e) → before_entry table (table_of table (page ++ entry_of e ∷ []) n) (entry_of e) ≡ table_of table page n
before_entry_is table page n (Decide d) h s = (tables_after_entry table page n).0 _
before_entry_is table page n (Lift t v old new under) h s = go (same_table table t) refl
  where
    l : Raise
    l = record { table = t; vertex = v; old = old; new = new; under = under.value }

    go : (b : Bool) → same_table table t ≡ b → cond b (slice_set (table_of table (page ++ Lifted l ∷ []) n) v old) (table_of table (page ++ Lifted l ∷ []) n) ≡ table_of table page n
    go true e =
        let same : table ≡ t = same_table-true table t e in
        let held : old ≡ get_or (table_of table page n) v 0 = s.0 ∙ ap (λ (x : Which). value_at x v page) (sym same) ∙ sym ((tables_hold table page n v).1 h) in
        ap (λ (xs : List ℕ). slice_set xs v old) ((tables_after_entry table page n).1 l same h)
        ∙ set-set (table_of table page n) v _ old
        ∙ ap (λ (m : ℕ). slice_set (table_of table page n) v m) held
        ∙ set-get_or (table_of table page n) v 0
    go false e = (tables_after_entry table page n).2 l e

-- one entry of the list less, as a loop reads it
pub table_less : (table : Which) (page : List Step) (entries : List Entry) (k i n : ℕ) (x : Entry) (old new : List ℕ) → k ≡ i + 1 → i < length entries → x ≡ get_or entries i x → VertexBelow n (entry_of x) →
    LiftsStandAfter page (map entry_of entries) → old ≡ table_of table (page ++ map entry_of (take k entries)) n → new ≡ before_entry table old (entry_of x) → new ≡ table_of table (page ++ map entry_of (take i entries)) n
table_less table page entries k i n x old new e h r v w o s =
    s ∙ ap (λ (xs : List ℕ). before_entry table xs (entry_of x)) (o ∙ ap (λ (m : ℕ). table_of table (page ++ map entry_of (take m entries)) n) e ∙ ap (λ (l : List Step). table_of table l n) (ap (λ (l : List Step). page ++ l) (read_more entries i x h r) ∙ sym (append_assoc page (map entry_of (take i entries)) (entry_of x ∷ []))))
    ∙ before_entry_is table (page ++ map entry_of (take i entries)) n x v stands
  where
    stands : LiftStands (page ++ map entry_of (take i entries)) (entry_of x)
    stands = (stand_parts LiftStands page (map entry_of (take i entries)) (entry_of x ∷ map entry_of (drop (i + 1) entries)) (subst (LiftsStandAfter page) (split_read entries i x h r) w)).1.0
