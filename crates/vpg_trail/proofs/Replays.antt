-- Tables, retracted suffixes and lifts, one entry more.
use Rattle.std.proofs.Common.{add-one, lt-ltb, le-ltb, Option, Some, None, IfSome, option_to_list, All, append-nil, append_assoc, filter, ◌≡◌, ◌≤◌, ℕ, ◌+◌, ◌<◌, max, Bool, true, false, cond, Global, List, [], ◌∷◌, ◌++◌, map, length, take, drop, get_or, slice_index, slice_set, arith, refl, sym, ap, ◌∙◌, subst}
use Rattle.std.proofs.lemmas.Bool.{cond-true, cond-false}
use Rattle.std.proofs.lemmas.List.Elements.{filter-append, All-take, All-drop}
use Rattle.std.proofs.lemmas.List.{map_push, map_more}
use Rattle.std.specs.declared.sync.Arc.{Arc}
use Rattle.vpg_sides.specs.declared.which.Which.{Which}
use Rattle.vpg_sides.specs.declared.which.Which.TheVariants.{Hopeful, Dual}
use Rattle.vpg_trail.specs.Page.{Literal, same_table, Entry as Step, Lift as Raise, Lifted, value_at, table_of, reset, reset_all, raises, raise_to}
use Rattle.vpg_trail.specs.Shown.{entry_of, VertexBelow, after_entry, keeps, lift_stays, what_stays, with_old}
use Rattle.vpg_trail.specs.declared.entry.Entry.{Entry}
use Rattle.vpg_trail.specs.declared.entry.Entry.TheVariants.{Decide, Lift}
use Rattle.vpg_trail.proofs.PageLemmas.{length-table_of}
use Rattle.vpg_trail.proofs.Tables.{tables_after_entry, tables_hold, reset_one_more}

pub same_table-true : (a b : Which) → same_table a b ≡ true → a ≡ b
same_table-true Hopeful Hopeful e = refl
same_table-true Hopeful Dual e = cc
same_table-true Dual Hopeful e = cc
same_table-true Dual Dual e = refl

pub after_entry_is : (table : Which) (page : List Step) (n : ℕ) (e : Entry) → VertexBelow n (entry_of e) → after_entry table (table_of table page n) (entry_of e) ≡ table_of table (page ++ entry_of e ∷ []) n
after_entry_is table page n (Decide d) h = sym ((tables_after_entry table page n).0 _)
after_entry_is table page n (Lift t v old new under) h = go (same_table table t) refl
  where
    l : Raise
    l = record { table = t; vertex = v; old = old; new = new; under = under.value }

    go : (b : Bool) → same_table table t ≡ b → cond b (slice_set (table_of table page n) v (max (slice_index (table_of table page n) v) new)) (table_of table page n) ≡ table_of table (page ++ Lifted l ∷ []) n
    go true e = ap (λ (m : ℕ). slice_set (table_of table page n) v (max m new)) ((tables_hold table page n v).1 h) ∙ sym ((tables_after_entry table page n).1 l (same_table-true table t e) h)
    go false e = sym ((tables_after_entry table page n).2 l e)

-- one entry of the list more, as a loop reads it
pub table_more : (table : Which) (page : List Step) (entries : List Entry) (i n : ℕ) (x : Entry) (old new : List ℕ) → i < length entries → x ≡ get_or entries i x → VertexBelow n (entry_of (get_or entries i x)) →
    old ≡ table_of table (page ++ map entry_of (take i entries)) n → new ≡ after_entry table old (entry_of x) → new ≡ table_of table (page ++ map entry_of (take (i + 1) entries)) n
table_more table page entries i n x old new h r v o s =
    s ∙ ap (λ (e : Entry). after_entry table old (entry_of e)) r
    ∙ ap (λ (xs : List ℕ). after_entry table xs (entry_of (get_or entries i x))) o
    ∙ after_entry_is table (page ++ map entry_of (take i entries)) n (get_or entries i x) v
    ∙ ap (λ (l : List Step). table_of table l n) (append_assoc page (map entry_of (take i entries)) (entry_of (get_or entries i x) ∷ []) ∙ ap (λ (l : List Step). page ++ l) (sym (map_more entry_of entries i x h)))

-- an entry on a vertex of a page's tables is on one of a table as long, and back
pub below_table : (table : Which) (page : List Step) (n : ℕ) (values : List ℕ) (e : Step) → values ≡ table_of table page n → VertexBelow n e → VertexBelow (length values) e
below_table table page n values e o h = subst (λ (m : ℕ). VertexBelow m e) (sym (ap length o ∙ length-table_of table page n)) h

pub below_page : (table : Which) (page : List Step) (n : ℕ) (values : List ℕ) (e : Step) → values ≡ table_of table page n → VertexBelow (length values) e → VertexBelow n e
below_page table page n values e o h = subst (λ (m : ℕ). VertexBelow m e) (ap length o ∙ length-table_of table page n) h

-- the entry that a loop reads is on a vertex of the tables
pub read_below : (entries : List Entry) (i n m : ℕ) (x : Entry) → i < length entries → x ≡ get_or entries i x → All (λ e. VertexBelow n (entry_of e)) entries → m ≡ n → VertexBelow m (entry_of x)
read_below entries i n m x h r all e = subst (λ (k : ℕ). VertexBelow k (entry_of x)) (sym e) (subst (λ (e : Entry). VertexBelow n (entry_of e)) (sym r) (all i x h))

-- ---- what stays of an entry

keeps_lift : (feature : Option ℕ) (l : Raise) → keeps feature (Lifted l) ≡ lift_stays feature l.under
keeps_lift (Some f) l = refl
keeps_lift None l = refl

module _ (feature : Option ℕ) (hopeful dual : List ℕ) (t : Which) (v old new : ℕ) (under : Arc (List Literal) Global) (e : Entry) (is : e ≡ Lift t v old new under) where
  told : (b : Bool) → lift_stays feature under.value ≡ b → what_stays feature hopeful dual (entry_of e) ≡ cond b (with_old hopeful dual (entry_of (Lift t v old new under)) ∷ []) []
  told b a = ap (λ (x : Entry). what_stays feature hopeful dual (entry_of x)) is ∙ ap (λ (b : Bool). cond b (with_old hopeful dual (entry_of (Lift t v old new under)) ∷ []) []) (keeps_lift feature _ ∙ a)

-- the old value that the tables of the page before give
pub with_old_is : (page : List Step) (n : ℕ) (e : Entry) → VertexBelow n (entry_of e) → with_old (table_of Hopeful page n) (table_of Dual page n) (entry_of e) ≡ reset page (entry_of e)
with_old_is page n (Decide d) h = refl
with_old_is page n (Lift Hopeful v old new under) h = ap (λ (m : ℕ). Lifted (record { table = Hopeful; vertex = v; old = m; new = new; under = under.value })) ((tables_hold Hopeful page n v).1 h)
with_old_is page n (Lift Dual v old new under) h = ap (λ (m : ℕ). Lifted (record { table = Dual; vertex = v; old = m; new = new; under = under.value })) ((tables_hold Dual page n v).1 h)

-- ---- one entry more after a retract

filter_one : (f : Option ℕ) (later : List Entry) (i : ℕ) (x : Entry) → i < length later → x ≡ get_or later i x →
    filter (keeps f) (map entry_of (take (i + 1) later)) ≡ filter (keeps f) (map entry_of (take i later)) ++ cond (keeps f (entry_of x)) (entry_of x ∷ []) []
filter_one f later i x h r =
    ap (filter (keeps f)) (map_more entry_of later i x h ∙ ap (λ (e : Entry). map entry_of (take i later) ++ entry_of e ∷ []) (sym r))
    ∙ filter-append (keeps f) (map entry_of (take i later)) (entry_of x ∷ [])

module _ (f : Option ℕ) (n : ℕ) (before : List Step) (later kept : List Entry) (hopeful dual : List ℕ) (i : ℕ) (x : Entry) (within : i < length later) (read : x ≡ get_or later i x)
    (hopeful_is : hopeful ≡ table_of Hopeful (before ++ map entry_of kept) n) (dual_is : dual ≡ table_of Dual (before ++ map entry_of kept) n)
    (kept_is : map entry_of kept ≡ reset_all before (filter (keeps f) (map entry_of (take i later)))) (vertex : VertexBelow n (entry_of x)) where
  pub kept_none : ◌≡◌ {A = List Step} [] (what_stays f hopeful dual (entry_of x)) → map entry_of kept ≡ reset_all before (filter (keeps f) (map entry_of (take (i + 1) later)))
  kept_none e = kept_is ∙ ap (reset_all before) (sym (filter_one f later i x within read ∙ go (keeps f (entry_of x)) e))
    where
      go : (b : Bool) → ◌≡◌ {A = List Step} [] (cond b (with_old hopeful dual (entry_of x) ∷ []) []) →
          filter (keeps f) (map entry_of (take i later)) ++ cond b (entry_of x ∷ []) [] ≡ filter (keeps f) (map entry_of (take i later))
      go true k = cc
      go false k = append-nil (filter (keeps f) (map entry_of (take i later)))

  pub kept_some : (stays : Entry) → entry_of stays ∷ [] ≡ what_stays f hopeful dual (entry_of x) → map entry_of (kept ++ stays ∷ []) ≡ reset_all before (filter (keeps f) (map entry_of (take (i + 1) later)))
  kept_some stays e =
      map_push entry_of kept stays
      ∙ go (keeps f (entry_of x)) e
      ∙ ap (reset_all before) (sym (filter_one f later i x within read))
    where
      old_is : with_old hopeful dual (entry_of x) ≡ reset (before ++ reset_all before (filter (keeps f) (map entry_of (take i later)))) (entry_of x)
      old_is =
          (λ j. with_old (hopeful_is j) (dual_is j) (entry_of x))
          ∙ with_old_is (before ++ map entry_of kept) n x vertex
          ∙ ap (λ (l : List Step). reset (before ++ l) (entry_of x)) kept_is

      go : (b : Bool) → entry_of stays ∷ [] ≡ cond b (with_old hopeful dual (entry_of x) ∷ []) [] →
          map entry_of kept ++ entry_of stays ∷ [] ≡ reset_all before (filter (keeps f) (map entry_of (take i later)) ++ cond b (entry_of x ∷ []) [])
      go true k =
          (λ j. kept_is j ++ k j)
          ∙ ap (λ (s : Step). reset_all before (filter (keeps f) (map entry_of (take i later))) ++ s ∷ []) old_is
          ∙ sym (reset_one_more before (filter (keeps f) (map entry_of (take i later))) (entry_of x))
      go false k = cc

pub kept_table : (table : Which) (n : ℕ) (before : List Step) (kept : List Entry) (old new : List ℕ) (stays : Entry) → old ≡ table_of table (before ++ map entry_of kept) n → new ≡ after_entry table old (entry_of stays) → VertexBelow n (entry_of stays) →
    new ≡ table_of table (before ++ map entry_of (kept ++ stays ∷ [])) n
kept_table table n before kept old new stays o e v =
    e ∙ ap (λ (xs : List ℕ). after_entry table xs (entry_of stays)) o ∙ after_entry_is table (before ++ map entry_of kept) n stays v
    ∙ ap (λ (l : List Step). table_of table l n) (append_assoc before (map entry_of kept) (entry_of stays ∷ []) ∙ ap (λ (l : List Step). before ++ l) (sym (map_push entry_of kept stays)))

-- by what a loop over the later entries reads
pub vertex_read : (n : ℕ) (entries : List Entry) (m k i : ℕ) (x : Entry) → All (λ x. VertexBelow n (entry_of x)) entries → i < length (take m (drop k entries)) → x ≡ get_or (take m (drop k entries)) i x → VertexBelow n (entry_of x)
vertex_read n entries m k i x all h r = subst (λ (e : Entry). VertexBelow n (entry_of e)) (sym r) (All-take (λ e. VertexBelow n (entry_of e)) m (drop k entries) (All-drop (λ e. VertexBelow n (entry_of e)) k entries all) i x h)

pub some_vertex : (P : Entry → Type 0) (o : Option Entry) (stays : Entry) → o ≡ Some stays → IfSome o P → P stays
some_vertex P o stays s h = subst (λ (x : Option Entry). IfSome x P) s h

pub told_stays : (o p : Option Entry) (told : List Step) → map entry_of (option_to_list o) ≡ told → o ≡ p → map entry_of (option_to_list p) ≡ told
told_stays o p told e s = ap (λ (x : Option Entry). map entry_of (option_to_list x)) (sym s) ∙ e

-- ---- the lifts of one vertex more

module _ (table : Which) (present values : List ℕ) (under : Arc (List Literal) Global) (page : List Step) (lifts : List Entry) (v n : ℕ) (present_is : present ≡ table_of table page n) (within : v < n)
    (so_far : map entry_of lifts ≡ raises (under.value) page table values v) where
  value : slice_index present v ≡ value_at table v page
  value = ap (λ (l : List ℕ). slice_index l v) present_is ∙ (tables_hold table page n v).1 within

  one_more : (shown : List Step) → shown ≡ raise_to (under.value) page table v (slice_index values v) →
      map entry_of lifts ++ shown ≡ raises (under.value) page table values (v + 1)
  one_more shown e = (λ i. so_far i ++ e i) ∙ ap (raises (under.value) page table values) (sym (add-one v))

  pub lifts_some : (after : List Entry) (old new : ℕ) (copy : Arc (List Literal) Global) → copy.value ≡ under.value → after ≡ lifts ++ Lift table v old new copy ∷ [] → old ≡ slice_index present v → new ≡ slice_index values v → old < new →
      map entry_of after ≡ raises (under.value) page table values (v + 1)
  lifts_some after old new copy same pushed o w h =
      ap (map entry_of) pushed ∙ map_push entry_of lifts (Lift table v old new copy) ∙ one_more (entry_of (Lift table v old new copy) ∷ []) shown
    where
      shown : entry_of (Lift table v old new copy) ∷ [] ≡ raise_to (under.value) page table v (slice_index values v)
      shown =
          (λ i. Lifted (record { table = table; vertex = v; old = (o ∙ value) i; new = w i; under = same i }) ∷ [])
          ∙ sym (cond-true _ _ _ (lt-ltb (value_at table v page) (slice_index values v) (omega (arith, o, value, w, h))))

  pub lifts_none : slice_index values v ≤ slice_index present v → map entry_of lifts ≡ raises (under.value) page table values (v + 1)
  lifts_none h = sym (append-nil (map entry_of lifts)) ∙ one_more [] (sym (cond-false _ _ _ (le-ltb (value_at table v page) (slice_index values v) (omega (arith, value, h)))))
