-- Entries as contracts see them, and tables entry by entry.
use Rattle.std.specs.Prelude.{ℕ, ◌≡◌, ◌<◌, Bool, not, max, slice_index, slice_set, if◌then◌else◌, List, [], ◌∷◌, length, ◌==◌, All, Option, Some, None, ⊤}
use Rattle.std.specs.List.{list_any}
use Rattle.vpg_sides.specs.declared.which.Which.{Which}
use Rattle.vpg_sides.specs.declared.which.Which.TheVariants.{Hopeful, Dual}
use Rattle.vpg_trail.specs.Page.{Literal, assumes, is_free, same_table, table_of, Entry as Step, Decided, Lifted}
use Rattle.vpg_trail.specs.WellFormed.{LiftsStandAfter}
use Rattle.vpg_trail.specs.declared.entry.Entry.{Entry}
use Rattle.vpg_trail.specs.declared.entry.Entry.TheVariants.{Decide, Lift}

-- an entry of the code, with the list of the choices that a lift assumed
abbrev pub entry_of : Entry → Step
entry_of (Decide d) = Decided d
entry_of (Lift table vertex old new under) =
    Lifted (record { table = table; vertex = vertex; old = old; new = new; under = under.value })

-- a lift's vertex is below n
abbrev pub VertexBelow : ℕ → Step → Type 0
VertexBelow n (Decided d) = ⊤
VertexBelow n (Lifted l) = l.vertex < n

-- the entries of a page over that many vertices
pub record Track : Type 0 where
  pub vertices : ℕ
  pub entries : List Step

-- ---- tables with one entry more, and with the last one taken back

-- the table after the entry is appended to the page that gives it
abbrev pub after_entry : Which → List ℕ → Step → List ℕ
after_entry table values (Decided d) = values
after_entry table values (Lifted l) =
    if same_table table l.table then slice_set values l.vertex (max (slice_index values l.vertex) l.new) else values

-- the table after the entry is removed from the end of the page that gives it
abbrev pub before_entry : Which → List ℕ → Step → List ℕ
before_entry table values (Decided d) = values
before_entry table values (Lifted l) = if same_table table l.table then slice_set values l.vertex l.old else values

abbrev pub picked : Which → List ℕ → List ℕ → List ℕ
picked Hopeful hopeful dual = hopeful
picked Dual hopeful dual = dual

-- the entry with the old value that the tables give
abbrev pub with_old : List ℕ → List ℕ → Step → Step
with_old hopeful dual (Decided d) = Decided d
with_old hopeful dual (Lifted l) = Lifted (record l { old = slice_index (picked l.table hopeful dual) l.vertex })

-- a lift that assumed these choices stays once f is retracted, or every decision
abbrev pub lift_stays : Option ℕ → List Literal → Bool
lift_stays (Some f) under = not (list_any (λ c. c.feature == f) under)
lift_stays None under = length under == 0

-- what a retraction keeps: each entry that did not assume f; or, if every decision is retracted, each free lift
abbrev pub keeps : Option ℕ → Step → Bool
keeps (Some f) = λ e. not (assumes f e)
keeps None = is_free

abbrev pub what_stays : Option ℕ → List ℕ → List ℕ → Step → List Step
what_stays feature hopeful dual e = if keeps feature e then with_old hopeful dual e ∷ [] else []

-- the tables are those of the entries, and each lift's old value is the one that the entries before it give, below its
-- new one
pub record IsTracked (vertices : ℕ) (entries : List Step) (hopeful dual : List ℕ) : Type 0 where
  pub below : All (VertexBelow vertices) entries
  pub lifts : LiftsStandAfter [] entries
  pub hopeful_is : hopeful ≡ table_of Hopeful entries vertices
  pub dual_is : dual ≡ table_of Dual entries vertices
