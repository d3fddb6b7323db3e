-- The tree that rows spell by their indentation. As in Python, a row is indented more than the row above it, or as one
-- of the open rows, which are the row above, its parent, the parent of that, and so on; its parent is the nearest open
-- row that is indented less. Groups stand below features, and features below groups.
use Rattle.std.specs.Prelude.{ℕ, ◌-◌, Bool, true, false, not, ◌&&◌, ◌||◌, ◌==◌, if◌then◌else◌, nat_lt, List, [], ◌∷◌, ◌++◌, length, filter, Option, Some, None, Result, Ok, Err, slice_get, is_some, bytes_eq, codes}
use Rattle.std.specs.List.{list_all, list_any}
use Rattle.vpg_features.specs.Names.{index_of}
use Rattle.vpg_tree.specs.Tree.{Tree}
use Rattle.vpg_tree.specs.declared.group.Kind.{Kind}
pub use Rattle.vpg_uvl.specs.declared.growth.Open.{Open}
use Rattle.vpg_uvl.specs.Rows.{after_blanks, indentation, word_at, is_head}
use Rattle.vpg_uvl.specs.Items.{Item, head, named, Stop, stopped, Reason, Syntax, Indentation, Import, Level, Twice, TooMany, NoMember, item_of}

-- a tree, and the open rows, the root's first
pub record Growth : Type 0 where
  pub tree : Tree
  pub open_rows : List Open

-- the open rows that are indented less
abbrev pub narrower : ℕ → List Open → List Open
narrower indent rows = filter (λ row. nat_lt row.indent indent) rows

-- the last of the open rows
abbrev pub last_of : List Open → Option Open
last_of rows = slice_get rows (length rows - 1)

-- a row with this indentation may come next
abbrev pub is_aligned : ℕ → List Open → Bool
is_aligned indent rows =
    list_all (λ row. nat_lt row.indent indent) rows || list_any (λ row. row.indent == indent) rows

-- the row above is the head of a group
abbrev pub ends_in_head : Option Open → Bool
ends_in_head None = false
ends_in_head (Some row) = row.is_group

-- the head above would have no member: the next row is not indented more
abbrev pub lacks_member : ℕ → List Open → Bool
lacks_member indent rows = ends_in_head (last_of rows) && not (list_all (λ row. nat_lt row.indent indent) rows)

-- with one more group below a feature
abbrev pub with_group : Growth → ℕ → List Open → ℕ → Kind → Growth
with_group g indent parents parent kind = record {
  tree = record g.tree { groups = g.tree.groups ++ record { parent = parent; kind = kind } ∷ [] };
  open_rows = parents ++ record { indent = indent; is_group = true; number = length g.tree.groups } ∷ [];
}

-- with one more feature in a group
abbrev pub with_feature : Growth → ℕ → List Open → ℕ → List ℕ → Growth
with_feature g indent parents group name = record {
  tree = record g.tree { names = g.tree.names ++ name ∷ []; places = g.tree.places ++ group ∷ [] };
  open_rows = parents ++ record { indent = indent; is_group = false; number = length g.tree.names } ∷ [];
}

-- an item below this parent
abbrev pub placed : Growth → ℕ → List ℕ → List Open → Open → Item → Result Growth Stop
placed g indent body parents parent (head kind) =
    if parent.is_group then stopped Syntax body else Ok (with_group g indent parents parent.number kind)
placed g indent body parents parent (named name) =
    if parent.is_group then
    (if is_some (index_of g.tree.names name) then stopped Twice body
    else (if length g.tree.names == 512 then stopped TooMany body
    else Ok (with_feature g indent parents parent.number name)))
    else stopped Syntax body

abbrev pub placed_below : Growth → ℕ → List ℕ → List Open → Option Open → Item → Result Growth Stop
placed_below g indent body parents None item = stopped Syntax body
placed_below g indent body parents (Some parent) item = placed g indent body parents parent item

abbrev pub placed_item : Growth → ℕ → List ℕ → Result Item Stop → Result Growth Stop
placed_item g indent body (Err stop) = Err stop
placed_item g indent body (Ok item) =
    placed_below g indent body (narrower indent g.open_rows) (last_of (narrower indent g.open_rows)) item

-- why a row with this indentation cannot come next, if it cannot
abbrev pub early_stop : ℕ → List Open → Option Reason
early_stop indent rows =
    if lacks_member indent rows then Some NoMember
    else (if is_aligned indent rows then None else Some Indentation)

abbrev pub grown_by : Growth → ℕ → List ℕ → Option Reason → Result Growth Stop
grown_by g indent body None = placed_item g indent body (item_of body)
grown_by g indent body (Some reason) = stopped reason body

abbrev pub grown_at : Growth → ℕ → List ℕ → Result Growth Stop
grown_at g indent body = grown_by g indent body (early_stop indent g.open_rows)

-- the tree after one more row
abbrev pub grown : Growth → List ℕ → Result Growth Stop
grown g bytes = grown_at g (indentation bytes) (after_blanks bytes)

-- the tree of a root alone
abbrev pub seed : ℕ → List ℕ → Growth
seed indent name = record {
  tree = record { names = name ∷ []; groups = []; places = []; constraints = [] };
  open_rows = record { indent = indent; is_group = false; number = 0 } ∷ [];
}

abbrev pub rooted_item : ℕ → List ℕ → Result Item Stop → Result Growth Stop
rooted_item indent body (Err stop) = Err stop
rooted_item indent body (Ok (head kind)) = stopped Syntax body
rooted_item indent body (Ok (named name)) = Ok (seed indent name)

-- the tree of the root's row, which is indented
abbrev pub rooted : List ℕ → Result Growth Stop
rooted bytes =
    if indentation bytes == 0 then stopped Indentation (after_blanks bytes)
    else rooted_item (indentation bytes) (after_blanks bytes) (item_of (after_blanks bytes))

-- a language level that diagrams have
abbrev pub is_level : List ℕ → Bool
is_level body =
    is_head (codes "Boolean") body || is_head (codes "Boolean.*") body
    || is_head (codes "Boolean.group-cardinality") body

-- why a row before `features` is refused, if it is: it is neither a namespace, nor `include`, nor, indented, a level
abbrev pub front_stop : List ℕ → Option Stop
front_stop bytes =
    if indentation bytes == 0
    then (if bytes_eq (word_at bytes) (codes "namespace") || is_head (codes "include") bytes then None
    else Some (record { reason = if bytes_eq (word_at bytes) (codes "imports") then Import else Syntax; left = bytes }))
    else (if is_level (after_blanks bytes) then None
    else Some (record { reason = Level; left = after_blanks bytes }))
