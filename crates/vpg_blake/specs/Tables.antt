-- The steps of the work on truth tables, as functions on lists, for private contracts. This project's own.
use Rattle.std.specs.Prelude.{ℕ, List, [], ◌∷◌, ◌++◌, Bool, true, false, ◌&&◌, ◌/◌, map, zip, take, drop, length, if◌then◌else◌, slice_index_or, slice_set}
use Rattle.vpg_guards.specs.Formula.{Formula, truth}
use Rattle.vpg_blake.specs.Blake.{Cube, merged}

-- the truth of a guard for each choice of the features, those with the first feature in first
abbrev pub table_from : Formula → List ℕ → List Bool → List Bool
table_from g [] set = truth set g ∷ []
table_from g (x ∷ xs) set = table_from g xs (slice_set set x true) ++ table_from g xs set

-- the rows that are true in both tables
abbrev pub both_true : List Bool → List Bool → List Bool
both_true with without = map (λ p. p.0 && p.1) (zip with without)

-- the prime implicants of a table's rows
abbrev pub table_implicants : List ℕ → List Bool → List Cube
table_implicants [] table = if slice_index_or table 0 false then [] ∷ [] else []
table_implicants (x ∷ xs) table =
    let with = take (length table / 2) table in
    let without = drop (length table / 2) table in
    merged x (table_implicants xs with) (table_implicants xs without) (table_implicants xs (both_true with without))
