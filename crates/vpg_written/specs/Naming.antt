-- The code's look-up of names. This project's own.
use Rattle.std.specs.Prelude.{ℕ, zero, suc, List, [], Option, Some, None, Bool, false, bytes_eq, if◌then◌else◌, map, reverse, slice_index_or}
use Rattle.vpg_written.specs.Trees.{Around}
use Rattle.vpg_written.specs.declared.task.Binder.{Binder}
use Rattle.vpg_written.specs.declared.task.Binder.TheVariants as binders
use Rattle.vpg_written.specs.declared.task.Term.{Term}

abbrev pub binder_name : Binder → Option (List ℕ)
binder_name binders.Hidden = None
binder_name (binders.Named x) = Some x.now

-- the fixpoints around: the code has the innermost last
abbrev pub around_of : List Binder → Around
around_of bs = reverse (map binder_name bs)

-- whether a fixpoint has this name
abbrev pub is_binder : Binder → List ℕ → Bool
is_binder binders.Hidden x = false
is_binder (binders.Named y) x = bytes_eq x y.now

-- the names of entries
abbrev pub names_of : List Term → List (List ℕ)
names_of terms = map (λ t. t.name.now) terms

-- the number of the latest entry of this name before one
abbrev pub latest_before : List (List ℕ) → ℕ → List ℕ → Option ℕ
latest_before names zero x = None
latest_before names (suc n) x =
    if bytes_eq x (slice_index_or names n []) then Some n else latest_before names n x
