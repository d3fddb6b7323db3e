-- The text of a set of actions, as mCRL2 writes action formulas. This project's own.
use Rattle.std.specs.Prelude.{ℕ, suc, List, [], ◌∷◌, ◌++◌, length, drop, Bool, true, false, nat_le, if◌then◌else◌, codes, slice_index_or}
use Rattle.std.specs.Bool.{beq}

-- the sign in front of an action of the set, or of one that it lacks
abbrev pub sign_text : Bool → List ℕ
sign_text true = codes " || "
sign_text false = codes " && !"

-- an action of this number, if the set has it or lacks it as it should
abbrev pub action_text : Bool → List Bool → ℕ → List ℕ → List ℕ
action_text is_in set n name = if beq (slice_index_or set n false) is_in then sign_text is_in ++ name else []

-- The actions of the set, or those that it lacks, each after its sign. The names are those of the actions from this
-- number on.
abbrev pub listed : Bool → List Bool → ℕ → List (List ℕ) → List ℕ
listed is_in set n [] = []
listed is_in set n (name ∷ names) = action_text is_in set n name ++ listed is_in set (suc n) names

-- the shorter of two lists of actions, without the first ` || `, or the ` && ` in front of the first `!`
abbrev pub shorter : List ℕ → List ℕ → List ℕ
shorter inside outside = drop 4 (if nat_le (length inside) (length outside) then inside else outside)

-- `true` for all actions, `false` for none
abbrev pub set_by : List ℕ → List ℕ → List ℕ
set_by inside [] = codes "true"
set_by [] (b ∷ outside) = codes "false"
set_by (a ∷ inside) (b ∷ outside) = shorter (a ∷ inside) (b ∷ outside)

-- The text of a set over actions of these names: `a || b`, or `!c && !d` of those that it lacks, whichever is shorter.
abbrev pub set_text : List (List ℕ) → List Bool → List ℕ
set_text names set = set_by (listed true set 0 names) (listed false set 0 names)
