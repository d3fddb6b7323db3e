-- Which words of a formula are names, and which of these are known. The words alone decide, even if they are no
-- formula. A name is bound inside a fixpoint of it: up to the end of the innermost parenthesis around that. This
-- project's own.
use Rattle.std.specs.Prelude.{ℕ, zero, suc, List, [], ◌∷◌, Bool, true, false, ◌||◌, if◌then◌else◌, codes, bytes_eq, Option, Some, None}
use Rattle.std.specs.List.{list_any}
use Rattle.vpg_formula.specs.Written.{Modality, closing, is_variable, Head, of_action, modality, after_action, binder, head_of}
use Rattle.vpg_formula.specs.Standings.{is_among}

-- the part of a formula that a word belongs to
pub data Region : Type 0 where
  -- a formula
  in_formula : Region
  -- `mu` or `nu`: it is the variable
  at_variable : Region
  -- a regular formula between brackets
  in_path : Modality → Region
  -- `can`, `will` or `after`: an action formula begins with it
  at_action : Region
  -- an action formula, inside one more parenthesis than these
  in_action : ℕ → Region

-- a parenthesis or fixpoint that is open at a word
pub data Open : Type 0 where
  a_parenthesis : Open
  -- the fixpoint of this variable
  a_fixpoint : List ℕ → Open

-- where a word stands: what it belongs to, and what of the formula is open there, innermost first
pub record Spot : Type 0 where
  pub region : Region
  pub around : List Open

-- where a formula begins
abbrev pub at_first : Spot
at_first = record { region = in_formula; around = [] }

abbrev pub region_behind_head : Head → Region
region_behind_head (of_action make) = at_action
region_behind_head after_action = at_action
region_behind_head (modality m) = in_path m
region_behind_head (binder kind) = at_variable
region_behind_head head = in_formula

-- after a closing parenthesis, inside this many other open ones
abbrev pub closed_in : ℕ → Region
closed_in zero = in_formula
closed_in (suc n) = in_action n

-- the region after a word
abbrev pub region_behind : Region → List ℕ → Region
region_behind in_formula w = region_behind_head (head_of w)
region_behind at_variable w = in_formula
region_behind (in_path m) w = if bytes_eq w (closing m) then in_formula else in_path m
region_behind at_action w =
    if bytes_eq w (codes "!") then at_action else (if bytes_eq w (codes "(") then in_action 0 else in_formula)
region_behind (in_action n) w =
    if bytes_eq w (codes "(") then in_action (suc n) else (if bytes_eq w (codes ")") then closed_in n else in_action n)

-- the open parts without the innermost parenthesis, and without what is open in it
abbrev pub closed : List Open → List Open
closed [] = []
closed (a_parenthesis ∷ around) = around
closed (a_fixpoint x ∷ around) = closed around

-- the open parts after a word
abbrev pub around_behind : Region → List ℕ → List Open → List Open
around_behind in_formula w around =
    if bytes_eq w (codes "(") then a_parenthesis ∷ around
    else (if bytes_eq w (codes ")") then closed around else around)
around_behind at_variable w around = a_fixpoint w ∷ around
around_behind (in_path m) w around = around
around_behind at_action w around = around
around_behind (in_action n) w around = around

-- where the next word stands
abbrev pub behind : Spot → List ℕ → Spot
behind spot w =
    record { region = region_behind spot.region w; around = around_behind spot.region w spot.around }

abbrev pub binds : List ℕ → Open → Bool
binds x a_parenthesis = false
binds x (a_fixpoint y) = bytes_eq y x

abbrev pub is_bound : List Open → List ℕ → Bool
is_bound around x = list_any (binds x) around

abbrev pub known_in : List (List ℕ) → List Open → Region → List ℕ → Option Bool
known_in earlier around in_formula w =
    if is_variable w then Some (is_among earlier w || is_bound around w) else None
known_in earlier around region w = None

-- Whether the name here is known: bound, or an earlier entry's. None if there is no name here.
abbrev pub known_at : List (List ℕ) → Spot → List ℕ → Option Bool
known_at earlier spot w = known_in earlier spot.around spot.region w

-- a name: the number of words before it, and whether it is known
abbrev pub Mention : Type 0
Mention = ℕ × Bool

abbrev pub mention : Option Bool → ℕ → List Mention → List Mention
mention None k later = later
mention (Some known) k later = (k, known) ∷ later

-- the names among the words from there on, after this many words
abbrev pub mentions_from : List (List ℕ) → Spot → ℕ → List (List ℕ) → List Mention
mentions_from earlier spot k [] = []
mentions_from earlier spot k (w ∷ ws) =
    mention (known_at earlier spot w) k (mentions_from earlier (behind spot w) (suc k) ws)

-- the names of a formula that begins with these words, after entries of these names
abbrev pub mentions : List (List ℕ) → List (List ℕ) → List Mention
mentions earlier ws = mentions_from earlier at_first 0 ws

-- the number of words before the first name that is not known
abbrev pub first_unknown : List Mention → Option ℕ
first_unknown [] = None
first_unknown ((k, true) ∷ ms) = first_unknown ms
first_unknown ((k, false) ∷ ms) = Some k
