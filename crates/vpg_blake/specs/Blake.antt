-- Blake's form of a guard: the `or` of its prime implicants (Blake, Canonical Expressions in Boolean Algebra, 1937;
-- Quine, A Way to Simplify Truth Functions, 1955), which are found by splitting on a feature (Brown, Boolean Reasoning,
-- 1990).
use Rattle.std.specs.Prelude.{◌≡◌, ℕ, ◌≤◌, List, [], ◌∷◌, ◌++◌, Bool, true, false, not, ◌&&◌, ◌==◌, map, filter, length, if◌then◌else◌, slice_set, replicate}
use Rattle.std.specs.Bool.{beq}
use Rattle.std.specs.List.{list_any, range_with_len}
use Rattle.std.specs.Cmp.Lexicographic.{pointwise}
use Rattle.std.specs.Global.{Vec}
use Rattle.vpg_guards.specs.Formula.{Formula, Parts, always, never, feature, negation, all, any, no_parts, part, truth, named}
use Rattle.vpg_guards.specs.declared.tri.Tri.{Tri}
use Rattle.vpg_guards.specs.declared.tri.Tri.TheVariants.{No, Yes}
use Rattle.vpg_guards.specs.Known.{IsCompletion}
use Rattle.vpg_blake.specs.declared.literal.Literal.{Literal}

-- the features below n that a guard names, ascending
abbrev pub named_below : ℕ → Formula → List ℕ
named_below n g = filter (λ f. list_any (λ h. h == f) (named g)) (range_with_len 0 n)

-- ---- cubes

-- a cube is an `and` of literals
abbrev pub Cube : Type 0
Cube = List Literal

-- the cubes that lists of the code hold
abbrev pub cubes_in : List (Vec Literal) → List Cube
cubes_in cubes = map (λ v. v.items) cubes

-- whether two literals are the same
abbrev pub is_same_literal : Literal → Literal → Bool
is_same_literal l m = (l.feature == m.feature) && beq l.value m.value

-- whether a cube is one of these
abbrev pub has_cube : List Cube → Cube → Bool
has_cube cubes c = list_any (λ d. pointwise is_same_literal d c) cubes

-- the cubes that are not among the shared ones
abbrev pub unshared : List Cube → List Cube → List Cube
unshared cubes shared = filter (λ c. not (has_cube shared c)) cubes

-- each cube with one more literal
abbrev pub with_literal : Literal → List Cube → List Cube
with_literal l cubes = map (λ c. l ∷ c) cubes

-- ---- prime implicants

-- The prime implicants of a function of truth values. They come from those of three functions: the first feature in,
-- the first feature out, and both of these true.
abbrev pub merged : ℕ → List Cube → List Cube → List Cube → List Cube
merged x ins outs shared =
    with_literal record { feature = x; value = true } (unshared ins shared)
    ++ (with_literal record { feature = x; value = false } (unshared outs shared) ++ shared)

-- The prime implicants of a truth function of features; its rows of values are in the features' order. First come those
-- that need the first feature in, then those that need it out, then those that do without it.
abbrev pub implicants : List ℕ → (List Bool → Bool) → List Cube
implicants [] f = if f [] then [] ∷ [] else []
implicants (x ∷ xs) f =
    merged x (implicants xs (λ row. f (true ∷ row))) (implicants xs (λ row. f (false ∷ row)))
    (implicants xs (λ row. f (true ∷ row) && f (false ∷ row)))

-- a set, with the features of a list in where the row has true
abbrev pub set_with : List ℕ → List Bool → List Bool → List Bool
set_with [] row set = set
set_with (x ∷ xs) [] set = set
set_with (x ∷ xs) (b ∷ row) set = set_with xs row (if b then slice_set set x true else set)

-- the truth of a guard if features have the values of a row, and all others are out
abbrev pub row_truth : ℕ → List ℕ → Formula → List Bool → Bool
row_truth n xs g row = truth (set_with xs row (replicate n false)) g

-- the prime implicants of a guard over n features
abbrev pub prime_implicants : ℕ → Formula → List Cube
prime_implicants n g = implicants (named_below n g) (row_truth n (named_below n g) g)

-- ---- the form

abbrev pub literal_formula : Literal → Formula
literal_formula l = if l.value then feature l.feature else negation (feature l.feature)

-- the `and` of parts: the part itself if it is one
abbrev pub and_of : Parts → Formula
and_of no_parts = always
and_of (part g no_parts) = g
and_of (part g (part h gs)) = all (part g (part h gs))

-- the `or` of parts: the part itself if it is one
abbrev pub or_of : Parts → Formula
or_of no_parts = never
or_of (part g no_parts) = g
or_of (part g (part h gs)) = any (part g (part h gs))

abbrev pub literal_parts : Cube → Parts
literal_parts [] = no_parts
literal_parts (l ∷ c) = part (literal_formula l) (literal_parts c)

abbrev pub cube_formula : Cube → Formula
cube_formula c = and_of (literal_parts c)

abbrev pub cube_parts : List Cube → Parts
cube_parts [] = no_parts
cube_parts (c ∷ cs) = part (cube_formula c) (cube_parts cs)

-- the `or` of cubes
abbrev pub disjunction : List Cube → Formula
disjunction cubes = or_of (cube_parts cubes)

-- Blake's form of a guard over n features
abbrev pub blake : ℕ → Formula → Formula
blake n g = disjunction (prime_implicants n g)

-- it names at most six features, and has at most 64 prime implicants
pub record IsShort (n : ℕ) (g : Formula) : Type 0 where
  pub few_features : length (named_below n g) ≤ 6
  pub few_implicants : length (prime_implicants n g) ≤ 64

-- in each product that agrees with what is known, the guard has this truth
abbrev pub IsCertain : List Tri → Formula → Bool → Type 0
IsCertain known g b = (set : List Bool) → IsCompletion known set → truth set g ≡ b

-- a truth as a three-valued value
abbrev pub tri_of : Bool → Tri
tri_of true = Yes
tri_of false = No
