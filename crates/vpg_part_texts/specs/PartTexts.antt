-- The text of a part of a requirement, as mCRL2 writes formulas. This project's own.
use Rattle.std.specs.Prelude.{ℕ, zero, suc, ◌-◌, List, [], ◌∷◌, ◌++◌, length, take, Bool, true, false, nat_eq, nat_lt, if◌then◌else◌, codes, decimal, slice_index_or}
use Rattle.vpg_parts.specs.declared.part.Kind.{Kind}
use Rattle.vpg_parts.specs.declared.part.Kind.TheVariants.{Least, Greatest}
use Rattle.vpg_parts.specs.declared.part.Part.{Part}
use Rattle.vpg_parts.specs.declared.part.Part.TheVariants.{True, False, And, Or, SomeStep, EveryStep, Fixpoint, Variable}
use Rattle.vpg_parts.specs.Parts.{part_at}
use Rattle.vpg_part_texts.specs.declared.wording.Around.{Around}
use Rattle.vpg_part_texts.specs.declared.wording.Around.TheVariants as around

-- ---- variables

-- this many fixpoints, and one more after a fixpoint
abbrev pub count_behind : ℕ → Part → ℕ
count_behind n (Fixpoint kind p b) = suc n
count_behind n _ = n

-- the number of fixpoints in front of each place, if this many are in front of the first
abbrev pub numbers_from : ℕ → List Part → List ℕ
numbers_from n [] = []
numbers_from n (part ∷ parts) = n ∷ numbers_from (count_behind n part) parts

-- X, Y, Z, X3, X4 and so on
abbrev pub variable_name : ℕ → List ℕ
variable_name n =
    if nat_eq n 0 then codes "X"
    else (if nat_eq n 1 then codes "Y" else (if nat_eq n 2 then codes "Z" else codes "X" ++ decimal n))

-- The name of the fixpoint at a place, by the number of the requirement's fixpoints in front of it. The requirement's
-- root is the other place.
abbrev pub fixpoint_name : List ℕ → ℕ → ℕ → List ℕ
fixpoint_name numbers root k = variable_name (slice_index_or numbers k 0 - slice_index_or numbers root 0)

-- ---- parts

abbrev pub opened : Bool → List ℕ
opened true = codes "("
opened false = []

abbrev pub closed : Bool → List ℕ
closed true = codes ")"
closed false = []

-- `&&` needs parentheses after a modality
abbrev pub encloses_and : Around → Bool
encloses_and around.Alone = false
encloses_and around.Either = false
encloses_and around.Both = false
encloses_and around.Step = true

-- `||` needs them in `&&` too
abbrev pub encloses_or : Around → Bool
encloses_or around.Alone = false
encloses_or around.Either = false
encloses_or around.Both = true
encloses_or around.Step = true

-- a fixpoint needs them in all other parts, but in a fixpoint
abbrev pub encloses_fixpoint : Around → Bool
encloses_fixpoint around.Alone = false
encloses_fixpoint around.Either = true
encloses_fixpoint around.Both = true
encloses_fixpoint around.Step = true

abbrev pub kind_text : Kind → List ℕ
kind_text Least = codes "mu "
kind_text Greatest = codes "nu "

-- the text of a part in what is around it, from the texts of sets, the names of fixpoints and the texts of its parts
abbrev pub part_by : List (List ℕ) → (ℕ → List ℕ) → (Around → ℕ → List ℕ) → Around → ℕ → Part → List ℕ
part_by sets name text within k True = codes "true"
part_by sets name text within k False = codes "false"
part_by sets name text within k (And a b) =
    opened (encloses_and within)
    ++ (text around.Both a ++ (codes " && " ++ (text around.Both b ++ closed (encloses_and within))))
part_by sets name text within k (Or a b) =
    opened (encloses_or within)
    ++ (text around.Either a ++ (codes " || " ++ (text around.Either b ++ closed (encloses_or within))))
part_by sets name text within k (SomeStep x a) =
    (codes "<" ++ (slice_index_or sets x [] ++ codes ">")) ++ text around.Step a
part_by sets name text within k (EveryStep x a) =
    (codes "[" ++ (slice_index_or sets x [] ++ codes "]")) ++ text around.Step a
part_by sets name text within k (Fixpoint kind p b) =
    (opened (encloses_fixpoint within) ++ (kind_text kind ++ name k))
    ++ (codes ". " ++ (text around.Alone b ++ closed (encloses_fixpoint within)))
part_by sets name text within k (Variable m) = name m

-- the number of levels of parts in a text
unfoldable pub most_levels : ℕ
most_levels = 64

-- the text of the part at a place; `..` stands for parts that are this many levels inside
abbrev pub part_text : List Part → List (List ℕ) → (ℕ → List ℕ) → ℕ → Around → ℕ → List ℕ
part_text parts sets name zero within k = codes ".."
part_text parts sets name (suc n) within k =
    part_by sets name (part_text parts sets name n) within k (part_at parts k)

-- the title of a part: a fixpoint as a vertex has no body, since its body has a vertex of its own
abbrev pub title_by : (ℕ → List ℕ) → List ℕ → ℕ → Part → List ℕ
title_by name text k (Fixpoint kind p b) = kind_text kind ++ name k
title_by name text k _ = text

-- the name of the vertex of the part at a place
abbrev pub title : List Part → List (List ℕ) → (ℕ → List ℕ) → ℕ → List ℕ
title parts sets name k =
    title_by name (part_text parts sets name most_levels around.Alone k) k (part_at parts k)

-- a text of more than 60 bytes is cut, and ends in `..` then
abbrev pub cut : List ℕ → List ℕ
cut text = if nat_lt 60 (length text) then take 58 text ++ codes ".." else text
