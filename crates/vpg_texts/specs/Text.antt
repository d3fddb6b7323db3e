-- The texts of a page.
use Rattle.std.specs.Prelude.{ℕ, zero, suc, Bool, true, false, not, ◌==◌, if◌then◌else◌, List, [], ◌∷◌, ◌++◌, length, Option, Some, None, flat_map, count_by, is_some, slice_index, slice_index_or, codes, decimal}
use Rattle.vpg_diagram.specs.declared.clause.Literal.{Literal}
use Rattle.vpg_guards.specs.declared.tri.Tri.{Tri}
use Rattle.vpg_guards.specs.declared.tri.Tri.TheVariants.{No, Unknown, Yes}
use Rattle.vpg_trail.specs.Page.{Which, Hopeful, Dual, Entry, Decided, Lifted}
use Rattle.vpg_texts.specs.Labels.{label_of, beside, beside_both}

-- a blank, and then a number
abbrev pub blank_number : ℕ → List ℕ
blank_number n = 32 ∷ decimal n

-- the name of a feature
abbrev pub name_of : List (List ℕ) → ℕ → List ℕ
name_of names f = slice_index_or names f []

-- a blank, and then a feature's name
abbrev pub blank_name : List (List ℕ) → ℕ → List ℕ
blank_name names f = 32 ∷ name_of names f

-- ` +F` or ` -F`
abbrev pub choice_text : List (List ℕ) → Literal → List ℕ
choice_text names c = 32 ∷ (if c.value then 43 else 45) ∷ name_of names c.feature

abbrev pub choices_text : List (List ℕ) → List Literal → List ℕ
choices_text names choices = flat_map (choice_text names) choices

-- ---- show

abbrev pub decisions_line : List (List ℕ) → List Literal → List ℕ
decisions_line names choices = codes "decisions" ++ choices_text names choices ++ 10 ∷ []

abbrev pub answer_word : Bool → List ℕ
answer_word b = if b then codes " yes" else codes " no"

abbrev pub answer_line : Bool → List ℕ
answer_line b = answer_word b ++ 10 ∷ []

abbrev pub hopeless_text : Bool → List ℕ
hopeless_text hopeless = if hopeless then codes " hopeless" else codes " possible"

abbrev pub sure_text : Bool → List ℕ
sure_text sure = if sure then codes " sure" else codes " unsure"

-- a vertex's identifier, its two measures, its verdict, and its name
abbrev pub vertex_line : (hopeful_top dual_top identifier : ℕ) → (label : List ℕ) → (hopeful dual : ℕ) → List ℕ
vertex_line hopeful_top dual_top identifier label hopeful dual =
    decimal identifier ++ blank_number hopeful ++ blank_number dual ++ hopeless_text (hopeful == hopeful_top)
    ++ sure_text (dual == dual_top) ++ beside label ++ 10 ∷ []

-- the lines of the vertices below n
abbrev pub vertex_lines : (hopeful_top dual_top : ℕ) → (identifiers : List ℕ) (labels : List (List ℕ)) →
    (hopeful dual : List ℕ) → ℕ → List ℕ
vertex_lines hopeful_top dual_top identifiers labels hopeful dual zero = []
vertex_lines hopeful_top dual_top identifiers labels hopeful dual (suc n) =
    vertex_lines hopeful_top dual_top identifiers labels hopeful dual n
    ++ vertex_line hopeful_top dual_top (slice_index identifiers n) (label_of labels n) (slice_index hopeful n)
    (slice_index dual n)

abbrev pub show_text : (names : List (List ℕ)) (identifiers : List ℕ) (labels : List (List ℕ)) →
    (hopeful_top dual_top : ℕ) → List Literal → (full settled : Bool) → (hopeful dual : List ℕ) → List ℕ
show_text names identifiers labels hopeful_top dual_top choices full settled hopeful dual =
    decisions_line names choices
    ++ codes "full" ++ answer_line full
    ++ codes "settled" ++ answer_line settled
    ++ vertex_lines hopeful_top dual_top identifiers labels hopeful dual (length identifiers)

-- ---- count

-- a word and a number
abbrev pub count_line : List ℕ → ℕ → List ℕ
count_line word n = word ++ blank_number n ++ 10 ∷ []

-- how many vertices have the top in a table, and how many lack it
abbrev pub count_lines : List ℕ → List ℕ → ℕ → List ℕ → List ℕ
count_lines at_top below top table =
    count_line at_top (count_by (λ n. n == top) table) ++ count_line below (count_by (λ n. not (n == top)) table)

-- whether the page is settled, and whether each feature is known; a mark ends the last line
abbrev pub state_lines : Bool → Bool → List ℕ → List ℕ
state_lines settled full mark =
    codes "settled" ++ answer_line settled ++ codes "full" ++ answer_word full ++ mark ++ 10 ∷ []

abbrev pub count_text : ℕ → ℕ → Bool → Bool → List ℕ → List ℕ → List ℕ → List ℕ
count_text hopeful_top dual_top full settled mark hopeful dual =
    count_lines (codes "hopeless") (codes "possible") hopeful_top hopeful
    ++ count_lines (codes "sure") (codes "unsure") dual_top dual
    ++ state_lines settled full mark

-- ---- trail

abbrev pub deciding_text : Bool → List ℕ
deciding_text value = if value then codes "select" else codes "exclude"

abbrev pub table_text : Which → List ℕ
table_text Hopeful = codes "hopeful"
table_text Dual = codes "dual"

-- A decision with its serial. A lift of a vertex in a table, with the old and the new value, its assumptions, and the
-- vertex's name.
abbrev pub entry_line : (names : List (List ℕ)) (identifiers : List ℕ) (labels : List (List ℕ)) → Entry → List ℕ
entry_line names identifiers labels (Decided d) =
    deciding_text d.value ++ blank_name names d.feature ++ blank_number d.serial ++ 10 ∷ []
entry_line names identifiers labels (Lifted l) =
    table_text l.table ++ blank_number (slice_index identifiers l.vertex) ++ blank_number l.old ++ blank_number l.new
    ++ choices_text names l.under ++ beside (label_of labels l.vertex) ++ 10 ∷ []

-- a line for each entry, and their number
abbrev pub trail_text : (names : List (List ℕ)) (identifiers : List ℕ) (labels : List (List ℕ)) → List Entry → List ℕ
trail_text names identifiers labels entries =
    flat_map (entry_line names identifiers labels) entries ++ codes "entries" ++ blank_number (length entries)
    ++ 10 ∷ []

-- ---- products

abbrev pub is_value : Tri → Tri → Bool
is_value No No = true
is_value Unknown Unknown = true
is_value Yes Yes = true
is_value _ _ = false

abbrev pub name_if : Bool → List (List ℕ) → ℕ → List ℕ
name_if b names f = if b then blank_name names f else []

-- the names of those of the first n features with this knowledge
abbrev pub names_known : List (List ℕ) → List Tri → Tri → ℕ → List ℕ
names_known names known value zero = []
names_known names known value (suc n) =
    names_known names known value n ++ name_if (is_value (slice_index_or known n Unknown) value) names n

abbrev pub products_line : List ℕ → List (List ℕ) → List Tri → Tri → List ℕ
products_line word names known value = word ++ names_known names known value (length names) ++ 10 ∷ []

-- three lines: the features that are in, those that are out, and the open ones
abbrev pub products_text : List (List ℕ) → List Tri → List ℕ
products_text names known =
    products_line (codes "in") names known Yes
    ++ products_line (codes "out") names known No
    ++ products_line (codes "open") names known Unknown

-- ---- known

-- `in`, `out` or `open`
abbrev pub known_word : Tri → List ℕ
known_word Yes = codes "in"
known_word No = codes "out"
known_word Unknown = codes "open"

-- the knowledge of a feature, in a word, and its name
abbrev pub known_text : List (List ℕ) → List Tri → ℕ → List ℕ
known_text names known f = known_word (slice_index_or known f Unknown) ++ blank_name names f ++ 10 ∷ []

-- ---- plan

-- a vertex's identifier, that of its chosen successor, and their names
abbrev pub plan_line : (identifiers : List ℕ) (labels : List (List ℕ)) → ℕ → Option ℕ → List ℕ
plan_line identifiers labels v None = []
plan_line identifiers labels v (Some w) =
    codes "plan" ++ blank_number (slice_index identifiers v) ++ blank_number (slice_index identifiers w)
    ++ beside_both (label_of labels v) (label_of labels w) ++ 10 ∷ []

-- the lines of the vertices below n
abbrev pub plan_lines : (identifiers : List ℕ) (labels : List (List ℕ)) → List (Option ℕ) → ℕ → List ℕ
plan_lines identifiers labels chosen zero = []
plan_lines identifiers labels chosen (suc n) =
    plan_lines identifiers labels chosen n ++ plan_line identifiers labels n (slice_index_or chosen n None)

abbrev pub plan_text : (identifiers : List ℕ) (labels : List (List ℕ)) → List (Option ℕ) → List ℕ
plan_text identifiers labels chosen =
    plan_lines identifiers labels chosen (length identifiers) ++ codes "plans" ++ blank_number (count_by is_some chosen)
    ++ 10 ∷ []
