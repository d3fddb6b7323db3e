-- Reading words from left to right, as functions on lists, for the reader's private contracts. It is proved to read
-- exactly the words that the grammar has. This project's own.
use Rattle.std.specs.Prelude.{ℕ, zero, suc, List, [], ◌∷◌, length, Bool, true, false, not, ◌&&◌, ◌||◌, if◌then◌else◌, codes, bytes_eq, Option, Some, None, option_and_then, is_some}
use Rattle.vpg_formula.specs.Written.{Prefix, again_and_again, after, Fixpoint, Written, deadlock_free, binding, closing, along, is_variable, Head, leaf, deadlock, of_action, parenthesis, in_front, modality, again, after_action, binder, other, head_of, Phrase, whole, behind, conjunction_of, disjunction_of, implication_of}
use Rattle.vpg_formula.specs.FormulaGrammar.{Extent, an_operand, a_formula}
use Rattle.vpg_formula.specs.Regular.{is_action, Regular, repeated, repeated_once, word_formula, complement_of, all_of, any_of, sequence_of, choice_of}

-- a value read at the front of words, and the words after it
abbrev pub Read : Type 0 → Type 0
Read A = List (List ℕ) → Option (A × List (List ℕ))

infixl 10 ◌>>=◌
abbrev pub ◌>>=◌ : {A B : Type 0} → Option A → (A → Option B) → Option B
o >>= f = option_and_then f o

-- the words after the sign, if it comes next
abbrev pub after_word : List ℕ → List (List ℕ) → Option (List (List ℕ))
after_word sign [] = None
after_word sign (w ∷ ws) = if bytes_eq w sign then Some ws else None

-- the reading after a sign, if the sign is there
abbrev pub choice : {B : Type 0} → Option (List (List ℕ)) → (List (List ℕ) → Option B) → Option B → Option B
choice None behind otherwise = otherwise
choice (Some ws) behind otherwise = behind ws

-- One more item after each sign. The number bounds the turns: the count of the words is always enough.
unfoldable pub more : {A : Type 0} → Read A → List ℕ → (A → A → Option A) → ℕ → A → Read A
more item sign join zero x ws = Some (x, ws)
more item sign join (suc n) x ws =
    choice (after_word sign ws) (λ rest. item rest >>= λ y. join x y.0 >>= λ z. more item sign join n z y.1)
    (Some (x, ws))

-- items joined by signs
unfoldable pub series_at : {A : Type 0} → Read A → List ℕ → (A → A → Option A) → Read A
series_at item sign join ws = item ws >>= λ x. more item sign join (length x.1) x.0 x.1

-- ---- regular formulas

-- whether an operand can begin with these words
abbrev pub starts_operand : List (List ℕ) → Bool
starts_operand [] = false
starts_operand (w ∷ ws) = is_some (word_formula w) || (bytes_eq w (codes "!") || bytes_eq w (codes "("))

-- `*`, and `+` if no operand follows
abbrev pub is_plus : List ℕ → List (List ℕ) → Bool
is_plus w ws = bytes_eq w (codes "+") && not (starts_operand ws)

-- which of them comes next, if any: whether it is `+`, and the words after it
abbrev pub star_next : List (List ℕ) → Option (Bool × List (List ℕ))
star_next [] = None
star_next (w ∷ ws) =
    if bytes_eq w (codes "*") then Some (false, ws) else (if is_plus w ws then Some (true, ws) else None)

abbrev pub starred_by : Bool → Regular → Regular
starred_by false x = repeated x
starred_by true x = repeated_once x

unfoldable pub stars_at : Regular → Read Regular
stars_at x [] = Some (x, [])
stars_at x (w ∷ ws) =
    if bytes_eq w (codes "*") then stars_at (repeated x) ws
    else (if is_plus w ws then stars_at (repeated_once x) ws else Some (x, w ∷ ws))

unfoldable pub starred_with : Read Regular → Read Regular
starred_with item ws = item ws >>= λ x. stars_at x.0 x.1

abbrev pub all_of_with : Read Regular → Read Regular
all_of_with item = series_at item (codes "&&") all_of

abbrev pub any_of_with : Read Regular → Read Regular
any_of_with item = series_at (all_of_with item) (codes "||") any_of

abbrev pub repetition_with : Read Regular → Read Regular
repetition_with item = starred_with (any_of_with item)

abbrev pub sequence_with : Read Regular → Read Regular
sequence_with item = series_at (repetition_with item) (codes ".") sequence_of

abbrev pub choice_with : Read Regular → Read Regular
choice_with item = series_at (sequence_with item) (codes "+") choice_of

abbrev pub inverted_with : Read Regular → Read Regular
inverted_with item ws = item ws >>= λ x. complement_of x.0 >>= λ y. Some (y, x.1)

abbrev pub enclosed_with : {A : Type 0} → Read A → List ℕ → Read A
enclosed_with inner close ws = inner ws >>= λ x. after_word close x.1 >>= λ rest. Some (x.0, rest)

abbrev pub word_at : Read Regular
word_at [] = None
word_at (w ∷ ws) = word_formula w >>= λ x. Some (x, ws)

abbrev pub operand_with : Read Regular → Read Regular → Read Regular
operand_with invert enclose ws =
    choice (after_word (codes "!") ws) invert (choice (after_word (codes "(") ws) enclose (word_at ws))

abbrev pub nothing_read : Read Regular
nothing_read ws = None

-- an operand in which d more `(` and `!` may be open at one place
unfoldable pub operand_at : ℕ → Read Regular
operand_at zero = operand_with nothing_read nothing_read
operand_at (suc d) =
    operand_with (inverted_with (operand_at d)) (enclosed_with (choice_with (operand_at d)) (codes ")"))

abbrev pub if_last : {A : Type 0} → A → List (List ℕ) → Option A
if_last x [] = Some x
if_last x (w ∷ ws) = None

-- the regular formula that all the words are
abbrev pub regular_at : List (List ℕ) → Option Regular
regular_at ws = choice_with (operand_at 64) ws >>= λ x. if_last x.0 x.1

-- ---- formulas

abbrev pub if_action : Regular × List (List ℕ) → Option (Regular × List (List ℕ))
if_action x = if is_action x.0 then Some x else None

abbrev pub action_at : ℕ → Read Regular
action_at d ws = operand_at d ws >>= λ x. if_action x

abbrev pub whole_if : {A : Type 0} → (A → Written) → A × List (List ℕ) → Option (Phrase × List (List ℕ))
whole_if make x = Some (whole (make x.0), x.1)

abbrev pub put_behind : Prefix → Read Phrase → Read Phrase
put_behind prefix inner ws = inner ws >>= λ p. Some (behind prefix p.0, p.1)

abbrev pub bound_with : Read Phrase → Fixpoint → List ℕ → Read Phrase
bound_with formula kind x ws =
    formula ws >>= λ p. Some (record { written = binding kind x p.0.written; is_endless = true }, p.1)

abbrev pub binding_with : Read Phrase → Fixpoint → Read Phrase
binding_with formula kind [] = None
binding_with formula kind (x ∷ ws) =
    if is_variable x then (after_word (codes ".") ws >>= λ rest. bound_with formula kind x rest) else None

-- the reading after the first word
abbrev pub part_behind : Read Regular → Read Regular → Read Phrase → Read Phrase → Head → Read Phrase
part_behind path act inner formula (leaf f) ws = Some (whole f, ws)
part_behind path act inner formula deadlock ws =
    after_word (codes "free") ws >>= λ rest. Some (whole deadlock_free, rest)
part_behind path act inner formula (of_action make) ws = act ws >>= λ x. whole_if make x
part_behind path act inner formula parenthesis ws =
    enclosed_with formula (codes ")") ws >>= λ p. Some (whole p.0.written, p.1)
part_behind path act inner formula (in_front prefix) ws = put_behind prefix inner ws
part_behind path act inner formula (modality m) ws =
    enclosed_with path (closing m) ws >>= λ x. put_behind (along m x.0) inner x.1
part_behind path act inner formula again ws =
    after_word (codes "and") ws >>= λ us. after_word (codes "again") us >>= λ rest.
    put_behind again_and_again inner rest
part_behind path act inner formula after_action ws = act ws >>= λ x. put_behind (after x.0) inner x.1
part_behind path act inner formula (binder kind) ws = binding_with formula kind ws
part_behind path act inner formula other ws = None

unfoldable pub part_with : Read Regular → Read Regular → Read Phrase → Read Phrase → Read Phrase
part_with path act inner formula [] = None
part_with path act inner formula (w ∷ ws) = part_behind path act inner formula (head_of w) ws

abbrev pub conjunction_with : Read Phrase → Read Phrase
conjunction_with item = series_at item (codes "&&") conjunction_of

abbrev pub disjunction_with : Read Phrase → Read Phrase
disjunction_with item = series_at (conjunction_with item) (codes "||") disjunction_of

abbrev pub implied_with : Read Phrase → Phrase → Read Phrase
implied_with formula p ws = formula ws >>= λ q. implication_of p q.0 >>= λ r. Some (r, q.1)

unfoldable pub implication_with : Read Phrase → Read Phrase → Read Phrase
implication_with item formula ws =
    item ws >>= λ p. choice (after_word (codes "=>") p.1) (implied_with formula p.0) (Some p)

abbrev pub no_phrase : Read Phrase
no_phrase ws = None

-- an operand, or a formula, in which d more parts may be open at one place
unfoldable pub phrase_at : Extent → ℕ → Read Phrase
phrase_at an_operand zero = part_with nothing_read nothing_read no_phrase no_phrase
phrase_at a_formula zero =
    implication_with (disjunction_with (part_with nothing_read nothing_read no_phrase no_phrase)) no_phrase
phrase_at an_operand (suc d) =
    part_with (choice_with (operand_at d)) (action_at d) (phrase_at an_operand d) (phrase_at a_formula d)
phrase_at a_formula (suc d) =
    implication_with (disjunction_with
    (part_with (choice_with (operand_at d)) (action_at d) (phrase_at an_operand d) (phrase_at a_formula d)))
    (phrase_at a_formula d)

-- the formula that all the words are
abbrev pub formula_at : List (List ℕ) → Option Phrase
formula_at ws = phrase_at a_formula 64 ws >>= λ p. if_last p.0 p.1
