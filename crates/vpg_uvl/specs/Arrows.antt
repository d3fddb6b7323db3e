-- Chains of `=>` without parentheses. A binary operator groups to the left in the grammar of the Universal Variability
-- Language, as in each left-recursive rule of ANTLR 4 without `assoc` (Parr 2013): `a => b => c` is `(a => b) => c`.
-- Rules here group to the right. So a chain is the rule whose text has the left side of each `=>` in parentheses.
-- Chains of `<=>` mean the same both ways, and stay as they are.
use Rattle.std.specs.Prelude.{ℕ, suc, ◌+◌, ◌-◌, Bool, false, not, ◌&&◌, ◌||◌, ◌==◌, if◌then◌else◌, List, [], ◌∷◌, ◌++◌, replicate}

-- How many `=>` come before the end of the parentheses around a text and before the next `<=>` in them. The first
-- number is that of the parentheses that are open within, the second the byte before the text.
abbrev pub arrows_from : ℕ → ℕ → List ℕ → ℕ
arrows_from depth before [] = 0
arrows_from depth before (b ∷ bs) =
    if b == 40 then arrows_from (depth + 1) b bs
    else (if b == 41 then (if depth == 0 then 0 else arrows_from (depth - 1) b bs)
    else (if b == 61 && depth == 0 then (if before == 60 then 0 else suc (arrows_from depth b bs))
    else arrows_from depth b bs))

abbrev pub arrows : List ℕ → ℕ
arrows text = arrows_from 0 0 text

-- the `=` of a `=>`, by the byte before it
abbrev pub is_arrow : ℕ → ℕ → Bool
is_arrow before b = b == 61 && not (before == 60)

-- whether a `=>` comes after another in the same parentheses, with no `<=>` of these between, by the byte before
abbrev pub is_chained : ℕ → List ℕ → Bool
is_chained before [] = false
is_chained before (b ∷ bs) = (is_arrow before b && not (arrows bs == 0)) || is_chained b bs

-- a `(` for each `=>` whose left side begins with the text
abbrev pub opened : List ℕ → List ℕ
opened text = replicate (arrows text) 40

-- a `(` or the end of a `<=>`, by the two bytes before it
abbrev pub is_front : ℕ → ℕ → ℕ → Bool
is_front earlier before b = b == 40 || (b == 62 && before == 61 && earlier == 60)

-- a byte with the parentheses around it, by the two bytes before it and the text after it
abbrev pub with_parentheses : ℕ → ℕ → ℕ → List ℕ → List ℕ
with_parentheses earlier before b behind =
    if is_front earlier before b then b ∷ opened behind
    else (if is_arrow before b then 41 ∷ b ∷ [] else b ∷ [])

-- the text with a `)` before each `=>`, and after each `(` and `<=>` the `(` that belong to them, by the two bytes
-- before
abbrev pub enclosed_from : ℕ → ℕ → List ℕ → List ℕ
enclosed_from earlier before [] = []
enclosed_from earlier before (b ∷ bs) = with_parentheses earlier before b bs ++ enclosed_from before b bs

-- the text with the left side of each `=>` in parentheses
abbrev pub enclosed : List ℕ → List ℕ
enclosed text = opened text ++ enclosed_from 0 0 text

-- the text of a rule that groups as the language does
abbrev pub grouped : List ℕ → List ℕ
grouped text = if is_chained 0 text then enclosed text else text
