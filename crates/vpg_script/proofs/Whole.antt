-- The lines that are read one by one are the lines of the whole text.
use Rattle.std.proofs.Common.{◌≡◌, ℕ, ◌<◌, Bool, true, false, cond, List, [], ◌∷◌, ◌++◌, length, refl, sym, ap, ◌∙◌, inl, inr, arith}
use Rattle.std.specs.Prelude.{◌==◌, ◌&&◌, not}
use Rattle.std.specs.List.{list_all, slice_split, onto_first}
use Rattle.std.specs.Str.Lines.{lines, lines_of_parts, strip_carriage_return}
use Rattle.std.proofs.lemmas.List.Splits.{slice_split-cons_yes, slice_split-cons_no, length-slice_split}
use Rattle.std.proofs.lemmas.Bool.{eqb-true}
use Rattle.vpg_script.specs.Lines.{IsUnended, IsEnded, IsLast, is_within_line, NextLine, ReadIsWhole}

both : (a b : Bool) → (a && b) ≡ true → (a ≡ true) × (b ≡ true)
both true b h = (refl, h)
both false b h = absurd cc

no_feed : (a : Bool) → not a ≡ true → a ≡ false
no_feed true h = absurd cc
no_feed false h = refl

-- the part before the first line feed, and the others
split_ended : (front rest : List ℕ) → IsUnended front → slice_split (λ b. b == 10) (front ++ 10 ∷ rest) ≡ front ∷ slice_split (λ b. b == 10) rest
split_ended [] rest h = slice_split-cons_yes (λ b. b == 10) 10 rest refl
split_ended (b ∷ front) rest h =
    let parts = both (is_within_line b) (list_all is_within_line front) h in
    slice_split-cons_no (λ b. b == 10) b (front ++ 10 ∷ rest) (no_feed (b == 10) parts.0) ∙ ap (onto_first b) (split_ended front rest parts.1)

split_unended : (line : List ℕ) → IsUnended line → slice_split (λ b. b == 10) line ≡ line ∷ []
split_unended [] h = refl
split_unended (b ∷ line) h =
    let parts = both (is_within_line b) (list_all is_within_line line) h in
    slice_split-cons_no (λ b. b == 10) b line (no_feed (b == 10) parts.0) ∙ ap (onto_first b) (split_unended line parts.1)

-- a part with a further one is a line with its end
parts_more : (x : List ℕ) (parts : List (List ℕ)) → 0 < length parts → lines_of_parts (x ∷ parts) ≡ strip_carriage_return x ∷ lines_of_parts parts
parts_more x [] h = absurd (omega arith)
parts_more x (y ∷ parts) h = refl

some_parts : (rest : List ℕ) → 0 < length (slice_split (λ b. b == 10) rest)
some_parts rest = omega (arith, length-slice_split (λ (b : ℕ). b == 10) rest)

lines_ended : (text line rest : List ℕ) → IsEnded text line rest → lines text ≡ line ∷ lines rest
lines_ended text line rest e =
    ap lines e.text_is ∙ (ap lines_of_parts (split_ended e.front rest e.unended)
    ∙ (parts_more e.front (slice_split (λ b. b == 10) rest) (some_parts rest) ∙ ap (λ (l : List ℕ). l ∷ lines rest) (sym e.line_is)))

one_part : (line : List ℕ) → 0 < length line → lines_of_parts (line ∷ []) ≡ line ∷ []
one_part line h = go (length line == 0) refl
  where
    go : (t : Bool) → (length line == 0) ≡ t → cond t [] (line ∷ []) ≡ line ∷ []
    go true e = absurd (omega (arith, eqb-true (length line) 0 e))
    go false e = refl

lines_last : (text line rest : List ℕ) → IsLast text line rest → lines text ≡ line ∷ lines rest
lines_last text line rest e =
    ap lines e.text_is ∙ (ap lines_of_parts (split_unended line e.unended) ∙ (one_part line e.some ∙ ap (λ (r : List ℕ). line ∷ lines r) (sym e.rest_is)))

next_first : (text line rest : List ℕ) → NextLine text line rest → lines text ≡ line ∷ lines rest
next_first text line rest (inl e) = lines_ended text line rest e
next_first text line rest (inr e) = lines_last text line rest e

pub read_is_whole : ReadIsWhole
read_is_whole text [] rest read = ap lines read
read_is_whole text (line ∷ more) rest read =
    next_first text line read.0 read.1 ∙ ap (λ (ls : List (List ℕ)). line ∷ ls) (read_is_whole read.0 more rest read.2)
