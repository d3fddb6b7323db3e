-- The first line of a text: there is one, and where the text begins too long the line is too long.
use Rattle.std.proofs.Common.{◌≡◌, ℕ, ◌+◌, ◌-◌, ◌<◌, ◌≤◌, Bool, true, false, List, [], ◌∷◌, ◌++◌, length, take, Err, refl, sym, ap, ap₂, ◌∙◌, subst, arith, inl, inr, length-append}
use Rattle.std.specs.Prelude.{◌==◌, ◌&&◌, if◌then◌else◌, slice_index}
use Rattle.std.specs.List.{list_all}
use Rattle.std.specs.Str.Lines.{strip_carriage_return}
use Rattle.std.proofs.lemmas.Bool.{lt-ltb}
use Rattle.std.proofs.lemmas.List.{length-take}
use Rattle.vpg_script.specs.Lines.{is_within_line, IsUnended, BeginsTooLong, NextLine}
use Rattle.vpg_script.specs.Script.{said, said_by, words, longest_line}
use Rattle.vpg_script.specs.declared.command.LineFault.TheVariants as faults

-- ---- the first line of a text

both : (a b : Bool) → (a && b) ≡ true → (a ≡ true) × (b ≡ true)
both true b h = (refl, h)
both false b h = absurd cc

-- a line feed isn't within a line
not_within : (b : ℕ) (line : List ℕ) → b ≡ 10 → IsUnended (b ∷ line) → ⊥
not_within b line is h = absurd (cc (subst (λ (c : ℕ). is_within_line c ≡ true) is (both (is_within_line b) (list_all is_within_line line) h).0))

behind : (b : ℕ) (line : List ℕ) → IsUnended (b ∷ line) → IsUnended line
behind b line h = (both (is_within_line b) (list_all is_within_line line) h).1

head_of : (a b : ℕ) (xs ys : List ℕ) → a ∷ xs ≡ b ∷ ys → a ≡ b
head_of a b xs ys e = cc e

tail_of : (a b : ℕ) (xs ys : List ℕ) → a ∷ xs ≡ b ∷ ys → xs ≡ ys
tail_of a b xs ys e = cc e

one_front : (front other more rest : List ℕ) → IsUnended front → IsUnended other → front ++ 10 ∷ more ≡ other ++ 10 ∷ rest → (front ≡ other) × (more ≡ rest)
one_front [] [] more rest h k e = (refl, tail_of 10 10 more rest e)
one_front [] (b ∷ other) more rest h k e = absurd (not_within b other (sym (head_of 10 b more (other ++ 10 ∷ rest) e)) k)
one_front (a ∷ front) [] more rest h k e = absurd (not_within a front (head_of a 10 (front ++ 10 ∷ more) rest e) h)
one_front (a ∷ front) (b ∷ other) more rest h k e =
    let same : (front ≡ other) × (more ≡ rest) = one_front front other more rest (behind a front h) (behind b other k) (tail_of a b (front ++ 10 ∷ more) (other ++ 10 ∷ rest) e) in
    (ap₂ (λ (x : ℕ) (xs : List ℕ). x ∷ xs) (head_of a b (front ++ 10 ∷ more) (other ++ 10 ∷ rest) e) same.0, same.1)

-- a front without a line feed is no longer than the line
short_front : (front line more rest : List ℕ) → IsUnended front → front ++ more ≡ line ++ 10 ∷ rest → length front ≤ length line
short_front [] line more rest h e = omega arith
short_front (a ∷ front) [] more rest h e = absurd (not_within a front (head_of a 10 (front ++ more) rest e) h)
short_front (a ∷ front) (b ∷ line) more rest h e =
    omega (arith, short_front front line more rest (behind a front h) (tail_of a b (front ++ more) (line ++ 10 ∷ rest) e))

feed_ends : (front rest : List ℕ) → IsUnended (front ++ 10 ∷ rest) → ⊥
feed_ends [] rest h = not_within 10 rest refl h
feed_ends (a ∷ front) rest h = feed_ends front rest (behind a (front ++ 10 ∷ rest) h)

pub next_one : (text line other more rest : List ℕ) → NextLine text line more → NextLine text other rest → (line ≡ other) × (more ≡ rest)
next_one text line other more rest (inl a) (inl b) =
    let same : (a.front ≡ b.front) × (more ≡ rest) = one_front a.front b.front more rest a.unended b.unended (sym a.text_is ∙ b.text_is) in
    (a.line_is ∙ ap strip_carriage_return same.0 ∙ sym b.line_is, same.1)
next_one text line other more rest (inl a) (inr b) = absurd (feed_ends a.front more (subst IsUnended (sym b.text_is ∙ a.text_is) b.unended))
next_one text line other more rest (inr a) (inl b) = absurd (feed_ends b.front rest (subst IsUnended (sym a.text_is ∙ b.text_is) a.unended))
next_one text line other more rest (inr a) (inr b) = (sym a.text_is ∙ b.text_is, a.rest_is ∙ sym b.rest_is)

some_text : (front rest : List ℕ) → 0 < length (front ++ 10 ∷ rest)
some_text front rest = omega (arith, length-append front (10 ∷ rest))

pub no_line : (text line more : List ℕ) → text ≡ [] → NextLine text line more → ⊥
no_line text line more is (inl a) = absurd (omega (arith, ap (λ (t : List ℕ). length t) (sym is ∙ a.text_is), some_text a.front more))
no_line text line more is (inr a) = absurd (omega (arith, ap (λ (t : List ℕ). length t) (sym is ∙ a.text_is), a.some))

-- ---- a line that is too long

strip_length : (line : List ℕ) → length line ≤ length (strip_carriage_return line) + 1
strip_length line = go (slice_index line (length line - 1) == 13)
  where
    go : (b : Bool) → length line ≤ length (if b then take (length line - 1) line else line) + 1
    go true = omega (arith, length-take (length line - 1) line)
    go false = omega arith

pub long_said : (line : List ℕ) → 4096 < length line → said line ≡ Err faults.TooLong
long_said line long = ap (λ (b : Bool). if b then Err faults.TooLong else said_by (words line)) (lt-ltb longest_line (length line) long)

pub too_long_said : (text line more : List ℕ) → BeginsTooLong text → NextLine text line more → said line ≡ Err faults.TooLong
too_long_said text line more begins (inl a) =
    long_said line (omega (arith, begins.long, short_front begins.front a.front begins.rest more begins.unended (sym begins.text_is ∙ a.text_is), strip_length a.front, ap (λ (l : List ℕ). length l) a.line_is))
too_long_said text line more begins (inr a) =
    long_said line (omega (arith, begins.long, ap (λ (l : List ℕ). length l) (sym a.text_is ∙ begins.text_is), length-append begins.front begins.rest))
