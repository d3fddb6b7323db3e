-- The kept line of a line of a diagram.
use Rattle.std.proofs.Common.{◌≡◌, ℕ, zero, suc, subst, ◌+◌, ◌-◌, ◌<◌, ◌≤◌, drop, List, [], ◌∷◌, length, get_or, refl, sym, ap, ap₂, ◌∙◌, arith}
use Rattle.std.proofs.lemmas.List.{drop_more}
use Rattle.std.proofs.lemmas.List.FromFn.{length-range_with_len, get_or-range_with_len}
use Rattle.vpg_diagram.specs.FeatureDiagram.{Line, Mandatory, Optional, Alternative, Or, Group, Requires, Excludes, Formula, introduced, StandsAfter, StandAfter}
use Rattle.vpg_diagram.specs.LineView.{members_of, line_of, kept_line_of, lines_of}
use Rattle.vpg_diagram.specs.declared.line.Members.{Members}
use Rattle.vpg_diagram.specs.declared.line.Line as kept
use Rattle.vpg_diagram.specs.declared.line.Kept as whole
use Rattle.vpg_rules.specs.Constraint.{Constraint}

-- from the first of a list up to its length behind it
abbrev members_from : List ℕ → Members
members_from ms = record { first = get_or ms 0 0; end = get_or ms 0 0 + length ms }

members_back : (m : Members) → 0 < length (members_of m) → members_from (members_of m) ≡ m
members_back m l =
    let n : length (members_of m) ≡ m.end - m.first = length-range_with_len m.first (m.end - m.first) in
    let some : 0 < m.end - m.first = omega (arith, l, n) in
    let f : get_or (members_of m) 0 0 ≡ m.first = omega (arith, get_or-range_with_len m.first (m.end - m.first) 0 0 some) in
    let e : get_or (members_of m) 0 0 + length (members_of m) ≡ m.end = omega (arith, f, n, some) in
    let made : ℕ → ℕ → Members = λ x y. record { first = x; end = y } in
    ap₂ made f e

abbrev kept_of : Line → kept.Line
kept_of (Mandatory p c) = kept.TheVariants.Mandatory p c
kept_of (Optional p c) = kept.TheVariants.Optional p c
kept_of (Alternative p cs) = kept.TheVariants.Alternative p (members_from cs)
kept_of (Or p cs) = kept.TheVariants.Or p (members_from cs)
kept_of (Group p low high cs) = kept.TheVariants.Group p low high (members_from cs)
kept_of (Requires a b) = kept.TheVariants.Requires a b
kept_of (Excludes a b) = kept.TheVariants.Excludes a b
kept_of (Formula c) = kept.TheVariants.Excludes 0 0

kept_back : (known : ℕ) (line : kept.Line) → StandsAfter known (line_of line) → kept_of (line_of line) ≡ line
kept_back known (kept.TheVariants.Mandatory p c) s = refl
kept_back known (kept.TheVariants.Optional p c) s = refl
kept_back known (kept.TheVariants.Alternative p cs) s = ap (kept.TheVariants.Alternative p) (members_back cs s.some)
kept_back known (kept.TheVariants.Or p cs) s = ap (kept.TheVariants.Or p) (members_back cs s.some)
kept_back known (kept.TheVariants.Group p low high cs) s = ap (kept.TheVariants.Group p low high) (members_back cs s.0.some)
kept_back known (kept.TheVariants.Requires a b) s = refl
kept_back known (kept.TheVariants.Excludes a b) s = refl

-- kept lines that stand for the same line are the same
pub same_line : (known also : ℕ) (line other : kept.Line) → StandsAfter known (line_of line) → StandsAfter also (line_of other) → line_of line ≡ line_of other → line ≡ other
same_line known also line other s t e = sym (kept_back known line s) ∙ ap kept_of e ∙ kept_back also other t

pub no_formula : (line : kept.Line) (c : Constraint ℕ) → line_of line ≡ Formula c → ⊥
no_formula (kept.TheVariants.Mandatory p d) c e = cc
no_formula (kept.TheVariants.Optional p d) c e = cc
no_formula (kept.TheVariants.Alternative p cs) c e = cc
no_formula (kept.TheVariants.Or p cs) c e = cc
no_formula (kept.TheVariants.Group p low high cs) c e = cc
no_formula (kept.TheVariants.Requires a b) c e = cc
no_formula (kept.TheVariants.Excludes a b) c e = cc

-- ---- lists of lines

pub as_many : (lines others : List whole.Kept) → lines_of lines ≡ lines_of others → length lines ≡ length others
as_many [] [] e = refl
as_many [] (d ∷ ds) e = absurd cc
as_many (c ∷ cs) [] e = absurd cc
as_many (c ∷ cs) (d ∷ ds) e = ap suc (as_many cs ds (let w : kept_line_of c ∷ lines_of cs ≡ kept_line_of d ∷ lines_of ds = e in cc))

pub line_at_same : (lines others : List whole.Kept) (i : ℕ) (c d : whole.Kept) → i < length lines → i < length others → c ≡ get_or lines i c → d ≡ get_or others i d
    → lines_of lines ≡ lines_of others → kept_line_of c ≡ kept_line_of d
line_at_same [] others i c d lt le is also e = absurd (omega arith)
line_at_same (x ∷ xs) [] i c d lt le is also e = absurd (omega arith)
line_at_same (x ∷ xs) (y ∷ ys) zero c d lt le is also e =
    let w : kept_line_of x ∷ lines_of xs ≡ kept_line_of y ∷ lines_of ys = e in
    let first : kept_line_of x ≡ kept_line_of y = cc in
    ap kept_line_of is ∙ first ∙ sym (ap kept_line_of also)
line_at_same (x ∷ xs) (y ∷ ys) (suc i) c d lt le is also e =
    line_at_same xs ys i c d (omega arith) (omega arith) is also (let w : kept_line_of x ∷ lines_of xs ≡ kept_line_of y ∷ lines_of ys = e in cc)

-- each line stands where some features are known
pub stands_at : (known : ℕ) (lines : List whole.Kept) (i : ℕ) (c : whole.Kept) → StandAfter known (lines_of lines) → i < length lines → c ≡ get_or lines i c → (k : ℕ) × StandsAfter k (kept_line_of c)
stands_at known [] i c s lt is = absurd (omega arith)
stands_at known (x ∷ xs) zero c s lt is = (known, subst (λ (y : whole.Kept). StandsAfter known (kept_line_of y)) (sym is) s.0)
stands_at known (x ∷ xs) (suc i) c s lt is = stands_at (known + length (introduced (kept_line_of x))) xs i c s.1 (omega arith) is

-- the next line and those behind it
pub lines_before : (lines : List whole.Kept) (n : ℕ) (c : whole.Kept) → 0 < n → n ≤ length lines → c ≡ get_or lines (n - 1) c → lines_of (drop (n - 1) lines) ≡ kept_line_of c ∷ lines_of (drop n lines)
lines_before lines n c some le is =
    let next : n - 1 + 1 ≡ n = omega arith in
    ap lines_of (drop_more lines (n - 1) c (omega arith) ∙ ap (λ (x : whole.Kept). x ∷ drop (n - 1 + 1) lines) (sym is))
    ∙ ap (λ (k : ℕ). kept_line_of c ∷ lines_of (drop k lines)) next
