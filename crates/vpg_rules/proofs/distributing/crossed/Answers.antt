use Rattle.std.proofs.Common.{◌≡◌, ℕ, ◌*◌, ◌≤◌, ◌<◌, length, Some, sym, ap, ap₂, ◌∙◌, arith}
use Rattle.std.proofs.lemmas.Bool.{both_ways}
use Rattle.vpg_rules.specs.Clauses.{crossed}
use Rattle.vpg_rules.specs.Distributing.{clauses_in}
use Rattle.vpg_rules.proofs.Limits.{Lists, crossed_empty_right, crossed_large_left, crossed_large_right, crossed_over, crossed_within, over_limit, under_limit}
use Rattle.vpg_rules.proofs.distributing.crossed.Goals as goal

pub returns-then-is_empty-2 : goal.returns-then-is_empty-2
returns-then-is_empty-2 c xs ys e f =
    ap Some c.new-then-is_empty-2.ensures.items ∙ crossed_empty_right xs ys (sym (c.is_empty-2.ensures.0 c.if-is_empty-2.true) ∙ f)

pub returns-in_default : goal.returns-in_default
returns-in_default c xs ys e f =
    crossed_large_left xs ys (sym (ap clauses_in c.in_default.is) ∙ e) (λ empty. both_ways c.is_empty-2.result c.if-is_empty-2.false (c.is_empty-2.ensures.1 (f ∙ sym empty)))

pub returns-in_default-second : goal.returns-in_default-second
returns-in_default-second c xs ys e f =
    crossed_large_right xs ys (λ empty. both_ways c.is_empty.result c.if-is_empty.false (c.is_empty.ensures.1 (e ∙ sym empty))) (sym (ap clauses_in c.in_default-second.is) ∙ f)

pub returns-then-saturating_mul-gt-MOST_CLAUSES : goal.returns-then-saturating_mul-gt-MOST_CLAUSES
returns-then-saturating_mul-gt-MOST_CLAUSES c xs ys e f =
    let a = c.in-Some.first.items in
    let b = c.in-Some-second.second.items in
    let first : c.len.result ≡ length a = omega (arith, c.len.ensures, c.in-Some.first.ok.0) in
    let second : c.len-2.result ≡ length b = omega (arith, c.len-2.ensures, c.in-Some-second.second.ok.0) in
    let product = ap₂ (λ (m n : ℕ). m * n) first second in
    let over : 64 < length a * length b = omega (arith, product, over_limit (c.len.result * c.len-2.result) c.saturating_mul.result c.saturating_mul.ensures c.if-saturating_mul-gt-MOST_CLAUSES.true) in
    crossed_over xs ys a b (sym (ap clauses_in c.in-Some.is) ∙ e) (sym (ap clauses_in c.in-Some-second.is) ∙ f) over

pub returns : goal.returns
returns c xs ys e f =
    let a = c.in-Some.first.items in
    let b = c.in-Some-second.second.items in
    let first : c.len.result ≡ length a = omega (arith, c.len.ensures, c.in-Some.first.ok.0) in
    let second : c.len-2.result ≡ length b = omega (arith, c.len-2.ensures, c.in-Some-second.second.ok.0) in
    let product = ap₂ (λ (m n : ℕ). m * n) first second in
    let few : length a * length b ≤ 64 = omega (arith, product, under_limit (c.len.result * c.len-2.result) c.saturating_mul.result c.saturating_mul.ensures (omega (arith, c.if-saturating_mul-gt-MOST_CLAUSES.false))) in
    let made : c.in_ok-clauses.clauses.items ≡ crossed a b = c.in_ok-clauses.ensures ∙ ap₂ (λ (x y : Lists). crossed x y) c.deref.ensures.value c.deref-2.ensures.value in
    crossed_within xs ys a b c.in_ok-clauses.clauses.items (sym (ap clauses_in c.in-Some.is) ∙ e) (sym (ap clauses_in c.in-Some-second.is) ∙ f) few made
