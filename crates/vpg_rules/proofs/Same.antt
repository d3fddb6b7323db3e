-- Whether two lists of rules stand for the same constraints.
use Rattle.std.proofs.Common.{◌≡◌, ℕ, zero, suc, ◌<◌, List, [], ◌∷◌, length, get_or, refl, sym, ap, ◌∙◌, arith}
use Rattle.vpg_rules.specs.Constraint.{part}
use Rattle.vpg_rules.specs.View.{constraint_of, constraints_of}
use Rattle.vpg_rules.specs.declared.rule.Rule.{Rule}

-- equal lists are as long, and have equal parts
pub as_many : (rules others : List Rule) → constraints_of rules ≡ constraints_of others → length rules ≡ length others
as_many [] [] e = refl
as_many [] (d ∷ ds) e = absurd cc
as_many (c ∷ cs) [] e = absurd cc
as_many (c ∷ cs) (d ∷ ds) e = ap suc (as_many cs ds (let w : part (constraint_of c) (constraints_of cs) ≡ part (constraint_of d) (constraints_of ds) = e in cc))

pub part_same : (rules others : List Rule) (i : ℕ) (c d : Rule) → i < length rules → i < length others → c ≡ get_or rules i c → d ≡ get_or others i d
    → constraints_of rules ≡ constraints_of others → constraint_of c ≡ constraint_of d
part_same [] others i c d lt le is also e = absurd (omega arith)
part_same (x ∷ xs) [] i c d lt le is also e = absurd (omega arith)
part_same (x ∷ xs) (y ∷ ys) zero c d lt le is also e =
    let w : part (constraint_of x) (constraints_of xs) ≡ part (constraint_of y) (constraints_of ys) = e in
    let first : constraint_of x ≡ constraint_of y = cc in
    ap constraint_of is ∙ first ∙ sym (ap constraint_of also)
part_same (x ∷ xs) (y ∷ ys) (suc i) c d lt le is also e =
    part_same xs ys i c d (omega arith) (omega arith) is also (let w : part (constraint_of x) (constraints_of xs) ≡ part (constraint_of y) (constraints_of ys) = e in cc)
