-- The equations of the constraint that a rule stands for.
use Rattle.std.proofs.Common.{◌≡◌, ℕ, ◌+◌, ◌-◌, ◌<◌, ◌≤◌, List, [], ◌∷◌, ◌++◌, length, drop, get_or, refl, sym, ap, ap₂, subst, ◌∙◌, arith, rules}
use Rattle.std.proofs.lemmas.List.{drop_more, drop_all}
use Rattle.std.specs.Global.{Vec, Box}
use Rattle.vpg_rules.specs.Constraint.{Constraint, Parts, always, never, feature, negation, all, any, implication, equivalence, no_parts, part}
use Rattle.vpg_rules.specs.Grammar.{added, alone_or}
use Rattle.vpg_rules.specs.View.{constraint_of, parts_in, constraints_of}
use Rattle.vpg_rules.specs.declared.rule.Rule.{Rule, Always, Never, Feature, Not, All, Any, Implies, Iff, size-Rule, the_lemmas}
use Rattle.vpg_rules.specs.declared.rule.Rule.TheViews.{roll-Rules}
use Rattle.vpg_rules.specs.declared.rule.Rules.{Rules, size-Rules}

pub parts_in-items : (cs : Rules) → parts_in cs ≡ constraints_of cs.items.items
parts_in-items cs = search (rules, the_lemmas)

pub constraint_of-all : (items : Vec Rule) → constraint_of (All (roll-Rules record { items = items })) ≡ all (constraints_of items.items)
constraint_of-all items = search (rules, the_lemmas)

pub constraint_of-any : (items : Vec Rule) → constraint_of (Any (roll-Rules record { items = items })) ≡ any (constraints_of items.items)
constraint_of-any items = search (rules, the_lemmas)

pub constraint_of-not : (b : Box Rule) → constraint_of (Not b) ≡ negation (constraint_of b.value)
constraint_of-not b = search (rules, the_lemmas)

pub constraint_of-implies : (b d : Box Rule) → constraint_of (Implies b d) ≡ implication (constraint_of b.value) (constraint_of d.value)
constraint_of-implies b d = search (rules, the_lemmas)

pub constraint_of-iff : (b d : Box Rule) → constraint_of (Iff b d) ≡ equivalence (constraint_of b.value) (constraint_of d.value)
constraint_of-iff b d = search (rules, the_lemmas)

pub constraint_of-parts_all : (cs : Rules) → constraint_of (All cs) ≡ all (parts_in cs)
constraint_of-parts_all cs = search (rules, the_lemmas)

pub constraint_of-parts_any : (cs : Rules) → constraint_of (Any cs) ≡ any (parts_in cs)
constraint_of-parts_any cs = search (rules, the_lemmas)

pub constraint_of-always : constraint_of Always ≡ always
constraint_of-always = search (rules, the_lemmas)

pub constraint_of-never : constraint_of Never ≡ never
constraint_of-never = search (rules, the_lemmas)

pub constraint_of-feature : (f : ℕ) → constraint_of (Feature f) ≡ feature f
constraint_of-feature f = search (rules, the_lemmas)

-- ---- a rule by its variant

pub seen_always : (c : Rule) → c ≡ Always → constraint_of c ≡ always
seen_always c is = ap constraint_of is ∙ constraint_of-always

pub seen_never : (c : Rule) → c ≡ Never → constraint_of c ≡ never
seen_never c is = ap constraint_of is ∙ constraint_of-never

pub seen_feature : (c : Rule) (f : ℕ) → c ≡ Feature f → constraint_of c ≡ feature f
seen_feature c f is = ap constraint_of is ∙ constraint_of-feature f

pub seen_not : (c : Rule) (b : Box Rule) (d : Rule) → c ≡ Not b → d ≡ b.value → constraint_of c ≡ negation (constraint_of d)
seen_not c b d is e = ap constraint_of is ∙ constraint_of-not b ∙ ap (λ (h : Rule). negation (constraint_of h)) (sym e)

pub seen_all : (c : Rule) (cs : Rules) → c ≡ All cs → constraint_of c ≡ all (parts_in cs)
seen_all c cs is = ap constraint_of is ∙ constraint_of-parts_all cs

pub seen_any : (c : Rule) (cs : Rules) → c ≡ Any cs → constraint_of c ≡ any (parts_in cs)
seen_any c cs is = ap constraint_of is ∙ constraint_of-parts_any cs

pub seen_implies : (c : Rule) (a b : Box Rule) (d e : Rule) → c ≡ Implies a b → d ≡ a.value → e ≡ b.value → constraint_of c ≡ implication (constraint_of d) (constraint_of e)
seen_implies c a b d e is f g = ap constraint_of is ∙ constraint_of-implies a b ∙ ap₂ (λ (h k : Rule). implication (constraint_of h) (constraint_of k)) (sym f) (sym g)

pub seen_iff : (c : Rule) (a b : Box Rule) (d e : Rule) → c ≡ Iff a b → d ≡ a.value → e ≡ b.value → constraint_of c ≡ equivalence (constraint_of d) (constraint_of e)
seen_iff c a b d e is f g = ap constraint_of is ∙ constraint_of-iff a b ∙ ap₂ (λ (h k : Rule). equivalence (constraint_of h) (constraint_of k)) (sym f) (sym g)

-- ---- lists of rules

pub one_more : (rules : List Rule) (c : Rule) → constraints_of (rules ++ c ∷ []) ≡ added (constraints_of rules) (constraint_of c)
one_more [] c = refl
one_more (d ∷ rules) c = ap (part (constraint_of d)) (one_more rules c)

-- a list of another length than one
pub not_alone : (make : Parts ℕ → Constraint ℕ) (rules : List Rule) → (length rules ≡ 1 → ⊥) → make (constraints_of rules) ≡ alone_or make (constraints_of rules)
not_alone make [] h = refl
not_alone make (c ∷ []) h = absurd (h refl)
not_alone make (c ∷ d ∷ rules) h = refl

pub alone : (make : Parts ℕ → Constraint ℕ) (rules front : List Rule) (c : Rule) → length rules ≡ 1 → rules ≡ front ++ c ∷ [] → constraint_of c ≡ alone_or make (constraints_of rules)
alone make rules [] c one is = ap (λ (r : List Rule). alone_or make (constraints_of r)) (sym is)
alone make rules (d ∷ []) c one is = absurd (omega (arith, ap length is))
alone make rules (d ∷ e ∷ front) c one is = absurd (omega (arith, ap length is))

-- ---- what is smaller

less_inner : (b : Box Rule) → size-Rule b.value < size-Rule (Not b)
less_inner b = search (rules, the_lemmas, arith)

pub less_not : (c : Rule) (b : Box Rule) (d : Rule) → c ≡ Not b → d ≡ b.value → size-Rule d < size-Rule c
less_not c b d is e = subst (λ (h : Rule). size-Rule d < size-Rule h) (sym is) (subst (λ (h : Rule). size-Rule h < size-Rule (Not b)) (sym e) (less_inner b))

less_parts_all : (cs : Rules) → size-Rules cs < size-Rule (All cs)
less_parts_all cs = search (rules, the_lemmas, arith)

less_parts_any : (cs : Rules) → size-Rules cs < size-Rule (Any cs)
less_parts_any cs = search (rules, the_lemmas, arith)

pub less_all : (c : Rule) (cs : Rules) → c ≡ All cs → size-Rules cs < size-Rule c
less_all c cs is = subst (λ (h : Rule). size-Rules cs < size-Rule h) (sym is) (less_parts_all cs)

pub less_any : (c : Rule) (cs : Rules) → c ≡ Any cs → size-Rules cs < size-Rule c
less_any c cs is = subst (λ (h : Rule). size-Rules cs < size-Rule h) (sym is) (less_parts_any cs)

less_item : (cs : Rules) (i : ℕ) (c : Rule) → i < length cs.items.items → c ≡ get_or cs.items.items i c → size-Rule c < size-Rules cs
less_item cs i c lt is = search (rules, the_lemmas, arith)

pub less_part : (cs : Rules) (items : List Rule) (i : ℕ) (c : Rule) → items ≡ cs.items.items → i < length items → c ≡ get_or items i c → size-Rule c < size-Rules cs
less_part cs items i c e lt is =
    less_item cs i c (subst (λ (xs : List Rule). i < length xs) e lt) (subst (λ (xs : List Rule). c ≡ get_or xs i c) e is)

-- the next part and those behind it
pub parts_more : (items : List Rule) (i : ℕ) (c : Rule) → i < length items → c ≡ get_or items i c → constraints_of (drop i items) ≡ part (constraint_of c) (constraints_of (drop (i + 1) items))
parts_more items i c lt is = ap constraints_of (drop_more items i c lt ∙ ap (λ (x : Rule). x ∷ drop (i + 1) items) (sym is))

pub parts_end : (items : List Rule) (i : ℕ) → length items ≤ i → constraints_of (drop i items) ≡ no_parts
parts_end items i le = ap constraints_of (drop_all i items le)

pub parts_before : (items : List Rule) (n : ℕ) (c : Rule) → 0 < n → n ≤ length items → c ≡ get_or items (n - 1) c → constraints_of (drop (n - 1) items) ≡ part (constraint_of c) (constraints_of (drop n items))
parts_before items n c positive le is =
    let next : n - 1 + 1 ≡ n = omega arith in
    parts_more items (n - 1) c (omega arith) is ∙ ap (λ (k : ℕ). part (constraint_of c) (constraints_of (drop k items))) next
