-- Whether two guards are the same, by their variants.
use Rattle.std.proofs.Common.{◌≡◌, ◌↔◌, ℕ, Bool, true, false, IsTrue, eqb, refl, sym, ap, subst, ◌∙◌}
use Rattle.std.proofs.lemmas.Bool.{false≢true, eqb-true, eq-eqb}
use Rattle.std.specs.Global.{Box}
use Rattle.vpg_guards.specs.Formula.{Formula, Parts, always, never, feature, negation, all, any, no_parts, part}
use Rattle.vpg_guards.specs.View.{formula_of, parts_in}
use Rattle.vpg_guards.specs.declared.guard.Guard.{Guard, Always, Never, Feature, Not, All, Any}
use Rattle.vpg_guards.specs.declared.guard.Guard.TheOpen.{Guard-F}
use Rattle.vpg_guards.specs.declared.guard.Guard.TheViews.{out-Guard, roll-Guard, roll-out-Guard, rolls-Always, rolls-Never, rolls-Feature, rolls-Not, rolls-All, rolls-Any}
use Rattle.vpg_guards.specs.declared.guard.Guards.{Guards}
use Rattle.vpg_guards.proofs.Views.{seen_always, seen_never, seen_feature, seen_not, seen_all, seen_any}

-- a guard is of one of six variants
by_variant : (P : Guard → Type 0) → P Always → P Never → ((f : ℕ) → P (Feature f)) → ((b : Box Guard) → P (Not b)) → ((gs : Guards) → P (All gs)) → ((gs : Guards) → P (Any gs)) → (g : Guard) → P g
by_variant P a n f b l y g = subst P (roll-out-Guard g) (go (out-Guard g))
  where
    go : (x : Guard-F Guard Guards) → P (roll-Guard x)
    go Guard-F.Always = subst P (sym rolls-Always) a
    go Guard-F.Never = subst P (sym rolls-Never) n
    go (Guard-F.Feature x) = subst P (sym (rolls-Feature x)) (f x)
    go (Guard-F.Not x) = subst P (sym (rolls-Not x)) (b x)
    go (Guard-F.All x) = subst P (sym (rolls-All x)) (l x)
    go (Guard-F.Any x) = subst P (sym (rolls-Any x)) (y x)

-- not of the variant that has this formula
abbrev pub IsOther : Formula → Guard → Type 0
IsOther always g = g ≡ Always → ⊥
IsOther never g = g ≡ Never → ⊥
IsOther (feature f) g = (x : ℕ) → g ≡ Feature x → ⊥
IsOther (negation h) g = (b : Box Guard) → g ≡ Not b → ⊥
IsOther (all hs) g = (gs : Guards) → g ≡ All gs → ⊥
IsOther (any hs) g = (gs : Guards) → g ≡ Any gs → ⊥

-- so it has not that formula
pub not_other : (g : Guard) (f : Formula) → formula_of g ≡ f → IsOther f g → ⊥
not_other = by_variant (λ (g : Guard). (f : Formula) → formula_of g ≡ f → IsOther f g → ⊥)
    (λ f e. subst (λ (h : Formula). IsOther h Always → ⊥) (sym (seen_always Always refl) ∙ e) (λ o. o refl))
    (λ f e. subst (λ (h : Formula). IsOther h Never → ⊥) (sym (seen_never Never refl) ∙ e) (λ o. o refl))
    (λ x f e. subst (λ (h : Formula). IsOther h (Feature x) → ⊥) (sym (seen_feature (Feature x) x refl) ∙ e) (λ o. o x refl))
    (λ b f e. subst (λ (h : Formula). IsOther h (Not b) → ⊥) (sym (seen_not (Not b) b b.value refl refl) ∙ e) (λ o. o b refl))
    (λ gs f e. subst (λ (h : Formula). IsOther h (All gs) → ⊥) (sym (seen_all (All gs) gs refl) ∙ e) (λ o. o gs refl))
    (λ gs f e. subst (λ (h : Formula). IsOther h (Any gs) → ⊥) (sym (seen_any (Any gs) gs refl) ∙ e) (λ o. o gs refl))

pub differs : (g h : Guard) (f : Formula) → formula_of g ≡ f → IsOther f h → IsTrue false ↔ (formula_of g ≡ formula_of h)
differs g h f is other = (λ yes. absurd (false≢true yes), λ e. absurd (not_other h f (sym e ∙ is) other))

pub agrees : (g h : Guard) (f : Formula) → formula_of g ≡ f → formula_of h ≡ f → IsTrue true ↔ (formula_of g ≡ formula_of h)
agrees g h f is also = (λ _. is ∙ sym also, λ _. refl)

abbrev number_in : Formula → ℕ
number_in always = 0
number_in never = 0
number_in (feature f) = f
number_in (negation g) = 0
number_in (all gs) = 0
number_in (any gs) = 0

abbrev formula_in : Formula → Formula
formula_in always = always
formula_in never = always
formula_in (feature f) = always
formula_in (negation g) = g
formula_in (all gs) = always
formula_in (any gs) = always

abbrev list_in : Formula → Parts
list_in always = no_parts
list_in never = no_parts
list_in (feature f) = no_parts
list_in (negation g) = no_parts
list_in (all gs) = gs
list_in (any gs) = gs

pub same_feature : (g h : Guard) (f k : ℕ) → formula_of g ≡ feature f → formula_of h ≡ feature k → IsTrue (eqb f k) ↔ (formula_of g ≡ formula_of h)
same_feature g h f k is also = (
  λ yes. is ∙ ap feature (eqb-true f k yes) ∙ sym also,
  λ e. eq-eqb f k (ap number_in (sym is ∙ e ∙ also)),
)

pub same_not : (g h : Guard) (a b : Formula) (r : Bool) → formula_of g ≡ negation a → formula_of h ≡ negation b → IsTrue r ↔ (a ≡ b) → IsTrue r ↔ (formula_of g ≡ formula_of h)
same_not g h a b r is also same = (λ yes. is ∙ ap negation (same.0 yes) ∙ sym also, λ e. same.1 (ap formula_in (sym is ∙ e ∙ also)))

pub same_all : (g h : Guard) (a b : Parts) (r : Bool) → formula_of g ≡ all a → formula_of h ≡ all b → IsTrue r ↔ (a ≡ b) → IsTrue r ↔ (formula_of g ≡ formula_of h)
same_all g h a b r is also same = (λ yes. is ∙ ap all (same.0 yes) ∙ sym also, λ e. same.1 (ap list_in (sym is ∙ e ∙ also)))

pub same_any : (g h : Guard) (a b : Parts) (r : Bool) → formula_of g ≡ any a → formula_of h ≡ any b → IsTrue r ↔ (a ≡ b) → IsTrue r ↔ (formula_of g ≡ formula_of h)
same_any g h a b r is also same = (λ yes. is ∙ ap any (same.0 yes) ∙ sym also, λ e. same.1 (ap list_in (sym is ∙ e ∙ also)))
