-- Literals in the order of their features.
use Rattle.std.proofs.Common.{◌≡◌, ◌<◌, ◌⊎◌, inl, inr, true, List, [], ◌∷◌, ◌++◌, Contains, refl, sym, ap₂, ◌∙◌, subst, arith}
use Rattle.std.proofs.lemmas.List.Elements.{Contains-append_cases}
use Rattle.vpg_diagram.specs.FeatureDiagram.{Line, feature_count}
use Rattle.vpg_diagram.specs.declared.clause.Literal.{Literal}
use Rattle.vpg_diagram.proofs.Lists.{All-contained, Contains-cons, Contains-here, Contains-there, Contains-nil}
use Rattle.vpg_game.specs.Guarded.{GuardedGame}
use Rattle.vpg_guards.specs.Formula.{Formula}
use Rattle.vpg_partial.specs.KnownLaws.{IsKnownOf}
use Rattle.vpg_why.specs.Laws.{NeedsAreOne}
use Rattle.vpg_why.specs.Products.{AreInOrder, AreNeedsIn}
use Rattle.vpg_why.specs.declared.question.Aim.{Aim}

-- one more behind them
pub one_behind : (listed : List Literal) (last : Literal) → AreInOrder listed →
    ((l : Literal) → Contains listed l → l.feature < last.feature) → AreInOrder (listed ++ last ∷ [])
one_behind [] last are before = ((λ m h. absurd (Contains-nil m h)), tt)
one_behind (l ∷ rest) last are before = (each, one_behind rest last are.1 (λ m h. before m (Contains-there l rest m h)))
  where
    is_last : (m : Literal) → (last ≡ m) ⊎ Contains [] m → l.feature < m.feature
    is_last m (inl same) = subst (λ (x : Literal). l.feature < x.feature) same (before l (Contains-here l rest))
    is_last m (inr none) = absurd (Contains-nil m none)

    of : (m : Literal) → Contains rest m ⊎ Contains (last ∷ []) m → l.feature < m.feature
    of m (inl k) = are.0 m k
    of m (inr k) = is_last m (Contains-cons last [] m k)

    each : (m : Literal) → Contains (rest ++ last ∷ []) m → l.feature < m.feature
    each m h = of m (Contains-append_cases rest (last ∷ []) m h)

abbrev AreBehind : Literal → List Literal → Type 0
AreBehind l ls = (x : Literal) → Contains ls x → l.feature < x.feature

-- the first ones are the same
firsts : (l m : Literal) (ls ms : List Literal) → AreBehind l ls → AreBehind m ms → Contains (m ∷ ms) l → Contains (l ∷ ls) m → l ≡ m
firsts l m ls ms a b h k = of (Contains-cons m ms l h) (Contains-cons l ls m k)
  where
    of : (m ≡ l) ⊎ Contains ms l → (l ≡ m) ⊎ Contains ls m → l ≡ m
    of (inl e) k = sym e
    of (inr h) (inl e) = e
    of (inr h) (inr k) = absurd (omega (arith, b l h, a m k))

-- and so are those behind them
others : (l m : Literal) (ls ms : List Literal) → l ≡ m → AreBehind l ls → (x : Literal) → Contains ls x → Contains (m ∷ ms) x → Contains ms x
others l m ls ms same a x h k = of (Contains-cons m ms x k)
  where
    of : (m ≡ x) ⊎ Contains ms x → Contains ms x
    of (inl e) = absurd (omega (arith, subst (λ (y : Literal). l.feature < y.feature) (sym (same ∙ e)) (a x h)))
    of (inr k) = k

-- two lists in order of the same literals
one_list : (one other : List Literal) → AreInOrder one → AreInOrder other → ((l : Literal) → Contains one l → Contains other l) →
    ((l : Literal) → Contains other l → Contains one l) → one ≡ other
one_list [] [] a b into back = refl
one_list [] (m ∷ ms) a b into back = absurd (Contains-nil m (back m (Contains-here m ms)))
one_list (l ∷ ls) [] a b into back = absurd (Contains-nil l (into l (Contains-here l ls)))
one_list (l ∷ ls) (m ∷ ms) a b into back =
    let same : l ≡ m = firsts l m ls ms a.0 b.0 (into l (Contains-here l ls)) (back m (Contains-here m ms)) in
    ap₂ (λ (x : Literal) (xs : List Literal). x ∷ xs) same
    (one_list ls ms a.1 b.1 (λ x h. others l m ls ms same a.0 x h (into x (Contains-there l ls x h)))
    (λ x h. others m l ms ls (sym same) b.0 x h (back x (Contains-there m ms x h))))

-- what the one list has the other has, where nothing else is needed
into_all : (game : GuardedGame Formula) (lines : List Line) (aim : Aim) (choices one other : List Literal) → AreNeedsIn game lines aim choices one true →
    AreNeedsIn game lines aim choices other true → (l : Literal) → Contains one l → Contains other l
into_all game lines aim choices one other a b l h =
    of (b.complete refl l (All-contained (λ c. c.feature < feature_count lines) one l a.named h) (a.forced l h))
  where
    of : IsKnownOf lines choices l ⊎ Contains other l → Contains other l
    of (inl known) = absurd (a.not_known l h known)
    of (inr k) = k

pub needs_are_one : NeedsAreOne
needs_are_one game lines aim choices one other a b =
    one_list one other a.in_order b.in_order (into_all game lines aim choices one other a b) (into_all game lines aim choices other one b a)
