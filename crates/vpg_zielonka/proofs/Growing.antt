-- Growth of a universe, and the products that its sets have.
use Rattle.std.proofs.Common.{◌≡◌, Bool, true, List, refl, sym, ◌∙◌, ap, subst}
use Rattle.vpg_sets.specs.Sets as diagrams
use Rattle.vpg_sets.proofs.Growth as growth
use Rattle.vpg_zielonka.specs.declared.subset.Subset.{Subset}
use Rattle.vpg_zielonka.specs.declared.universe.Universe.{Universe}
use Rattle.vpg_zielonka.specs.declared.universe.Universe.TheVariants.{Diagrams, Listed}
use Rattle.vpg_zielonka.specs.Universes.{node_of, features_of, IsKnown, IsInside, has, IsSetOf, Grows, IsGrown}
use Rattle.vpg_zielonka.proofs.Places.{is_listed}

-- of one kind, or not at all
pub grown_diagrams : (a b : diagrams.Arena) → diagrams.IsGrown a b → IsGrown (Diagrams a) (Diagrams b)
grown_diagrams a b g = record {
  kind = g;
  features = g.features;
  known = λ p k. k;
  inside = λ set l. growth.inside_grown a b g (node_of set) l;
  same = λ set l p. g.same (node_of set) l p;
}

pub grown_same : (a b : Universe) → b ≡ a → Grows a b → IsGrown a b
grown_same a b e kind = record {
  kind = kind;
  features = ap features_of e;
  known = λ p k. subst (λ (u : Universe). IsKnown u p) e k;
  inside = λ set l. subst (λ (u : Universe). IsInside u set) (sym e) l;
  same = λ set l p. ap (λ (u : Universe). has u set p) e;
}

pub grown_self : (a : Universe) → IsGrown a a
grown_self (Diagrams a) = grown_diagrams a a (growth.grown_self a)
grown_self (Listed a) = grown_same (Listed a) (Listed a) refl refl

kinds_then : (a b c : Universe) → Grows a b → Grows b c → Grows a c
kinds_then (Diagrams a) (Diagrams b) (Diagrams c) g h = growth.grown_then a b c g h
kinds_then (Diagrams a) (Diagrams b) (Listed c) g h = absurd h
kinds_then (Diagrams a) (Listed b) c g h = absurd g
kinds_then (Listed a) (Diagrams b) c g h = absurd g
kinds_then (Listed a) (Listed b) (Diagrams c) g h = absurd h
kinds_then (Listed a) (Listed b) (Listed c) g h = h ∙ g

pub grown_then : (a b c : Universe) → IsGrown a b → IsGrown b c → IsGrown a c
grown_then a b c g h = record {
  kind = kinds_then a b c g.kind h.kind;
  features = h.features ∙ g.features;
  known = λ p k. g.known p (h.known p k);
  inside = λ set l. h.inside set (g.inside set l);
  same = λ set l p. h.same set (g.inside set l) p ∙ g.same set l p;
}

pub inside_grown : (a b : Universe) → IsGrown a b → (set : Subset) → IsInside a set → IsInside b set
inside_grown a b g set l = g.inside set l

pub set_grown : (a b : Universe) → IsGrown a b → (test : List Bool → Bool) (set : Subset) → IsSetOf a test set →
    IsSetOf b test set
set_grown a b g test set s = record {
  inside = g.inside set s.inside;
  each = λ p. g.same set s.inside p ∙ s.each p;
}

pub set_same : (a : Universe) (f g : List Bool → Bool) → ((p : List Bool) → f p ≡ g p) → (set : Subset) →
    IsSetOf a f set → IsSetOf a g set
set_same a f g e set s = record {
  inside = s.inside;
  each = λ p. s.each p ∙ e p;
}

-- a product of a set is known
pub known_of : (a : Universe) (set : Subset) (p : List Bool) → has a set p ≡ true → IsKnown a p
known_of (Diagrams a) set p e = search
known_of (Listed a) set p e = is_listed a.products _ p e
