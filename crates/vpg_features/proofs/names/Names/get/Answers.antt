use Rattle.std.proofs.lemmas.Grind.{common_steps}
use Rattle.std.proofs.Common.{ℕ, List, Some, sym, ap, subst, ◌∙◌, string_bytes, arith}
use Rattle.vpg_features.specs.Names.{AreDistinct}
use Rattle.vpg_features.proofs.Held.{name_is_text, held_is_name, found_name, held_found, index_of_held, index_of_lacks, none_is_some}
use Rattle.vpg_features.proofs.names.Names.get.Goals as goal

pub returns-in_default-clause-held : goal.returns-in_default-clause-held
returns-in_default-clause-held c i e =
    let here = rw (← c.self.view_is) at e in
    absurd (c.in_default.ensures.cases.0 (name_is_text _ (held_is_name _ i _ c.self.invariant.each here)))

pub returns-in-Some-clause-found : goal.returns-in-Some-clause-found
returns-in-Some-clause-found c =
    let here = found_name string_bytes c.in-Ok.text.now c.self.inside.set.keys c.in-Some.index (sym c.in-Some.ensures.index) in
    rw (← c.self.view_is) (here ∙ ap (λ (n : List ℕ). Some n) c.in-Ok.ensures.cases.0)

pub returns-in-Some-clause-held : goal.returns-in-Some-clause-held
returns-in-Some-clause-held c i e =
    let here = rw (← c.self.view_is) at (e ∙ ap (λ (n : List ℕ). Some n) (sym c.in-Ok.ensures.cases.0)) in
    c.in-Some.ensures.index ∙ held_found string_bytes c.in-Ok.text.now c.self.inside.set.keys i c.self.invariant.distinct here

pub returns-in-None-clause-held : goal.returns-in-None-clause-held
returns-in-None-clause-held c i e =
    let here = rw (← c.self.view_is) at (e ∙ ap (λ (n : List ℕ). Some n) (sym c.in-Ok.ensures.cases.0)) in
    c.in-None.ensures.index ∙ held_found string_bytes c.in-Ok.text.now c.self.inside.set.keys i c.self.invariant.distinct here

pub returns-in_default-clause-absent : goal.returns-in_default-clause-absent
returns-in_default-clause-absent c i e = none_is_some i (returns-in_default-clause-held c i e)

pub returns-in-None-clause-absent : goal.returns-in-None-clause-absent
returns-in-None-clause-absent c i e = none_is_some i (returns-in-None-clause-held c i e)

pub returns-in_default-clause-index : goal.returns-in_default-clause-index
returns-in_default-clause-index c = sym (index_of_lacks c.args.self.now c.args.name.now (returns-in_default-clause-absent c))

pub returns-in-Some-clause-index : goal.returns-in-Some-clause-index
returns-in-Some-clause-index c = sym (index_of_held c.args.self.now c.args.name.now c.in-Some.index (subst AreDistinct c.self.view_is c.self.invariant.distinct) (returns-in-Some-clause-found c))

pub returns-in-None-clause-index : goal.returns-in-None-clause-index
returns-in-None-clause-index c = sym (index_of_lacks c.args.self.now c.args.name.now (returns-in-None-clause-absent c))

pub overflow_cast-result : goal.overflow_cast-result
overflow_cast-result c = grind (arith, common_steps)
