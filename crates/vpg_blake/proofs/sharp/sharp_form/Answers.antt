use Rattle.std.proofs.Common.{ℕ, List, ◌++◌, ◌∙◌, ap, subst}
use Rattle.vpg_guards.specs.Formula.{named}
use Rattle.vpg_guards.specs.View.{formula_of}
use Rattle.vpg_blake.specs.Sharp.{AreDifferent}
use Rattle.vpg_blake.proofs.Different.{apart_from_different}
use Rattle.vpg_blake.proofs.NamedOnce.{named_once_is_sharp}
use Rattle.vpg_blake.proofs.Sharpened.{result_sharp}
use Rattle.vpg_blake.proofs.sharp.sharp_form.Goals as goal

pub returns-then-are_different-clause-sharp : goal.returns-then-are_different-clause-sharp
returns-then-are_different-clause-sharp c = λ short.
    let names : List ℕ = named (formula_of c.args.guard) in
    let seen = c.deref.ensures.value ∙ c.in_ok-push_features.ensures ∙ ap (λ (xs : List ℕ). xs ++ names) c.new-named.ensures.items in
    named_once_is_sharp (formula_of c.args.guard) (apart_from_different names (subst AreDifferent seen (c.are_different.ensures.0 c.if-are_different.true)))

pub returns-clause-sharp : goal.returns-clause-sharp
returns-clause-sharp c =
    result_sharp c.args.features (formula_of c.args.guard) c.blake_form.result c.blake_form.ensures.sharp c.blake_form.ensures.kept c.blake_form.ensures.truth
