use Rattle.std.proofs.Common.{ap, subst, sym, ◌∙◌}
use Rattle.std.specs.Prelude.{Contains}
use Rattle.vpg_guards.specs.Formula.{Formula, truth, named}
use Rattle.vpg_guards.specs.Known.{kleene}
use Rattle.vpg_guards.specs.View.{formula_of}
use Rattle.vpg_guards.specs.Writing.{IsReadable}
use Rattle.vpg_blake.proofs.Steps.{short_given}
use Rattle.vpg_blake.proofs.Made.{same_in_each, decided_known, names_kept, readable_again}
use Rattle.vpg_blake.proofs.form.blake_form.Goals as goal

pub returns-in-Some-clause-form : goal.returns-in-Some-clause-form
returns-in-Some-clause-form c = λ short. (short_given c.args.features (formula_of c.args.guard) c.in_ok-form.field-0 c.in-Some.form c.in-Some.is c.in_ok-form.ensures).1

pub returns-in-Some-clause-kept : goal.returns-in-Some-clause-kept
returns-in-Some-clause-kept c = λ long. absurd (long (short_given c.args.features (formula_of c.args.guard) c.in_ok-form.field-0 c.in-Some.form c.in-Some.is c.in_ok-form.ensures).0)

pub returns-in-Some-clause-truth : goal.returns-in-Some-clause-truth
returns-in-Some-clause-truth c =
    λ set. ap (truth set) (short_given c.args.features (formula_of c.args.guard) c.in_ok-form.field-0 c.in-Some.form c.in-Some.is c.in_ok-form.ensures).1 ∙ same_in_each c.args.features (formula_of c.args.guard) c.requires.below set

pub returns-in-Some-clause-named : goal.returns-in-Some-clause-named
returns-in-Some-clause-named c =
    λ f h. names_kept c.args.features (formula_of c.args.guard) c.requires.below f (subst (λ (g : Formula). Contains (named g) f) (short_given c.args.features (formula_of c.args.guard) c.in_ok-form.field-0 c.in-Some.form c.in-Some.is c.in_ok-form.ensures).1 h)

pub returns-in-Some-clause-sharp : goal.returns-in-Some-clause-sharp
returns-in-Some-clause-sharp c =
    λ short known b h. ap (kleene known) (short_given c.args.features (formula_of c.args.guard) c.in_ok-form.field-0 c.in-Some.form c.in-Some.is c.in_ok-form.ensures).1 ∙ decided_known c.args.features (formula_of c.args.guard) c.requires.below known b h

pub returns-in-Some-clause-readable : goal.returns-in-Some-clause-readable
returns-in-Some-clause-readable c =
    subst (IsReadable c.args.features) (sym (short_given c.args.features (formula_of c.args.guard) c.in_ok-form.field-0 c.in-Some.form c.in-Some.is c.in_ok-form.ensures).1) (readable_again c.args.features (formula_of c.args.guard) c.requires.below)
