use Rattle.std.proofs.Common.{List, [], ◌∷◌, ◌++◌, length, sym, subst}
use Rattle.vpg_written.proofs.Whole.{basis, terms_are, translated, refused}
use Rattle.vpg_requirement.specs.Actions as numbered
use Rattle.vpg_meaning.specs.Labels.{none_of_them}
use Rattle.vpg_formula.specs.declared.requirement.Entry as code
use Rattle.vpg_written.specs.Entries.{AreMade}
use Rattle.vpg_written.specs.Tasks.{AreTerms}
use Rattle.vpg_written.specs.Whole.{AreSpelledForms}
use Rattle.vpg_written.specs.declared.task.Term.{Term}
use Rattle.vpg_written.proofs.translation.translate.Goals as goal

pub returns-in-Ok-clause-translated : goal.returns-in-Ok-clause-translated
returns-in-Ok-clause-translated c = λ entries are.
    let names = c.args.system.now.actions in
    let es = c.args.requirements.now.entries.items in
    let first = numbered.every_action ∷ none_of_them ∷ [] in
    let sets = c.terms.new.sets.items in
    let ts = c.in_ok-terms.terms.items in
    let made = subst (λ (xs : List code.Entry). AreMade names first xs (length xs) sets ts) c.as_slice.ensures.value (c.in_ok-terms.ensures first c.in_ok-sets.ensures) in
    let g = basis names es entries are (first ++ made.more) made.are.constants in
    let are_terms = subst (AreTerms g) (sym c.as_slice-2.ensures.value) (terms_are names es entries are first sets ts made) in
    translated names es entries are first sets ts made c.in-Ok.forms.items (subst (λ (xs : List Term). AreSpelledForms g (length xs) c.in-Ok.forms.items) c.as_slice-2.ensures.value (c.in-Ok.ensures.spelled g are_terms))

pub returns-in-Err-clause-refused : goal.returns-in-Err-clause-refused
returns-in-Err-clause-refused c = λ entries are.
    let names = c.args.system.now.actions in
    let es = c.args.requirements.now.entries.items in
    let first = numbered.every_action ∷ none_of_them ∷ [] in
    let sets = c.terms.new.sets.items in
    let ts = c.in_ok-terms.terms.items in
    let made = subst (λ (xs : List code.Entry). AreMade names first xs (length xs) sets ts) c.as_slice.ensures.value (c.in_ok-terms.ensures first c.in_ok-sets.ensures) in
    let g = basis names es entries are (first ++ made.more) made.are.constants in
    let are_terms = subst (AreTerms g) (sym c.as_slice-2.ensures.value) (terms_are names es entries are first sets ts made) in
    refused names es entries are first sets ts made c.in-Err.fault (c.in-Err.ensures.refused g are_terms)
