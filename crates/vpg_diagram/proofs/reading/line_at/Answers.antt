use Rattle.std.proofs.Common.{◌≡◌, ℕ, Bool, true, List, [], ◌∷◌, Result, Ok, Err, length, IfOk, sym, ap, ◌∙◌, arith}
use Rattle.std.proofs.lemmas.Grind.{common_steps}
use Rattle.std.proofs.lemmas.Result.{err_from_is_err_and}
use Rattle.vpg_diagram.specs.FeatureDiagram.{Line, Mandatory, Optional, Alternative, Or, Requires, Excludes}
use Rattle.vpg_diagram.specs.DiagramText.{Form}
use Rattle.vpg_diagram.specs.DiagramReading.{place_of_name, children_at, line_at}
use Rattle.vpg_diagram.specs.FormView.{texts, view_form}
use Rattle.vpg_diagram.specs.ReadCode.{IsChildrenError, IsFormError}
use Rattle.vpg_diagram.specs.declared.fault.LineError.{LineError}
use Rattle.vpg_diagram.specs.declared.fault.LineError.TheVariants as errors
use Rattle.vpg_diagram.proofs.ReadLoop.{err_passed}
use Rattle.vpg_diagram.proofs.reading.line_at.Goals as goal

-- nothing is asked of the value of an error
no_value : {T E : Type 0} (r : Result T E) (x : E) (P : T → Type 0) → r ≡ Err x → IfOk r P
no_value (Ok y) x P e = absurd (cc)
no_value (Err y) x P e = tt

children_refused : (names : List (List ℕ)) (rules : ℕ) (form : Form) (parent : List ℕ) (members : List (List ℕ)) (fits : Bool) (line : ℕ → List ℕ → Line) (e : LineError) →
    line_at names rules form ≡ children_at names (place_of_name names parent) members line fits → IsChildrenError names parent members fits e → IsFormError names rules form e
children_refused names rules form parent members fits line errors.Memory is h = tt
children_refused names rules form parent members fits line (errors.Refused kind) is h = is ∙ h line

pub returns-in_err-family-in-Mandatory-clause-line : goal.returns-in_err-family-in-Mandatory-clause-line
returns-in_err-family-in-Mandatory-clause-line c = let p = err_from_is_err_and c.from_residual.result c.from_residual.ensures.1 in no_value c.from_residual.result p.0 _ p.1

pub returns-in_err-family-in-Mandatory-clause-names : goal.returns-in_err-family-in-Mandatory-clause-names
returns-in_err-family-in-Mandatory-clause-names c = let p = err_from_is_err_and c.from_residual.result c.from_residual.ensures.1 in no_value c.from_residual.result p.0 _ p.1

pub returns-in_err-family-in-Mandatory-clause-refused : goal.returns-in_err-family-in-Mandatory-clause-refused
returns-in_err-family-in-Mandatory-clause-refused c =
    err_passed c.from_residual.result c.in_err-family-in-Mandatory.field-0.0 (IsFormError c.args.names.now c.args.rules (view_form c.args.form.now)) c.from_residual.ensures.1
    (children_refused c.args.names.now c.args.rules (view_form c.args.form.now) c.in-Mandatory.parent.now (c.in-Mandatory.child.now ∷ []) true (λ k _. Mandatory k (length c.args.names.now)) c.in_err-family-in-Mandatory.field-0.0 (ap (λ f. line_at c.args.names.now c.args.rules (view_form f)) c.in-Mandatory.is) c.in_err-family-in-Mandatory.ensures.refused)

pub returns-in_ok-family-in-Mandatory-clause-line : goal.returns-in_ok-family-in-Mandatory-clause-line
returns-in_ok-family-in-Mandatory-clause-line c =
    ap (λ f. line_at c.args.names.now c.args.rules (view_form f)) c.in-Mandatory.is
    ∙ (c.in_ok-family-in-Mandatory.ensures.family.read (λ k _. Mandatory k (length c.args.names.now)) ∙ ap (λ n. Ok (Mandatory c.in_ok-family-in-Mandatory.family.parent n)) (sym c.in_ok-family-in-Mandatory.ensures.family.first))

pub returns-in_err-family-in-Optional-clause-line : goal.returns-in_err-family-in-Optional-clause-line
returns-in_err-family-in-Optional-clause-line c = let p = err_from_is_err_and c.from_residual-in_err-family-in-Optional.result c.from_residual-in_err-family-in-Optional.ensures.1 in no_value c.from_residual-in_err-family-in-Optional.result p.0 _ p.1

pub returns-in_err-family-in-Optional-clause-names : goal.returns-in_err-family-in-Optional-clause-names
returns-in_err-family-in-Optional-clause-names c = let p = err_from_is_err_and c.from_residual-in_err-family-in-Optional.result c.from_residual-in_err-family-in-Optional.ensures.1 in no_value c.from_residual-in_err-family-in-Optional.result p.0 _ p.1

pub returns-in_err-family-in-Optional-clause-refused : goal.returns-in_err-family-in-Optional-clause-refused
returns-in_err-family-in-Optional-clause-refused c =
    err_passed c.from_residual-in_err-family-in-Optional.result c.in_err-family-in-Optional.field-0.0 (IsFormError c.args.names.now c.args.rules (view_form c.args.form.now)) c.from_residual-in_err-family-in-Optional.ensures.1
    (children_refused c.args.names.now c.args.rules (view_form c.args.form.now) c.in-Optional.parent.now (c.in-Optional.child.now ∷ []) true (λ k _. Optional k (length c.args.names.now)) c.in_err-family-in-Optional.field-0.0 (ap (λ f. line_at c.args.names.now c.args.rules (view_form f)) c.in-Optional.is) c.in_err-family-in-Optional.ensures.refused)

pub returns-in_ok-family-in-Optional-clause-line : goal.returns-in_ok-family-in-Optional-clause-line
returns-in_ok-family-in-Optional-clause-line c =
    ap (λ f. line_at c.args.names.now c.args.rules (view_form f)) c.in-Optional.is
    ∙ (c.in_ok-family-in-Optional.ensures.family.read (λ k _. Optional k (length c.args.names.now)) ∙ ap (λ n. Ok (Optional c.in_ok-family-in-Optional.family.parent n)) (sym c.in_ok-family-in-Optional.ensures.family.first))

pub returns-in_err-family-in-Alternative-clause-line : goal.returns-in_err-family-in-Alternative-clause-line
returns-in_err-family-in-Alternative-clause-line c = let p = err_from_is_err_and c.from_residual-in_err-family-in-Alternative.result c.from_residual-in_err-family-in-Alternative.ensures.1 in no_value c.from_residual-in_err-family-in-Alternative.result p.0 _ p.1

pub returns-in_err-family-in-Alternative-clause-names : goal.returns-in_err-family-in-Alternative-clause-names
returns-in_err-family-in-Alternative-clause-names c = let p = err_from_is_err_and c.from_residual-in_err-family-in-Alternative.result c.from_residual-in_err-family-in-Alternative.ensures.1 in no_value c.from_residual-in_err-family-in-Alternative.result p.0 _ p.1

pub returns-in_err-family-in-Alternative-clause-refused : goal.returns-in_err-family-in-Alternative-clause-refused
returns-in_err-family-in-Alternative-clause-refused c =
    err_passed c.from_residual-in_err-family-in-Alternative.result c.in_err-family-in-Alternative.field-0.0 (IsFormError c.args.names.now c.args.rules (view_form c.args.form.now)) c.from_residual-in_err-family-in-Alternative.ensures.1
    (children_refused c.args.names.now c.args.rules (view_form c.args.form.now) c.in-Alternative.parent.now (texts c.deref.result.now) true Alternative c.in_err-family-in-Alternative.field-0.0 (ap (λ f. line_at c.args.names.now c.args.rules (view_form f)) c.in-Alternative.is ∙ ap (λ ms. children_at c.args.names.now (place_of_name c.args.names.now c.in-Alternative.parent.now) (texts ms) Alternative true) (sym c.deref.ensures.value)) c.in_err-family-in-Alternative.ensures.refused)

pub returns-in_ok-family-in-Alternative-clause-line : goal.returns-in_ok-family-in-Alternative-clause-line
returns-in_ok-family-in-Alternative-clause-line c = (ap (λ f. line_at c.args.names.now c.args.rules (view_form f)) c.in-Alternative.is ∙ ap (λ ms. children_at c.args.names.now (place_of_name c.args.names.now c.in-Alternative.parent.now) (texts ms) Alternative true) (sym c.deref.ensures.value)) ∙ c.in_ok-family-in-Alternative.ensures.family.read Alternative

pub returns-in_err-family-in-Or-clause-line : goal.returns-in_err-family-in-Or-clause-line
returns-in_err-family-in-Or-clause-line c = let p = err_from_is_err_and c.from_residual-in_err-family-in-Or.result c.from_residual-in_err-family-in-Or.ensures.1 in no_value c.from_residual-in_err-family-in-Or.result p.0 _ p.1

pub returns-in_err-family-in-Or-clause-names : goal.returns-in_err-family-in-Or-clause-names
returns-in_err-family-in-Or-clause-names c = let p = err_from_is_err_and c.from_residual-in_err-family-in-Or.result c.from_residual-in_err-family-in-Or.ensures.1 in no_value c.from_residual-in_err-family-in-Or.result p.0 _ p.1

pub returns-in_err-family-in-Or-clause-refused : goal.returns-in_err-family-in-Or-clause-refused
returns-in_err-family-in-Or-clause-refused c =
    err_passed c.from_residual-in_err-family-in-Or.result c.in_err-family-in-Or.field-0.0 (IsFormError c.args.names.now c.args.rules (view_form c.args.form.now)) c.from_residual-in_err-family-in-Or.ensures.1
    (children_refused c.args.names.now c.args.rules (view_form c.args.form.now) c.in-Or.parent.now (texts c.deref-in-Or.result.now) true Or c.in_err-family-in-Or.field-0.0 (ap (λ f. line_at c.args.names.now c.args.rules (view_form f)) c.in-Or.is ∙ ap (λ ms. children_at c.args.names.now (place_of_name c.args.names.now c.in-Or.parent.now) (texts ms) Or true) (sym c.deref-in-Or.ensures.value)) c.in_err-family-in-Or.ensures.refused)

pub returns-in_ok-family-in-Or-clause-line : goal.returns-in_ok-family-in-Or-clause-line
returns-in_ok-family-in-Or-clause-line c = (ap (λ f. line_at c.args.names.now c.args.rules (view_form f)) c.in-Or.is ∙ ap (λ ms. children_at c.args.names.now (place_of_name c.args.names.now c.in-Or.parent.now) (texts ms) Or true) (sym c.deref-in-Or.ensures.value)) ∙ c.in_ok-family-in-Or.ensures.family.read Or

pub returns-in_err-family-in-Group-clause-line : goal.returns-in_err-family-in-Group-clause-line
returns-in_err-family-in-Group-clause-line c = let p = err_from_is_err_and c.from_residual-in_err-family-in-Group.result c.from_residual-in_err-family-in-Group.ensures.1 in no_value c.from_residual-in_err-family-in-Group.result p.0 _ p.1

pub returns-in_err-family-in-Group-clause-names : goal.returns-in_err-family-in-Group-clause-names
returns-in_err-family-in-Group-clause-names c = let p = err_from_is_err_and c.from_residual-in_err-family-in-Group.result c.from_residual-in_err-family-in-Group.ensures.1 in no_value c.from_residual-in_err-family-in-Group.result p.0 _ p.1

pub returns-in_err-feature-in-Requires-clause-line : goal.returns-in_err-feature-in-Requires-clause-line
returns-in_err-feature-in-Requires-clause-line c = let p = err_from_is_err_and c.from_residual-in_err-feature-in-Requires.result c.from_residual-in_err-feature-in-Requires.ensures.1 in no_value c.from_residual-in_err-feature-in-Requires.result p.0 _ p.1

pub returns-in_err-feature-in-Requires-clause-names : goal.returns-in_err-feature-in-Requires-clause-names
returns-in_err-feature-in-Requires-clause-names c = let p = err_from_is_err_and c.from_residual-in_err-feature-in-Requires.result c.from_residual-in_err-feature-in-Requires.ensures.1 in no_value c.from_residual-in_err-feature-in-Requires.result p.0 _ p.1

pub returns-in_ok-feature-in-Requires-clause-line : goal.returns-in_ok-feature-in-Requires-clause-line
returns-in_ok-feature-in-Requires-clause-line c = ap (λ f. line_at c.args.names.now c.args.rules (view_form f)) c.in-Requires.is ∙ c.in_ok-feature-in-Requires.ensures.ok Requires

pub returns-in_err-feature-in-Excludes-clause-line : goal.returns-in_err-feature-in-Excludes-clause-line
returns-in_err-feature-in-Excludes-clause-line c = let p = err_from_is_err_and c.from_residual-in_err-feature-in-Excludes.result c.from_residual-in_err-feature-in-Excludes.ensures.1 in no_value c.from_residual-in_err-feature-in-Excludes.result p.0 _ p.1

pub returns-in_err-feature-in-Excludes-clause-names : goal.returns-in_err-feature-in-Excludes-clause-names
returns-in_err-feature-in-Excludes-clause-names c = let p = err_from_is_err_and c.from_residual-in_err-feature-in-Excludes.result c.from_residual-in_err-feature-in-Excludes.ensures.1 in no_value c.from_residual-in_err-feature-in-Excludes.result p.0 _ p.1

pub returns-in_ok-feature-in-Excludes-clause-line : goal.returns-in_ok-feature-in-Excludes-clause-line
returns-in_ok-feature-in-Excludes-clause-line c = ap (λ f. line_at c.args.names.now c.args.rules (view_form f)) c.in-Excludes.is ∙ c.in_ok-feature-in-Excludes.ensures.ok Excludes

pub returns-in_ok-family-in-Group-clause-line : goal.returns-in_ok-family-in-Group-clause-line
returns-in_ok-family-in-Group-clause-line c = grind (arith, common_steps)

pub overflow_cast-result : goal.overflow_cast-result
overflow_cast-result c = grind (arith, common_steps)

pub overflow_cast-result-in-Group : goal.overflow_cast-result-in-Group
overflow_cast-result-in-Group c = grind (arith, common_steps)

pub returns-in_err-family-in-Group-clause-refused : goal.returns-in_err-family-in-Group-clause-refused
returns-in_err-family-in-Group-clause-refused c = grind (arith, common_steps)

pub returns-in_ok-family-in-Group-clause-names : goal.returns-in_ok-family-in-Group-clause-names
returns-in_ok-family-in-Group-clause-names c = grind (arith, common_steps)

pub returns-in_ok-family-in-Or-clause-names : goal.returns-in_ok-family-in-Or-clause-names
returns-in_ok-family-in-Or-clause-names c = grind (arith, common_steps)

pub returns-in_ok-family-in-Alternative-clause-names : goal.returns-in_ok-family-in-Alternative-clause-names
returns-in_ok-family-in-Alternative-clause-names c = grind (arith, common_steps)

pub returns-in_ok-family-in-Optional-clause-names : goal.returns-in_ok-family-in-Optional-clause-names
returns-in_ok-family-in-Optional-clause-names c = grind (arith, common_steps)

pub returns-in_ok-feature-in-Excludes-clause-names : goal.returns-in_ok-feature-in-Excludes-clause-names
returns-in_ok-feature-in-Excludes-clause-names c = grind (arith, common_steps)

pub returns-in_ok-family-in-Mandatory-clause-names : goal.returns-in_ok-family-in-Mandatory-clause-names
returns-in_ok-family-in-Mandatory-clause-names c = grind (arith, common_steps)

pub returns-in_ok-feature-in-Requires-clause-names : goal.returns-in_ok-feature-in-Requires-clause-names
returns-in_ok-feature-in-Requires-clause-names c = grind (arith, common_steps)

pub returns-in_err-feature-in-Excludes-clause-refused : goal.returns-in_err-feature-in-Excludes-clause-refused
returns-in_err-feature-in-Excludes-clause-refused c = grind (arith, common_steps)

pub returns-in_err-feature-in-Requires-clause-refused : goal.returns-in_err-feature-in-Requires-clause-refused
returns-in_err-feature-in-Requires-clause-refused c = grind (arith, common_steps)
