use Rattle.std.proofs.Common.{◌≡◌, ◌++◌, List, ◌∙◌, ap}
use Rattle.std.proofs.lemmas.Result.{err_from_is_err_and}
use Rattle.vpg_formula.specs.ReadCode.{texts}
use Rattle.vpg_formula.specs.Marks.{phrase_marks}
use Rattle.vpg_formula.specs.EntryCode.{earlier_of}
use Rattle.vpg_formula.specs.declared.mark.Mark.{Mark}
use Rattle.vpg_formula.proofs.EntryCode.{body_read, body_unknown}
use Rattle.vpg_formula.proofs.NamingCode.{body_negated, body_unknown_at}
use Rattle.vpg_formula.proofs.requirement.read_body.Goals as goal

pub returns-in_err-negated-in-Ok-clause-none : goal.returns-in_err-negated-in-Ok-clause-none
returns-in_err-negated-in-Ok-clause-none c =
    let p = err_from_is_err_and c.from_residual.result c.from_residual.ensures.1 in
    let gives = c.in-Ok.ensures.gives in
    let put : c.formula.new.out.items ≡ phrase_marks gives.item = gives.put ∙ ap (λ (ms : List Mark). ms ++ phrase_marks gives.item) c.new-marks.ensures.items in
    rw (p.1, p.2) (body_unknown c.in_err-negated-in-Ok.field-0.0 (earlier_of c.args.entries.now) (texts c.args.words.now) (texts c.in-Ok.rest.now) gives.item c.deref.result.now gives.is (c.deref.ensures.value ∙ put) c.in_err-negated-in-Ok.ensures.checked)

pub returns-in-Ok-clause-body : goal.returns-in-Ok-clause-body
returns-in-Ok-clause-body c =
    let gives = c.in-Ok.ensures.gives in
    let put : c.formula.new.out.items ≡ phrase_marks gives.item = gives.put ∙ ap (λ (ms : List Mark). ms ++ phrase_marks gives.item) c.new-marks.ensures.items in
    let k = rw c.deref.ensures.value at c.in_ok-negated-in-Ok.ensures.checked in
    body_read (earlier_of c.args.entries.now) (texts c.args.words.now) (texts c.in-Ok.rest.now) gives.item c.formula.new.out.items c.in_ok-negated-in-Ok.negated gives.is put k.0 k.1

pub returns-in_err-negated-in-Ok-clause-at : goal.returns-in_err-negated-in-Ok-clause-at
returns-in_err-negated-in-Ok-clause-at c =
    let p = err_from_is_err_and c.from_residual.result c.from_residual.ensures.1 in
    let gives = c.in-Ok.ensures.gives in
    let put : c.formula.new.out.items ≡ phrase_marks gives.item = gives.put ∙ ap (λ (ms : List Mark). ms ++ phrase_marks gives.item) c.new-marks.ensures.items in
    let at = rw c.deref.ensures.value at c.in_err-negated-in-Ok.ensures.at in
    rw (p.1, p.2) (body_unknown_at (earlier_of c.args.entries.now) (texts c.args.words.now) c.in-Ok.rest.now gives.item c.formula.new.out.items gives.is put c.in_err-negated-in-Ok.field-0.0 at)

pub returns-in-Ok-clause-negated : goal.returns-in-Ok-clause-negated
returns-in-Ok-clause-negated c =
    let gives = c.in-Ok.ensures.gives in
    let put : c.formula.new.out.items ≡ phrase_marks gives.item = gives.put ∙ ap (λ (ms : List Mark). ms ++ phrase_marks gives.item) c.new-marks.ensures.items in
    let at = rw c.deref.ensures.value at c.in_ok-negated-in-Ok.ensures.at in
    body_negated (earlier_of c.args.entries.now) (texts c.args.words.now) c.in-Ok.rest.now gives.item c.formula.new.out.items gives.is put c.in_ok-negated-in-Ok.negated at
