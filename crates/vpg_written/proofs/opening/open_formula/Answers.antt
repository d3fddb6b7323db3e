use Rattle.std.proofs.Common.{List, sym, subst, ◌∙◌}
use Rattle.vpg_written.proofs.Tasks.{form_bare}
use Rattle.vpg_written.specs.Naming.{around_of}
use Rattle.vpg_written.specs.Tasks.{IsOpening, form_at}
use Rattle.vpg_written.specs.Openings.{IsFound}
use Rattle.vpg_written.specs.declared.task.Binder.{Binder}
use Rattle.vpg_written.specs.declared.task.Found.{Found}
use Rattle.vpg_written.proofs.opening.open_formula.Goals as goal

pub entries-init : goal.entries-init
entries-init c = λ g f terms place. place

pub returns-in-Opening : goal.returns-in-Opening
returns-in-Opening c = λ g f terms place.
    let p = c.entries.invariant g f terms place in
    let inner = c.without_negations-sign.result.0.now in
    let sign = c.without_negations-sign.result.1 in
    let n = c.entries.earlier in
    let b = c.without_negations-sign.ensures g p.tree p.term in
    let e = form_bare g c.entries.term.now inner c.entries.is_negated sign n c.entries.scope.items f p b in
    let x = subst (λ (bs : List Binder). IsFound g sign n bs c.in_ok-opening.field-0 (form_at g n sign (around_of bs) b.same.tree)) c.as_slice.ensures.value (c.in_ok-opening.ensures.found g b.same.tree terms p.known b.same.term b.bare) in
    let y = subst (λ (it : Found). IsFound g sign n c.entries.scope.items it (form_at g n sign (around_of c.entries.scope.items) b.same.tree)) c.in-Opening.is x in
    subst (IsOpening g c.in-Opening.opening) (sym e) y

pub returns-in-Parts : goal.returns-in-Parts
returns-in-Parts c = λ g f terms place.
    let p = c.entries.invariant g f terms place in
    let inner = c.without_negations-sign.result.0.now in
    let sign = c.without_negations-sign.result.1 in
    let n = c.entries.earlier in
    let b = c.without_negations-sign.ensures g p.tree p.term in
    let e = form_bare g c.entries.term.now inner c.entries.is_negated sign n c.entries.scope.items f p b in
    let x = subst (λ (bs : List Binder). IsFound g sign n bs c.in_ok-opening.field-0 (form_at g n sign (around_of bs) b.same.tree)) c.as_slice.ensures.value (c.in_ok-opening.ensures.found g b.same.tree terms p.known b.same.term b.bare) in
    let y = subst (λ (it : Found). IsFound g sign n c.entries.scope.items it (form_at g n sign (around_of c.entries.scope.items) b.same.tree)) c.in-Parts.is x in
    subst (IsOpening g c.in_ok-by_mark-in-Parts.field-0) (sym (e ∙ y.3)) (c.in_ok-by_mark-in-Parts.ensures g y.0 y.1 y.2 p.known)
