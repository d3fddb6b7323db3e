use Rattle.std.proofs.Common.{◌<◌, ◌-◌, ◌∷◌, List, length, sym, subst, arith}
use Rattle.std.proofs.lemmas.Result.{err_from_is_err_and}
use Rattle.vpg_formula.specs.ReadCode.{texts}
use Rattle.vpg_formula.specs.Requirements.{Marked}
use Rattle.vpg_formula.specs.EntryCode.{entries_of, earlier_of, Goes}
use Rattle.vpg_formula.proofs.EntryCode.{goes_fails, goes_more, item_stops, entries_added, entries_count}
use Rattle.vpg_formula.specs.FaultCode.{AreReadTo}
use Rattle.vpg_formula.proofs.Faults.{head_at, item_at, read_more}
use Rattle.vpg_formula.proofs.requirement.add_entry.Goals as goal

pub returns-in_err-item-clause-none : goal.returns-in_err-item-clause-none
returns-in_err-item-clause-none c all g =
    let p = err_from_is_err_and c.from_residual-in_err-item.result c.from_residual-in_err-item.ensures.1 in
    let es = c.args.items.now.entries.items in
    let name = c.args.name.now in
    let words = texts c.args.words.now in
    let head = rw c.deref.ensures.value at c.in_ok-formula.ensures.head in
    let none = rw c.deref-2.ensures.value at c.in_err-item.ensures.none in
    rw (p.1, p.2) (goes_fails c.in_err-item.field-0.0 c.args.items.now.negated (entries_of es) all (name ∷ words) g
    (item_stops c.in_err-item.field-0.0 (64 - length (entries_of es)) (earlier_of es) name words (texts c.in_ok-formula.formula.now) head none))

pub returns-clause-goes : goal.returns-clause-goes
returns-clause-goes c all g =
    let es = c.args.items.now.entries.items in
    let name = c.args.name.now in
    let words = texts c.args.words.now in
    let item = c.in_ok-item.item in
    let head = rw c.deref.ensures.value at c.in_ok-formula.ensures.head in
    let small = rw c.deref.ensures.value at c.in_ok-formula.ensures.few in
    let few : length (entries_of es) < 64 = omega (arith, small, entries_count es) in
    let made = rw c.deref-2.ensures.value at c.in_ok-item.ensures.item in
    rw c.in-Ok.ensures.items (subst (λ (ms : List Marked). Goes c.first_place-items.result ms all (texts c.in_ok-item.rest.now)) (sym (entries_added es item.entry))
    (goes_more c.args.items.now.negated item.negated c.first_place-items.result (entries_of es) (item.entry.name, item.entry.formula.marks.items) name all words (texts c.in_ok-formula.formula.now) (texts c.in_ok-item.rest.now) g few head made c.first_place-items.ensures.some))

pub returns-in_err-formula-clause-at : goal.returns-in_err-formula-clause-at
returns-in_err-formula-clause-at c all first r =
    let p = err_from_is_err_and c.from_residual.result c.from_residual.ensures.1 in
    let es = c.args.items.now.entries.items in
    let at = rw c.deref.ensures.value at c.in_err-formula.ensures.at in
    rw (p.1, p.2) (head_at c.args.items.now.negated (entries_of es) (length es) c.args.name.now all (texts c.args.words.now) c.in_err-formula.field-0.0 first r (sym (entries_count es)) at)

pub returns-in_err-item-clause-at : goal.returns-in_err-item-clause-at
returns-in_err-item-clause-at c all first r =
    let p = err_from_is_err_and c.from_residual-in_err-item.result c.from_residual-in_err-item.ensures.1 in
    let es = c.args.items.now.entries.items in
    let head = rw c.deref.ensures.value at c.in_ok-formula.ensures.head in
    let small = rw c.deref.ensures.value at c.in_ok-formula.ensures.few in
    let few : length (entries_of es) < 64 = omega (arith, small, entries_count es) in
    let at = rw c.deref-2.ensures.value at c.in_err-item.ensures.at in
    rw (p.1, p.2) (item_at c.args.items.now.negated (entries_of es) c.args.name.now all (texts c.args.words.now) (texts c.in_ok-formula.formula.now) c.in_err-item.field-0.0 r few head at)

pub returns-clause-read : goal.returns-clause-read
returns-clause-read c all r =
    let es = c.args.items.now.entries.items in
    let name = c.args.name.now in
    let words = texts c.args.words.now in
    let item = c.in_ok-item.item in
    let head = rw c.deref.ensures.value at c.in_ok-formula.ensures.head in
    let small = rw c.deref.ensures.value at c.in_ok-formula.ensures.few in
    let few : length (entries_of es) < 64 = omega (arith, small, entries_count es) in
    let made = rw c.deref-2.ensures.value at c.in_ok-item.ensures.item in
    let place = rw c.deref-2.ensures.value at c.in_ok-item.ensures.negated in
    rw c.in-Ok.ensures.items (subst (λ (ms : List Marked). AreReadTo c.first_place-items.result ms all (texts c.in_ok-item.rest.now)) (sym (entries_added es item.entry))
    (read_more c.args.items.now.negated item.negated c.first_place-items.result (entries_of es) (item.entry.name, item.entry.formula.marks.items) name all words (texts c.in_ok-formula.formula.now) (texts c.in_ok-item.rest.now) r few head made place c.first_place-items.ensures.first))
