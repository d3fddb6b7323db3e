use Rattle.std.proofs.Common.{◌≡◌, ◌≢◌, ◌∙◌, ◌+◌, ◌-◌, inl, inr, ◌∷◌, List, ℕ, length, get_or, ap, refl, arith}
use Rattle.std.proofs.lemmas.Bool.Decides.{nat_tests}
use Rattle.std.proofs.lemmas.List.{get_or_read}
use Rattle.vpg_journal.specs.Frames.{records_of, texts}
use Rattle.vpg_journal.proofs.Framing.{first_records}
use Rattle.vpg_journal.proofs.Reading.{book_records, book_at_rest, cut_short, other_refused}
use Rattle.vpg_journal.proofs.opening.read_book.Goals as goal

pub returns-in-Some-refusal-clause-refused : goal.returns-in-Some-refusal-clause-refused
returns-in-Some-refusal-clause-refused c =
    let text = c.in-Some.text.now in
    let rest = c.in-Some.rest.now in
    other_refused c.args.bytes.now text c.args.family.now (records_of rest) c.in-Some-refusal.fault c.requires
    (ap records_of c.in-Some.ensures.some.whole ∙ first_records text rest) c.in-Some-refusal.ensures

pub returns-in_default-get-clause-refused : goal.returns-in_default-get-clause-refused
returns-in_default-get-clause-refused c =
    let bytes = c.args.bytes.now in
    let text = c.in-Some.text.now in
    let rest = c.in-Some.rest.now in
    let records = texts c.in-Ok.behind.records.items in
    let place = c.in-Ok.behind.gate in (
      (records, book_records bytes text rest records place c.in-Some.ensures.some c.in-Ok.ensures ∙ ap (λ (t : List ℕ). t ∷ records) c.in_default-refusal.ensures),
      cut_short bytes text rest records place c.in-Some.ensures.some c.in-Ok.ensures (length bytes - length rest + place) refl (inl c.in_default-get.ensures.lookup.3),
    )

pub returns-then-byte-eq1-clause-refused : goal.returns-then-byte-eq1-clause-refused
returns-then-byte-eq1-clause-refused c =
    let bytes = c.args.bytes.now in
    let text = c.in-Some.text.now in
    let rest = c.in-Some.rest.now in
    let records = texts c.in-Ok.behind.records.items in
    let place = c.in-Ok.behind.gate in
    let gate = length bytes - length rest + place in
    let byte_is : c.in-Some-get.byte.now ≡ get_or bytes gate 0 = get_or_read bytes gate c.in-Some-get.byte.now c.in-Some-get.ensures.lookup.3.0 c.in-Some-get.ensures.lookup.1 0 in
    let one : get_or bytes gate 0 ≡ 1 = grind (arith, nat_tests, byte_is) in (
      (records, book_records bytes text rest records place c.in-Some.ensures.some c.in-Ok.ensures ∙ ap (λ (t : List ℕ). t ∷ records) c.in_default-refusal.ensures),
      cut_short bytes text rest records place c.in-Some.ensures.some c.in-Ok.ensures gate refl (inr one),
    )

pub returns-clause-found : goal.returns-clause-found
returns-clause-found c =
    let bytes = c.args.bytes.now in
    let text = c.in-Some.text.now in
    let rest = c.in-Some.rest.now in
    let records = texts c.in-Ok.behind.records.items in
    book_records bytes text rest records c.in-Ok.behind.gate c.in-Some.ensures.some c.in-Ok.ensures ∙ ap (λ (t : List ℕ). t ∷ records) c.in_default-refusal.ensures

pub returns-clause-at_rest : goal.returns-clause-at_rest
returns-clause-at_rest c =
    let bytes = c.args.bytes.now in
    let text = c.in-Some.text.now in
    let rest = c.in-Some.rest.now in
    let records = texts c.in-Ok.behind.records.items in
    let place = c.in-Ok.behind.gate in
    let gate = length bytes - length rest + place in
    let byte_is : c.in-Some-get.byte.now ≡ get_or bytes gate 0 = get_or_read bytes gate c.in-Some-get.byte.now c.in-Some-get.ensures.lookup.3.0 c.in-Some-get.ensures.lookup.1 0 in
    let shut : get_or bytes gate 0 ≢ 1 = grind (arith, nat_tests, byte_is) in
    book_at_rest bytes text rest records place c.in-Some.ensures.some c.in-Ok.ensures gate refl c.in-Some-get.ensures.lookup.3.0 shut
