use Rattle.std.proofs.Common.{◌≡◌, ◌∙◌, sym, ap, List, ℕ, length, take, arith, rules, subst₂}
use Rattle.std.proofs.lemmas.List.{take_all}
use Rattle.vpg_places.specs.Places.{line_of, column_of, IsWithin}
use Rattle.vpg_places.proofs.Columns.{place_within}
use Rattle.vpg_places.proofs.place.place_of.Goals as goal

pub returns-clause-within : goal.returns-clause-within
returns-clause-within c =
    let all = take_all c.loop-b.b-index (take c.args.at c.args.text.now) c.loop-b-test.false in
    subst₂ (λ (line column : ℕ). IsWithin c.args.text.now line column)
    (sym (c.loop-b.invariant.line ∙ ap line_of all))
    (sym (c.loop-b.invariant.column ∙ ap column_of all))
    (place_within c.args.text.now c.args.at)
