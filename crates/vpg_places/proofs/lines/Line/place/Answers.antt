use Rattle.std.proofs.Common.{◌≡◌, sym, subst, List, ℕ, length, take}
use Rattle.vpg_places.specs.Places.{column_of, IsColumnOf}
use Rattle.vpg_places.proofs.Columns.{column_inside}
use Rattle.vpg_places.proofs.lines.Line.place.Goals as goal

pub returns-clause-within : goal.returns-clause-within
returns-clause-within c =
    subst (λ (column : ℕ). IsColumnOf c.args.self.now.bytes.now column) (sym c.place_of.ensures.column)
    (column_inside c.args.self.now.bytes.now c.min-at.result)
