use Rattle.std.proofs.lemmas.List.Folds.{list_all-map}
use Rattle.vpg_winners.specs.Joined.{PartView}
use Rattle.vpg_winners.specs.Winners.{view_of}
use Rattle.vpg_looks.specs.Texts.{is_lost, is_told, is_won}
use Rattle.vpg_looks.proofs.Parting.{counted}
use Rattle.vpg_looks.proofs.winners.totals.Goals as goal

pub returns : goal.returns
returns c =
    let parts = c.args.parts.now in
    rw (counted (λ p. is_won p.winner) parts, counted (λ p. is_lost p.winner) parts, list_all-map (λ (p : PartView). is_told p.winner) view_of parts)
    (rw (c.count_won.ensures, c.count_lost.ensures, c.are_told-told.ensures) at c.total.ensures)
