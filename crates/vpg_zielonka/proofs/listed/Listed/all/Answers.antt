use Rattle.std.proofs.Common.{true, subst}
use Rattle.vpg_zielonka.specs.Words.{Listing, IsWordAmong, rows}
use Rattle.vpg_zielonka.proofs.Places.{word_all}
use Rattle.vpg_zielonka.proofs.Columns.{rows_whole}
use Rattle.vpg_zielonka.proofs.listed.Listed.all.Goals as goal

pub returns : goal.returns
returns c = subst (λ (l : Listing). IsWordAmong l.products (λ p. true) c.self.inside.all) c.self.view_is
    (word_all (rows c.self.inside.columns.items c.self.inside.count) c.self.inside.all
    (rows_whole c.self.inside.features c.self.inside.count c.self.inside.all c.self.inside.columns.items
    c.self.invariant))
