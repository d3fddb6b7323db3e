use Rattle.std.proofs.Common.{◌<◌, false, get_or, ◌∙◌, ap, sym, subst, arith}
use Rattle.std.proofs.lemmas.List.{get_or_default}
use Rattle.vpg_zielonka.specs.Words.{Listing, IsWordAmong}
use Rattle.vpg_zielonka.proofs.Columns.{column_word}
use Rattle.vpg_zielonka.proofs.listed.Listed.column.Goals as goal

pub returns : goal.returns
returns c = subst (λ (l : Listing). IsWordAmong l.products (λ p. get_or p c.args.feature false) c.index.result.now)
    c.self.view_is
    (column_word c.self.inside.features c.self.inside.count c.self.inside.all c.self.inside.columns.items
    c.self.invariant
    c.args.feature c.index.result.now
    (subst (λ n. c.args.feature < n) (sym (ap (λ (l : Listing). l.features) c.self.view_is)) c.requires)
    (c.index.ensures ∙ get_or_default c.self.inside.columns.items c.args.feature c.index.result.now 0
    (omega (arith, c.self.invariant.wide, c.requires, ap (λ (l : Listing). l.features) c.self.view_is))))
