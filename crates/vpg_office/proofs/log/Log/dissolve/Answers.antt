use Rattle.std.proofs.Common.{List, sym, ap, ◌∙◌}
use Rattle.vpg_desk.specs.Book.{Book, opened}
use Rattle.vpg_desk.specs.History.{Event, book_after}
use Rattle.vpg_desk.specs.State.{DeskState}
use Rattle.vpg_office.specs.Fronts.{family_between}
use Rattle.vpg_office.proofs.log.Log.dissolve.Goals as goal

pub returns : goal.returns
returns g c =
    let F = family_between g.L.Terms.game g.L.Terms.diagram in
    c.self.invariant.counted ∙ ap (λ (b : Book). b.tokens) c.self.invariant.replay.book ∙ ap (λ (l : List Event). (book_after F opened l).tokens) c.self.view_is

pub invariant_of-result : goal.invariant_of-result
invariant_of-result g c = c.self.invariant.counted ∙ ap (λ (s : DeskState). s.book.tokens) (sym c.into_desk.ensures)
