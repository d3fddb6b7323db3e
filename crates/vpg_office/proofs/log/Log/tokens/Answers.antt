use Rattle.std.proofs.Common.{List, ap, ◌∙◌}
use Rattle.vpg_desk.specs.Book.{Book, opened}
use Rattle.vpg_desk.specs.History.{Event, book_after}
use Rattle.vpg_office.specs.Fronts.{family_between}
use Rattle.vpg_office.proofs.log.Log.tokens.Goals as goal

pub returns : goal.returns
returns g c =
    let F = family_between g.L.Terms.game g.L.Terms.diagram in
    c.tokens.ensures ∙ (λ k. (c.desk.ensures k).book.tokens) ∙ ap (λ (b : Book). b.tokens) c.self.invariant.replay.book ∙ ap (λ (l : List Event). (book_after F opened l).tokens) c.self.view_is
