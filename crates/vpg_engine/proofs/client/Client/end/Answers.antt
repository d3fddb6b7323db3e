use Rattle.std.proofs.Common.{◌≡◌, ◌+◌, List, length, refl, ap, ◌∙◌, subst, inl, inr, arith}
use Rattle.vpg_desk.specs.Book.{opened}
use Rattle.vpg_desk.specs.History.{Event, book_after}
use Rattle.vpg_office.specs.Fronts.{family_between}
use Rattle.vpg_office.specs.Kept.{IsElsewhere}
use Rattle.vpg_engine.specs.Client.{ClientState, HasUnknownCall}
use Rattle.vpg_engine.proofs.Fronts.{more_front, same_front}
use Rattle.vpg_engine.proofs.client.Client.end.Goals as goal

pub returns-clause-ended : goal.returns-clause-ended
returns-clause-ended g c =
    let F = family_between g.L.Terms.game g.L.Terms.diagram in
    let lengths : length c.unshare-office.result ≡ length c.self.inside.front = omega (arith, ap length c.log-log.ensures.whole, c.len.ensures.length, c.len-2.ensures.length, c.if-len.false) in
    let same = same_front c.self.inside.front c.unshare-office.result (c.has.ensures.begins c.if-not-has.false) lengths in
    ap (λ n. n + length c.args.undos.items + length c.args.redos.items) c.further.ensures ∙ c.end-ended.ensures.further ∙ ap (λ (l : List Event). (book_after F opened l).tokens) same ∙ ap (λ (s : ClientState). s.desk.book.tokens) c.self.view_is

pub returns-then-not-has-clause-others : goal.returns-then-not-has-clause-others
returns-then-not-has-clause-others g c =
    let F = family_between g.L.Terms.game g.L.Terms.diagram in
    subst (λ (s : ClientState). HasUnknownCall (IsElsewhere g.L.Terms.shelves F) s c.unshare-office.result) c.self.view_is
    (inr (c.self.inside.front, (record { counted = refl; leaves = refl }, c.has.ensures.lacks c.if-not-has.true)))

pub returns-then-len-clause-others : goal.returns-then-len-clause-others
returns-then-len-clause-others g c =
    let F = family_between g.L.Terms.game g.L.Terms.diagram in
    subst (λ (s : ClientState). HasUnknownCall (IsElsewhere g.L.Terms.shelves F) s c.unshare-office.result) c.self.view_is
    (inl (more_front c.self.inside.front c.unshare-office.result (c.has.ensures.begins c.if-not-has.false) (λ same. c.if-len.true (omega (arith, ap length c.log-log.ensures.whole, c.len.ensures.length, c.len-2.ensures.length, same)))))
