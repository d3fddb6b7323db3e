use Rattle.std.proofs.Common.{refl, sym}
use Rattle.vpg_desk.specs.Headline.{VerdictMeans}
use Rattle.vpg_desk.specs.State.{setting_between}
use Rattle.vpg_office.proofs.Calling.{last_leaves}
use Rattle.vpg_office.proofs.looks.VerdictCallCall.carry_out.Goals as goal

pub returns-clause-gives : goal.returns-clause-gives
returns-clause-gives g c = λ front last.
    let of = c.requires.of in
    let is = c.verdict-verdict.ensures in
    let here = coe 0 1 (k. VerdictMeans (setting_between (of.0 k) (of.1 k)) c.args.desk.now.book.present c.args.self.vertex c.verdict-verdict.result.hopeless c.verdict-verdict.result.sure)
    (record { lost = is.lost; won = is.won; not_both = is.not_both }) in
    coe 0 1 (k. VerdictMeans (setting_between g.L.Terms.game g.L.Terms.diagram) ((sym (last_leaves last refl)) k).present c.args.self.vertex c.verdict-verdict.result.hopeless c.verdict-verdict.result.sure) here
