use Rattle.std.proofs.Common.{◌∙◌, List, ℕ, subst}
use Rattle.std.proofs.lemmas.Result.{IfErr-weaker}
use Rattle.vpg_journal.specs.Head.{IsRefused}
use Rattle.vpg_journal.proofs.opening.open.Goals as goal

pub returns-then-not-is_blank-clause-refused : goal.returns-then-not-is_blank-clause-refused
returns-then-not-is_blank-clause-refused g c =
    IfErr-weaker c.read_book.result _ _
    (λ fault was clean. subst (λ (f : List ℕ). IsRefused f c.args.family.now fault) (c.deref-then-not-is_blank.ensures.value ∙ c.in-Ok.ensures.bytes clean ∙ c.sync.ensures.seen) was)
    c.read_book.ensures.refused

pub returns-in-Err-read_all-clause-refused : goal.returns-in-Err-read_all-clause-refused
returns-in-Err-read_all-clause-refused g c clean =
    c.in-Err-read_all.ensures.refused (g.D.Disk.seen c.args.disk.now) c.args.family.now
