use Rattle.std.proofs.Common.{None, refl, ap}
use Rattle.std.proofs.lemmas.Result.{err_from_is_err_and}
use Rattle.vpg_formula.specs.ReadCode.{texts}
use Rattle.vpg_formula.specs.EntryCode.{words_in, entries_of}
use Rattle.vpg_formula.proofs.EntryCode.{goes_first, goes_last}
use Rattle.vpg_formula.proofs.Faults.{read_first}
use Rattle.vpg_formula.proofs.requirement.several.Goals as goal

pub returns-clause-items : goal.returns-clause-items
returns-clause-items c =
    goes_last c.loop-next.items.negated (entries_of c.loop-next.items.entries.items) (texts c.args.words.now) (words_in c.loop-next.next) c.loop-next.invariant.goes (ap words_in c.in_default.is)

pub loop-next-init : goal.loop-next-init
loop-next-init c =
    let made = ap entries_of c.new.ensures.items in
    rw c.split_first-next.ensures.words (record {
      goes = goes_first None (entries_of c.new.result.items) (texts c.args.words.now) refl made;
      read = read_first None (entries_of c.new.result.items) (texts c.args.words.now) refl made;
    })

pub returns-in_err-rest-clause-at : goal.returns-in_err-rest-clause-at
returns-in_err-rest-clause-at c =
    let p = err_from_is_err_and c.from_residual.result c.from_residual.ensures.1 in
    rw (p.1, p.2) (c.in_err-rest.ensures.at (texts c.args.words.now) c.requires (rw c.in-Some.is at c.loop-next.invariant.read))

pub returns-clause-negated : goal.returns-clause-negated
returns-clause-negated c = c.loop-next.invariant.read.place
