use Rattle.std.proofs.Common.{sym, ◌∙◌, ap, arith}
use Rattle.vpg_written.proofs.Lookups.{named_is, latest_form}
use Rattle.vpg_written.proofs.opening.by_entry.Goals as goal

pub returns-in-Some-clause-found : goal.returns-in-Some-clause-found
returns-in-Some-clause-found c = λ g bs are l. named_is g c.args.terms.now are c.args.earlier c.args.name.now c.args.is_negated (omega (arith, l, are.count)) ∙ ap (latest_form g c.args.terms.now are c.args.is_negated) (sym (c.in-Some.ensures.found (omega (arith, l, are.count))))

pub returns-in-None-clause-found : goal.returns-in-None-clause-found
returns-in-None-clause-found c = λ g bs are l. named_is g c.args.terms.now are c.args.earlier c.args.name.now c.args.is_negated (omega (arith, l, are.count)) ∙ ap (latest_form g c.args.terms.now are c.args.is_negated) (sym (c.in-None.ensures.found (omega (arith, l, are.count))))
