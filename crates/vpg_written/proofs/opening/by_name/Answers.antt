use Rattle.std.proofs.Common.{ℕ, Option, sym, subst, ◌∙◌, ap}
use Rattle.vpg_written.specs.Trees.{form_named, before}
use Rattle.vpg_written.specs.Openings.{IsFound}
use Rattle.vpg_written.proofs.Lookups.{form_of_name}
use Rattle.vpg_written.proofs.opening.by_name.Goals as goal

pub returns-in-None-clause-found : goal.returns-in-None-clause-found
returns-in-None-clause-found c = λ g t are l named. subst (IsFound g c.args.is_negated c.args.earlier c.args.scope.now c.by_entry.result)
    (sym (form_of_name g c.args.terms.now are c.args.earlier c.args.is_negated c.args.scope.now t c.args.name.now named ∙ ap (λ (o : Option ℕ). form_named o (before g.names g.entries c.args.earlier c.args.name.now c.args.is_negated)) (sym c.in-None.ensures)))
    (c.by_entry.ensures.found g c.args.scope.now are l)
