use Rattle.std.proofs.Common.{refl, sym, subst}
use Rattle.vpg_written.specs.Openings.{IsNamed}
use Rattle.vpg_written.proofs.Cutting.{parts_are}
use Rattle.vpg_written.proofs.Tasks.{named_tree, opened_parts}
use Rattle.vpg_written.proofs.opening.find.Goals as goal

pub returns-in_ok-by_name-in-Named-clause-found : goal.returns-in_ok-by_name-in-Named-clause-found
returns-in_ok-by_name-in-Named-clause-found c = λ g t are l h bare. c.in_ok-by_name-in-Named.ensures.found g t are l (subst (IsNamed t) (sym c.as_bytes.ensures) (named_tree g t c.in-Some.it _ (parts_are g.names g.actions t c.args.term.now c.in-Some.it c.in-Some.ensures.some h) c.in-Named.is))

pub returns-in_default : goal.returns-in_default
returns-in_default c = record {
  found = λ g t are l h bare. (t, (parts_are g.names g.actions t c.args.term.now c.in-Some.it c.in-Some.ensures.some h), opened_parts g t c.in-Some.it (parts_are g.names g.actions t c.args.term.now c.in-Some.it c.in-Some.ensures.some h) bare c.in_default.not-Named, refl);
  earlier = tt;
  below = tt;
}
