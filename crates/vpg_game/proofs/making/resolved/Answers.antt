use Rattle.std.proofs.Common.{arith, List, ◌++◌, ◌∷◌, [], sym, ap, subst, ◌∙◌, append_assoc}
use Rattle.std.proofs.lemmas.Grind.{common_steps}
use Rattle.std.proofs.lemmas.Result.{err_from_is_err_and}
use Rattle.vpg_game.specs.Spelled.{SpelledEntry}
use Rattle.vpg_game.specs.Game.{AllHeld}
use Rattle.vpg_game.proofs.Build.{joining_fault, found_snoc, vertices_more}
use Rattle.vpg_game.proofs.making.resolved.Goals as goal

pub returns-in_err-edges-clause-err : goal.returns-in_err-edges-clause-err
returns-in_err-edges-clause-err c =
    let p = err_from_is_err_and c.from_residual.result c.from_residual.ensures.1 in
    let l = c.loop-entry in
    rw (p.1, p.2) (joining_fault c.args.ids.now.keys c.args.entries.items l.yielded c.next.new.self.rest.items c.in-Some.entry c.entry.inside.successors.items c.in_err-edges.field-0.0
    (ap (λ (xs : List SpelledEntry). l.yielded ++ xs) (sym c.in-Some.ensures.steps.0) ∙ l.invariant.3) l.invariant.1 (ap (λ (e : SpelledEntry). e.successors) c.entry.view_is) c.in_err-edges.ensures.err)

pub loop-entry-preserved : goal.loop-entry-preserved
loop-entry-preserved c =
    let l = c.loop-entry in
    let inside : SpelledEntry = record { id = c.entry.inside.id; priority = c.entry.inside.priority; owner = c.entry.inside.owner; successors = c.entry.inside.successors.items } in (
      vertices_more c.args.ids.now.keys l.yielded c.in-Some.entry inside l.vertices.items _ c.in_ok-edges.edges.items l.invariant.0 c.entry.view_is c.in_ok-edges.ensures.ok c.in-Ok-push.ensures.items,
      found_snoc c.args.ids.now.keys l.yielded c.in-Some.entry l.invariant.1 (subst (AllHeld c.args.ids.now.keys) (ap (λ (e : SpelledEntry). e.successors) c.entry.view_is) c.in_ok-edges.ensures.found),
      l.invariant.2,
      append_assoc l.yielded (c.in-Some.entry ∷ []) c.next.new.self.rest.items ∙ ap (λ (xs : List SpelledEntry). l.yielded ++ xs) (sym c.in-Some.ensures.steps.0) ∙ l.invariant.3,
    )

pub returns-clause-found : goal.returns-clause-found
returns-clause-found c = grind (arith, common_steps)

pub loop-entry-init : goal.loop-entry-init
loop-entry-init c = grind (arith, common_steps)

pub returns-clause-ok : goal.returns-clause-ok
returns-clause-ok c = grind (arith, common_steps)
