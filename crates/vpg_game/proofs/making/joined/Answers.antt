use Rattle.std.proofs.Common.{arith, List, ◌++◌, ◌∷◌, [], sym, ap, ◌∙◌, append_assoc}
use Rattle.std.proofs.lemmas.Grind.{common_steps}
use Rattle.vpg_game.specs.Spelled.{SpelledSuccessor}
use Rattle.vpg_game.proofs.Build.{first_not_held, one_more_edge, one_more_held}
use Rattle.vpg_game.proofs.making.joined.Goals as goal

pub returns-in_default-get_index_of-clause-err : goal.returns-in_default-get_index_of-clause-err
returns-in_default-get_index_of-clause-err c =
    let l = c.loop-successor in
    first_not_held c.args.ids.now.keys c.args.successors.items l.yielded c.next.new.self.rest.items c.in-Some.successor c.successor.inside.id
    (ap (λ (xs : List SpelledSuccessor). l.yielded ++ xs) (sym c.in-Some.ensures.steps.0) ∙ l.invariant.3) (ap (λ (s : SpelledSuccessor). s.id) c.successor.view_is) l.invariant.1 (sym c.in_default-get_index_of.ensures.found)

pub loop-successor-preserved : goal.loop-successor-preserved
loop-successor-preserved c =
    let l = c.loop-successor in
    let id = ap (λ (s : SpelledSuccessor). s.id) c.successor.view_is in
    let guard = ap (λ (s : SpelledSuccessor). s.guard) c.successor.view_is in (
      one_more_edge c.args.ids.now.keys l.yielded c.in-Some.successor l.edges.items _ c.successor.inside.id c.in-Some-get_index_of.to _ l.invariant.0 id guard c.in-Some-get_index_of.ensures.index c.in-Ok-join_edge.ensures.edges,
      one_more_held c.args.ids.now.keys l.yielded c.in-Some.successor c.successor.inside.id l.invariant.1 id (sym c.in-Some-get_index_of.ensures.found),
      c.in-Ok-join_edge.ensures.places,
      append_assoc l.yielded (c.in-Some.successor ∷ []) c.next.new.self.rest.items ∙ ap (λ (xs : List SpelledSuccessor). l.yielded ++ xs) (sym c.in-Some.ensures.steps.0) ∙ l.invariant.3,
    )

pub returns-clause-ok : goal.returns-clause-ok
returns-clause-ok c = grind (arith, common_steps)

pub returns-clause-found : goal.returns-clause-found
returns-clause-found c = grind (arith, common_steps)

pub join_edge-requires-clause-places : goal.join_edge-requires-clause-places
join_edge-requires-clause-places c = grind (arith, common_steps)

pub loop-successor-init : goal.loop-successor-init
loop-successor-init c = grind (arith, common_steps)
