use Rattle.std.proofs.Common.{arith, ◌+◌, ◌++◌, ◌∷◌, [], ℕ, List, map, take, sym, ap, ap₂, ◌∙◌}
use Rattle.std.proofs.lemmas.Grind.{common_steps}
use Rattle.std.proofs.lemmas.List.{map-append}
use Rattle.vpg_game.specs.Spelled.{SpelledEntry}
use Rattle.vpg_game.specs.Game.{entry_priorities}
use Rattle.vpg_game.proofs.Made.{priority_at}
use Rattle.vpg_game.proofs.making.priorities.Goals as goal

pub loop-entry-preserved : goal.loop-entry-preserved
loop-entry-preserved c =
    let l = c.loop-entry in
    let ps : List ℕ = take l.entry-index (entry_priorities c.args.entries.now) in
    let same = ap (λ (e : SpelledEntry). e.priority) c.entry.view_is in
    let more = priority_at c.args.entries.now l.entry-index c.entry-item.result c.loop-entry-test.true c.entry-item.is in (
      c.in_ok-push.ensures.items ∙ ap₂ (λ (qs : List ℕ) (p : ℕ). qs ++ p ∷ []) l.invariant.0 same ∙ sym more,
      c.in_ok-push-2.ensures.items ∙ ap₂ (λ (qs : List ℕ) (p : ℕ). qs ++ (p + 1) ∷ []) l.invariant.1 same ∙ sym (map-append (λ q. q + 1) ps (c.entry-item.result.priority ∷ [])) ∙ sym (ap (map (λ q. q + 1)) more),
    )

pub returns-clause-own : goal.returns-clause-own
returns-clause-own c = grind (arith, common_steps)

pub returns-clause-dual : goal.returns-clause-dual
returns-clause-dual c = grind (arith, common_steps)

pub overflow_add-entry-inside : goal.overflow_add-entry-inside
overflow_add-entry-inside c = grind (arith, common_steps)
