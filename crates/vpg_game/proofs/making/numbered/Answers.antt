use Rattle.std.proofs.Common.{arith, ℕ, List, Some, sym, ap, subst, ◌∙◌}
use Rattle.std.proofs.lemmas.Grind.{common_steps}
use Rattle.vpg_game.specs.Spelled.{SpelledEntry}
use Rattle.vpg_game.specs.Game.{AreDistinct, Holds}
use Rattle.vpg_game.proofs.Build.{not_false, not_true, any_held, id_got, keys_more, keys_new}
use Rattle.vpg_game.proofs.making.numbered.Goals as goal

pub returns-in-Ok-false-clause-err : goal.returns-in-Ok-false-clause-err
returns-in-Ok-false-clause-err c =
    let l = c.loop-entry in
    let id = c.entry.inside.id in
    let any = not_false _ (sym c.in-Ok-false.ensures.added ∙ c.in-Ok-false.field-0-test) in
    let same = ap (λ (e : SpelledEntry). e.id) c.entry.view_is in (
      l.entry-index,
      subst AreDistinct l.invariant.0 l.invariant.1,
      id_got c.args.entries.now l.entry-index c.entry-item.result c.loop-entry-test.true c.entry-item.is ∙ ap (λ (n : ℕ). Some n) (sym same),
      subst (λ (ks : List ℕ). Holds ks id) l.invariant.0 (any_held id l.ids.keys any),
    )

pub loop-entry-preserved : goal.loop-entry-preserved
loop-entry-preserved c =
    let l = c.loop-entry in
    let none = not_true _ (sym c.in-Ok-true.ensures.added ∙ c.in-Ok-true.field-0-test) in
    let same = ap (λ (e : SpelledEntry). e.id) c.entry.view_is in (
      keys_more c.args.entries.now l.entry-index c.entry.inside.id c.entry-item.result l.ids.keys _ l.invariant.0 c.loop-entry-test.true c.entry-item.is same none c.in-Ok-true.ensures.keys,
      keys_new c.entry.inside.id l.ids.keys _ l.invariant.1 none c.in-Ok-true.ensures.keys,
    )

pub returns-clause-ok : goal.returns-clause-ok
returns-clause-ok c = grind (arith, common_steps)
