use Rattle.std.proofs.Common.{◌<◌, All, List, subst, ap, refl, arith, take_all}
use Rattle.vpg_game.specs.Spelled.{SpelledEntry}
use Rattle.vpg_game.specs.Game.{entry_priorities}
use Rattle.vpg_model.proofs.Made.{low_more, not_low}
use Rattle.vpg_model.proofs.making.are_low.Goals as goal

pub returns-then-entry-ge-HIGHEST_PRIORITY : goal.returns-then-entry-ge-HIGHEST_PRIORITY
returns-then-entry-ge-HIGHEST_PRIORITY c =
    let same = ap (λ (e : SpelledEntry). e.priority) c.entry.view_is in
    let at = ap (λ (e : SpelledEntry). e.priority) c.entry-item.is in
    ((λ never. absurd cc), (λ low. absurd (not_low c.args.entries.now c.loop-entry.entry-index c.entry-item.result c.loop-entry-test.true (omega (arith, same, at, c.if-entry-ge-HIGHEST_PRIORITY.true)) low)))

pub loop-entry-preserved : goal.loop-entry-preserved
loop-entry-preserved c =
    let same = ap (λ (e : SpelledEntry). e.priority) c.entry.view_is in
    let at = ap (λ (e : SpelledEntry). e.priority) c.entry-item.is in
    low_more c.args.entries.now c.loop-entry.entry-index c.entry-item.result c.loop-entry-test.true c.loop-entry.invariant (omega (arith, same, at, c.if-entry-ge-HIGHEST_PRIORITY.false))

pub returns : goal.returns
returns c = (
  (λ _. subst (λ (es : List SpelledEntry). All (λ p. p < 65536) (entry_priorities es)) (take_all c.loop-entry.entry-index c.args.entries.now (omega (arith, c.loop-entry-test.false))) c.loop-entry.invariant),
  (λ _. refl),
)
