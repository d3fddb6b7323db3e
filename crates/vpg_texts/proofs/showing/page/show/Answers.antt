use Rattle.std.proofs.Common.{◌++◌, ℕ, List, ap, ◌∙◌, refl}
use Rattle.vpg_texts.specs.Scene.{IsShown, scene_of}
use Rattle.vpg_texts.proofs.Shown.{on_ok, appended}
use Rattle.vpg_texts.proofs.Pieces.{unwritten}
use Rattle.vpg_texts.proofs.showing.page.show.Goals as goal

pub returns-clause-shown : goal.returns-clause-shown
returns-clause-shown c =
    let page = c.args.page.now in
    let text = c.in_ok-text.text.items in
    let shown : IsShown (scene_of c.args.labels.now.names c.args.game.now c.args.diagram.now) page.decisions page.hopeful page.dual text =
    (c.args.games.now.known, (c.requires.games.known, rw c.as_slice.ensures at c.in_ok-text.ensures)) in
    on_ok c.extend_from_slice.result _ _ (λ items. (text, (shown, items ∙ ap (λ (bytes : List ℕ). c.args.out.now.items ++ bytes) c.deref.ensures.value))) (appended c.extend_from_slice.result _ _ _ c.extend_from_slice.ensures.items)

pub returns-clause-unchanged : goal.returns-clause-unchanged
returns-clause-unchanged c = unwritten c.extend_from_slice.result _ _ _ _ c.extend_from_slice.ensures.items refl
