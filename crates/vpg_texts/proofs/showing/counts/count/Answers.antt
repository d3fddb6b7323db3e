use Rattle.std.proofs.Common.{◌++◌, ℕ, Bool, List, [], refl, ap, ◌∙◌, map}
use Rattle.vpg_partial.specs.Known.{literal_of}
use Rattle.vpg_texts.specs.Scene.{IsCounted, scene_of}
use Rattle.vpg_texts.specs.Text.{count_text}
use Rattle.vpg_texts.proofs.Shown.{on_ok, appended, tells, written}
use Rattle.vpg_texts.proofs.Pieces.{unwritten}
use Rattle.vpg_texts.proofs.showing.counts.count.Goals as goal

pub returns-clause-counted : goal.returns-clause-counted
returns-clause-counted c =
    let page = c.args.page.now in
    let text = c.count.new.out.items in
    let counted : IsCounted (scene_of [] c.args.game.now c.args.diagram.now) page.decisions page.hopeful page.dual c.args.mark.now text = (
      _,
      (
        c.requires.games.known,
        tells c.args.game.now c.args.diagram.now (map literal_of page.decisions) c.args.games.now c.requires.games
            (λ (first second : ℕ) (full settled : Bool). count_text first second full settled c.args.mark.now page.hopeful page.dual) c.is_full-full.result c.is_settled-settled.result page.hopeful page.dual text
            (rw c.known.ensures at c.is_full-full.ensures.known) c.is_settled-settled.ensures (written text text c.new-text.result.items _ refl c.in_ok-count.ensures c.new-text.ensures.items),
      ),
    ) in
    on_ok c.extend_from_slice.result _ _ (λ items. (text, (counted, items ∙ ap (λ (bytes : List ℕ). c.args.out.now.items ++ bytes) c.deref.ensures.value))) (appended c.extend_from_slice.result _ _ _ c.extend_from_slice.ensures.items)

pub returns-clause-unchanged : goal.returns-clause-unchanged
returns-clause-unchanged c = unwritten c.extend_from_slice.result _ _ _ _ c.extend_from_slice.ensures.items refl
