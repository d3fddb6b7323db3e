use Rattle.std.proofs.Common.{◌++◌, ℕ, Bool, List, refl, ap, ◌∙◌}
use Rattle.vpg_texts.specs.Sights.{settled_answer}
use Rattle.vpg_texts.proofs.Counted.{asserts}
use Rattle.vpg_texts.proofs.Shown.{written}
use Rattle.vpg_texts.proofs.showing.assertions.settled_over.Goals as goal

pub returns-clause-settled : goal.returns-clause-settled
returns-clause-settled c =
    let page = c.args.page.now in (
      _,
      (
        asserts c.args.game.now c.args.diagram.now page.decisions c.args.games.now c.requires.games page.hopeful page.dual
            (λ (first second : ℕ) (full settled : Bool). settled_answer settled) c.is_full-full.result c.is_settled-settled.result
            (rw c.known.ensures at c.is_full-full.ensures.known) c.is_settled-settled.ensures,
        (c.in_ok-tone.ensures.0, c.in_ok-extend_from_slice.ensures.items ∙ ap (λ (bytes : List ℕ). c.args.out.now.items ++ bytes) (c.deref.ensures.value ∙ written _ _ c.new-text.result.items _ refl c.in_ok-tone.ensures.1 c.new-text.ensures.items)),
      ),
    )
