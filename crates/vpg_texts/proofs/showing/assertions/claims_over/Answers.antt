use Rattle.std.proofs.Common.{◌++◌, ℕ, Bool, List, refl, ap, ◌∙◌}
use Rattle.vpg_texts.specs.Sights.{verdicts_at}
use Rattle.vpg_texts.proofs.Counted.{asserts}
use Rattle.vpg_texts.proofs.Shown.{written}
use Rattle.vpg_texts.proofs.showing.assertions.claims_over.Goals as goal

pub returns-clause-claimed : goal.returns-clause-claimed
returns-clause-claimed c =
    let page = c.args.page.now in (
      _,
      (
        asserts c.args.game.now c.args.diagram.now page.decisions c.args.games.now c.requires.games page.hopeful page.dual
            (λ (first second : ℕ) (full settled : Bool). verdicts_at first second page.hopeful page.dual settled c.args.claims.now c.args.vertex) c.is_full-full.result c.is_settled-settled.result
            (rw c.known.ensures at c.is_full-full.ensures.known) c.is_settled-settled.ensures,
        (c.in_ok-tone.ensures.0, c.in_ok-extend_from_slice.ensures.items ∙ ap (λ (bytes : List ℕ). c.args.out.now.items ++ bytes) (c.deref.ensures.value ∙ written _ _ c.new-text.result.items _ refl c.in_ok-tone.ensures.1 c.new-text.ensures.items)),
      ),
    )
