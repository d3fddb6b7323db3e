use Rattle.std.proofs.Common.{◌≡◌, ◌∙◌, List, ℕ, sym, subst, true, false, slice_set}
use Rattle.vpg_features.proofs.Noted.{any_default}
use Rattle.vpg_why.specs.Searched.{AreNoted}
use Rattle.vpg_why.proofs.SearchSteps.{noted_new}
use Rattle.vpg_why.proofs.reaching.note.Goals as goal

pub returns-in_ok-push : goal.returns-in_ok-push
returns-in_ok-push c =
    subst (λ (q : List ℕ). AreNoted (λ v. v ≡ c.args.w) c.args.marks.now.items c.args.queue.now.items (slice_set c.args.marks.now.items c.args.w true) q)
    (sym c.in_ok-push.ensures.items)
    (noted_new c.args.marks.now.items c.args.queue.now.items c.args.w c.requires.queued c.requires.inside
    (any_default c.args.marks.now.items c.args.w false c.index.result.now c.requires.inside ∙ sym c.index.ensures ∙ c.if-not-index.true))
