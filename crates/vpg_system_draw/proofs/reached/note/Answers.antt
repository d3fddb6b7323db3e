use Rattle.std.proofs.Common.{◌≡◌, ◌∙◌, List, ℕ, sym, subst, true, false, slice_set}
use Rattle.vpg_features.proofs.Noted.{any_default}
use Rattle.vpg_system_draw.specs.Searched.{AreNoted}
use Rattle.vpg_system_draw.proofs.Noting.{noted_new, noted_old}
use Rattle.vpg_system_draw.proofs.reached.note.Goals as goal

pub returns-in_ok-push : goal.returns-in_ok-push
returns-in_ok-push c =
    subst (λ (q : List ℕ). AreNoted (λ w. w ≡ c.args.s) c.args.marks.now.items c.args.waiting.now.items (slice_set c.args.marks.now.items c.args.s true) q)
    (sym c.in_ok-push.ensures.items)
    (noted_new c.args.marks.now.items c.args.waiting.now.items c.args.s c.requires
    (any_default c.args.marks.now.items c.args.s false c.index.result.now c.requires ∙ sym c.index.ensures ∙ c.if-not-index.true))

pub returns-else-not-index : goal.returns-else-not-index
returns-else-not-index c =
    noted_old c.args.marks.now.items c.args.waiting.now.items c.args.s
    (any_default c.args.marks.now.items c.args.s false c.index.result.now c.requires ∙ sym c.index.ensures ∙ c.if-not-index.false)
