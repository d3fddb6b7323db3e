use Rattle.std.proofs.Common.{◌++◌, ◌∷◌, [], map, false, refl, ap, ◌∙◌}
use Rattle.vpg_diagram.specs.Clauses.{feature_in}
use Rattle.vpg_diagram.proofs.Pieces.{piece_more, piece_end}
use Rattle.vpg_diagram.proofs.clause.Clause.some_member.Goals as goal

pub loop-member-init : goal.loop-member-init
loop-member-init c =
    ap (λ xs. xs ++ map feature_in c.args.members.now) (c.in_ok-push.ensures.ok ∙ ap (λ xs. xs ++ record { feature = c.args.parent; value = false } ∷ []) c.new-literals.ensures.items)

pub loop-member-preserved : goal.loop-member-preserved
loop-member-preserved c =
    piece_more (map feature_in) (λ a _. feature_in a ∷ []) (λ a _. refl) _ _ _ c.args.members.now c.loop-member.member-index 0 c.loop-member-test.true c.in_ok-push-2.ensures.ok c.loop-member.invariant

pub returns : goal.returns
returns c = piece_end (map feature_in) refl _ _ c.args.members.now c.loop-member.member-index c.loop-member-test.false c.loop-member.invariant
