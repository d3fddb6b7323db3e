use Rattle.std.proofs.Common.{◌++◌, ◌∷◌, [], refl, ap, ◌∙◌}
use Rattle.vpg_diagram.specs.Clauses.{feature_in, feature_out, parent_clauses}
use Rattle.vpg_diagram.proofs.Pieces.{piece_more, piece_end}
use Rattle.vpg_diagram.proofs.building.push_parents.Goals as goal

pub loop-member-init : goal.loop-member-init
loop-member-init c = refl

pub loop-member-preserved : goal.loop-member-preserved
loop-member-preserved c =
    piece_more (parent_clauses c.args.parent) (λ a _. (feature_out a ∷ feature_in c.args.parent ∷ []) ∷ []) (λ a _. refl) _ _ _ c.args.members.now c.loop-member.member-index 0 c.loop-member-test.true
    (c.in_ok-push.ensures.items ∙ ap (λ x. c.loop-member.clauses.items ++ x ∷ []) c.implies.ensures) c.loop-member.invariant

pub returns : goal.returns
returns c = piece_end (parent_clauses c.args.parent) refl _ _ c.args.members.now c.loop-member.member-index c.loop-member-test.false c.loop-member.invariant
