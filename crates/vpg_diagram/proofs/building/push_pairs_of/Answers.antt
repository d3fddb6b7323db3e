use Rattle.std.proofs.Common.{◌++◌, ◌∷◌, [], map, refl, ap, ◌∙◌}
use Rattle.vpg_diagram.specs.Clauses.{feature_out}
use Rattle.vpg_diagram.proofs.Pieces.{piece_more, piece_end}
use Rattle.vpg_diagram.proofs.building.push_pairs_of.Goals as goal

pub loop-other-init : goal.loop-other-init
loop-other-init c = refl

pub loop-other-preserved : goal.loop-other-preserved
loop-other-preserved c =
    piece_more (map (λ d. feature_out c.args.feature ∷ feature_out d ∷ [])) (λ a _. (feature_out c.args.feature ∷ feature_out a ∷ []) ∷ []) (λ a _. refl) _ _ _ c.args.others.now c.loop-other.other-index 0 c.loop-other-test.true
    (c.in_ok-push.ensures.items ∙ ap (λ x. c.loop-other.clauses.items ++ x ∷ []) c.not_both.ensures) c.loop-other.invariant

pub returns : goal.returns
returns c = piece_end (map (λ d. feature_out c.args.feature ∷ feature_out d ∷ [])) refl _ _ c.args.others.now c.loop-other.other-index c.loop-other-test.false c.loop-other.invariant
