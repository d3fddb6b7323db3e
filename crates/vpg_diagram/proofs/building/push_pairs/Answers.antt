use Rattle.std.proofs.Common.{◌+◌, ◌++◌, ◌∷◌, [], map, refl, ap, ◌∙◌, slice_index_or}
use Rattle.std.proofs.lemmas.List.{take_rest}
use Rattle.vpg_diagram.specs.Clauses.{feature_out, pair_clauses}
use Rattle.vpg_diagram.proofs.Pieces.{piece_more, piece_end}
use Rattle.vpg_diagram.proofs.building.push_pairs.Goals as goal

pub loop-i-init : goal.loop-i-init
loop-i-init c = refl

pub loop-i-preserved : goal.loop-i-preserved
loop-i-preserved c =
    piece_more pair_clauses (λ a rest. map (λ d. feature_out a ∷ feature_out d ∷ []) rest) (λ a _. refl) _ _ _ c.args.members.now c.loop-i.i 0 c.loop-i-test.true
    (c.in_ok-push_pairs_of.ensures
    ∙ ap (λ rest. c.loop-i.clauses.items ++ map (λ d. feature_out (slice_index_or c.args.members.now c.loop-i.i 0) ∷ feature_out d ∷ []) rest) (take_rest c.args.members.now (c.loop-i.i + 1)))
    c.loop-i.invariant

pub returns : goal.returns
returns c = piece_end pair_clauses refl _ _ c.args.members.now c.loop-i.i c.loop-i-test.false c.loop-i.invariant
