use Rattle.std.proofs.Common.{Bool, List, [], ◌∷◌, ◌++◌, ◌∙◌, ap}
use Rattle.vpg_written.proofs.Values.{first_sets}
use Rattle.vpg_written.proofs.sets.constants.Goals as goal

pub returns : goal.returns
returns c = first_sets c.args.system.now.actions c.in_ok-every.every c.empty-none.result _ c.in_ok-every.ensures c.empty-none.ensures
    (c.in_ok-push-2.ensures.items ∙ ap (λ (xs : List (List Bool)). xs ++ c.empty-none.result ∷ []) (c.in_ok-push.ensures.items ∙ ap (λ (xs : List (List Bool)). xs ++ c.in_ok-every.every ∷ []) c.new-sets.ensures.items))
