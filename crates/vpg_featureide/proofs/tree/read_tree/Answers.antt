use Rattle.vpg_xml.proofs.StepCode.{if_ok_of, if_err_by}
use Rattle.vpg_featureide.specs.View.{model_in}
use Rattle.vpg_featureide.proofs.Below.{model_below}
use Rattle.vpg_featureide.proofs.Formed.{memory_as, memory_of}
use Rattle.vpg_featureide.proofs.tree.read_tree.Goals as goal

pub tree_of-requires : goal.tree_of-requires
tree_of-requires c = let k = c.in-Ok.ensures.model in model_below k.document (model_in c.in-Ok.model) k.is

pub returns-in-Ok-clause-tree : goal.returns-in-Ok-clause-tree
returns-in-Ok-clause-tree c =
    if_ok_of c.tree_of.result (λ t e. record { model = model_in c.in-Ok.model; spelled = c.in-Ok.ensures.model; is = e }) c.tree_of.ensures.ok

pub returns-in-Ok-clause-only : goal.returns-in-Ok-clause-only
returns-in-Ok-clause-only c d k =
    if_ok_of c.tree_of.result (λ t e. record { model = model_in c.in-Ok.model; read = c.in-Ok.ensures.only d k; is = e }) c.tree_of.ensures.ok

pub returns-in-Ok-clause-refused : goal.returns-in-Ok-clause-refused
returns-in-Ok-clause-refused c d k = if_err_by c.tree_of.result (λ e m. memory_as d e m) c.tree_of.ensures.err

pub returns-in-Ok-clause-fault : goal.returns-in-Ok-clause-fault
returns-in-Ok-clause-fault c = if_err_by c.tree_of.result (λ e m. memory_of c.args.text.now e m) c.tree_of.ensures.err
