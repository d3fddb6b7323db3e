use Rattle.std.proofs.Common.{not, ap, ◌∙◌}
use Rattle.vpg_xml.proofs.Turns.{new_is}
use Rattle.vpg_xml.proofs.tags.is_new.Goals as goal

pub returns-then-attributes-lt-MOST_ATTRIBUTES : goal.returns-then-attributes-lt-MOST_ATTRIBUTES
returns-then-attributes-lt-MOST_ATTRIBUTES c =
    ap not c.has_name.ensures ∙ new_is c.args.attributes.now c.args.name.now c.if-attributes-lt-MOST_ATTRIBUTES.true
