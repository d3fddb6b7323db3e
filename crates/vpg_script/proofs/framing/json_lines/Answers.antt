use Rattle.std.proofs.Common.{arith, refl}
use Rattle.serde_json.specs.View.{view}
use Rattle.vpg_script.proofs.Framed.{json_line_is}
use Rattle.vpg_script.proofs.framing.json_lines.Goals as goal

pub returns-in_ok-made-in-len1-up : goal.returns-in_ok-made-in-len1-up
returns-in_ok-made-in-len1-up c =
    json_line_is (λ w. w.now) c.args.number c.args.tone c.args.lines.now _ _ (view c.in_ok-value-in-len1-up.value) c.in_ok-made-in-len1-up.made.items
    (omega (arith, c.in-len1-up.len_at_least)) refl c.in_ok-value-in-len1-up.ensures c.in_ok-made-in-len1-up.ensures
