use Rattle.std.proofs.Common.{◌∷◌, [], length}
use Rattle.vpg_texts.specs.Text.{names_known}
use Rattle.vpg_texts.proofs.Counted.{three_parts}
use Rattle.vpg_texts.proofs.text.products_line.Goals as goal

pub returns : goal.returns
returns c =
    three_parts c.args.out.now.items c.extend_from_slice.new.self.items c.names_known.new.out.items c.push.new.self.items
    c.args.word.now (names_known c.args.names.now c.args.known.now c.args.value (length c.args.names.now)) (10 ∷ [])
    c.in_ok-extend_from_slice.ensures.items c.in_ok-names_known.ensures c.in_ok-push.ensures.items
