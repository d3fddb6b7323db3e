use Rattle.std.proofs.Common.{◌++◌, ◌∷◌, [], decimal}
use Rattle.vpg_texts.specs.Changed.{verdict_words}
use Rattle.vpg_texts.specs.Labels.{beside}
use Rattle.vpg_texts.proofs.Counted.{three_parts}
use Rattle.vpg_texts.proofs.Pieces.{behind}
use Rattle.vpg_texts.proofs.changed.change.Goals as goal

pub returns : goal.returns
returns c =
    let first = verdict_words c.args.before in
    let second = verdict_words c.args.now in
    let words = c.words-2.new.out.items in
    let named = c.put_beside.new.out.items in
    behind c.args.out.now.items named c.push.new.self.items (decimal c.args.id ++ first ++ second ++ beside c.args.label.now) (10 ∷ [])
    (behind c.args.out.now.items words named (decimal c.args.id ++ first ++ second) (beside c.args.label.now)
    (three_parts c.args.out.now.items c.number.new.out.items c.words.new.out.items words (decimal c.args.id) first second c.in_ok-number.ensures c.in_ok-words.ensures c.in_ok-words-2.ensures) c.in_ok-put_beside.ensures)
    c.in_ok-push.ensures.items
