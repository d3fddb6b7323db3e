use Rattle.std.proofs.Common.{◌∷◌, []}
use Rattle.vpg_texts.specs.Text.{answer_word}
use Rattle.vpg_texts.proofs.Pieces.{behind}
use Rattle.vpg_texts.proofs.text.answer.Goals as goal

pub returns : goal.returns
returns c =
    behind c.args.out.now.items c.answer_word.new.out.items c.push.new.self.items (answer_word c.args.yes) (10 ∷ []) c.in_ok-answer_word.ensures c.in_ok-push.ensures.items
