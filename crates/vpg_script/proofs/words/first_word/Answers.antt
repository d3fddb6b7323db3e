use Rattle.std.proofs.Common.{arith}
use Rattle.std.proofs.lemmas.Grind.{common_steps}
use Rattle.vpg_script.proofs.OneByOne.{first_of}
use Rattle.vpg_script.proofs.words.first_word.Goals as goal

pub returns-clause-some : goal.returns-clause-some
returns-clause-some c =
    first_of c.args.text.now c.unblanked-text.result.now c.split_at.result.0.now c.split_at.result.1.now c.word_len.result c.unblanked-text.ensures.rest
    (grind (arith, common_steps)) c.word_len.ensures.len c.split_at.ensures.front c.split_at.ensures.back
