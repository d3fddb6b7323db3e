use Rattle.std.specs.Char.{is_ascii_digit}
use Rattle.vpg_guards.proofs.Blanks.{front_all}
use Rattle.vpg_game.proofs.reading.digits.Goals as goal

pub returns-clause-digits : goal.returns-clause-digits
returns-clause-digits c = rw c.split_digits.ensures.word (front_all is_ascii_digit c.after_blanks-start.result.now)
