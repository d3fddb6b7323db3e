use Rattle.std.proofs.Common.{◌∙◌, ◌+◌, ◌*◌, ◌-◌, ap, arith, sym, take, drop, length}
use Rattle.std.proofs.lemmas.Bool.Decides.{nat_tests}
use Rattle.std.proofs.lemmas.List.{take_rest}
use Rattle.vpg_journal.proofs.Framing.{first_of}
use Rattle.vpg_journal.proofs.frames.first_record.Goals as goal

pub returns-clause-some : goal.returns-clause-some
returns-clause-some c =
    let n = c.from.result + 256 * c.from-2.result in
    let bytes = c.args.bytes.now in
    first_of bytes c.from.result c.from-2.result _ _ (omega (arith, c.in-len3-up.len_at_least)) (grind (arith, nat_tests)) (sym c.from.ensures) (sym c.from-2.ensures)
    (omega (arith, c.from.ensures, c.type_inv.bytes 1)) (omega (arith, c.from-2.ensures, c.type_inv.bytes 2))
    (omega (arith, c.if-rest-len.false, ap length (take_rest bytes 3)))
    (ap (take n) (take_rest bytes 3))
    (take_rest (take (length bytes - 3) (drop 3 bytes)) n ∙ ap (drop n) (take_rest bytes 3))
