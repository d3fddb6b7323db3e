use Rattle.std.proofs.Common.{◌+◌, drop, length, sym, ap, ◌∙◌, add-one, arith}
use Rattle.std.proofs.lemmas.List.{take_rest, drop_all}
use Rattle.vpg_uvl.proofs.LineCode.{rows_of_part, rows_of_last}
use Rattle.vpg_uvl.proofs.row.first_part.Goals as goal

pub returns-in-Some-clause-rows : goal.returns-in-Some-clause-rows
returns-in-Some-clause-rows c start =
    rows_of_part start c.args.text.now _ c.in-Some.at (sym c.line_end.ensures ∙ c.in-Some.is)
    (sym (take_rest c.args.text.now (c.in-Some.at + 1) ∙ ap (λ k. drop k c.args.text.now) (add-one c.in-Some.at)))

pub returns-in-None-clause-rows : goal.returns-in-None-clause-rows
returns-in-None-clause-rows c start =
    rows_of_last start c.args.text.now _ (sym c.line_end.ensures ∙ c.in-None.is)
    (sym (take_rest c.args.text.now (length c.args.text.now) ∙ drop_all (length c.args.text.now) c.args.text.now (omega arith)))
