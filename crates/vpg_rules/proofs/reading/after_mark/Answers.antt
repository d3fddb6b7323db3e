use Rattle.std.proofs.Common.{ap, ◌∙◌}
use Rattle.std.proofs.lemmas.Slice.Eq.{strip_prefix_is}
use Rattle.vpg_rules.specs.Reading.{stripped}
use Rattle.vpg_rules.proofs.Steps.{stripped_of}
use Rattle.std.proofs.lemmas.Bool.Decides.{Decides-eqb}
use Rattle.vpg_rules.proofs.reading.after_mark.Goals as goal

pub returns-clause-rest : goal.returns-clause-rest
returns-clause-rest c =
    stripped_of c.after_blanks.result.now c.args.mark.now c.strip_prefix.result (strip_prefix_is Decides-eqb c.after_blanks.result.now c.args.mark.now c.strip_prefix.result c.strip_prefix.ensures.cases)
    ∙ ap (stripped c.args.mark.now) c.after_blanks.ensures.rest
