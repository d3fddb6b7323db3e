use Rattle.std.proofs.Common.{◌++◌, ◌∷◌, [], ap, ◌∙◌}
use Rattle.vpg_guards.specs.declared.tri.Tri.{Tri}
use Rattle.vpg_guards.specs.declared.tri.Tri.TheVariants.{Unknown}
use Rattle.std.specs.Prelude.{slice_index_or}
use Rattle.vpg_texts.specs.Text.{blank_name, known_word}
use Rattle.vpg_texts.proofs.Counted.{three_parts}
use Rattle.vpg_texts.proofs.text.known.Goals as goal

pub returns : goal.returns
returns c =
    three_parts c.args.out.now.items c.known_word.new.out.items c.blank_name.new.out.items c.push.new.self.items
    (known_word (slice_index_or c.args.known.now c.args.feature Unknown)) (blank_name c.args.names.now c.args.feature) (10 ∷ [])
    (c.in_ok-known_word.ensures ∙ ap (λ (value : Tri). c.args.out.now.items ++ known_word value) c.value.ensures) c.in_ok-blank_name.ensures c.in_ok-push.ensures.items
