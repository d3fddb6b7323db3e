use Rattle.std.proofs.Common.{List, ℕ, take, ◌++◌, ap, ◌∙◌}
use Rattle.vpg_part_texts.specs.PartTexts.{fixpoint_name, title, cut}
use Rattle.vpg_part_texts.proofs.Keeping.{cut_kept}
use Rattle.vpg_part_texts.proofs.wording.Wording.text.Goals as goal

pub returns : goal.returns
returns c =
    let whole : List ℕ = title c.args.self.now.parts.now c.args.self.now.sets.now (fixpoint_name c.args.self.now.numbers.now c.args.self.now.root) c.args.place in
    c.in_ok-cut.ensures ∙ ap cut (c.in_ok-put_title.ensures ∙ ap (λ (t : List ℕ). take 61 (t ++ whole)) c.new-text.ensures.items) ∙ cut_kept whole
