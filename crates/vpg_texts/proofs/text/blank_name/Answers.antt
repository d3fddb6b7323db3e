use Rattle.std.proofs.Common.{ap, ◌∙◌, List, ℕ, ◌++◌, ◌∷◌, []}
use Rattle.vpg_texts.specs.Text.{name_of}
use Rattle.vpg_texts.proofs.Pieces.{behind}
use Rattle.vpg_texts.proofs.text.blank_name.Goals as goal

pub returns : goal.returns
returns c =
    behind c.args.out.now.items c.push.new.self.items c.extend_from_slice.new.self.items (32 ∷ []) (name_of c.args.names.now c.args.f) c.in_ok-push.ensures.items
    (c.in_ok-extend_from_slice.ensures.items ∙ ap (λ (name : List ℕ). c.push.new.self.items ++ name) c.name_at.ensures)
