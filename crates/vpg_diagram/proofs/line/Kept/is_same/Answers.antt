use Rattle.std.proofs.Common.{◌≡◌, ◌↔◌, IsTrue, rules, sym, ap, ◌∙◌, subst}
use Rattle.vpg_diagram.specs.FeatureDiagram.{Line, StandsAfter}
use Rattle.vpg_diagram.specs.LineView.{line_of, kept_line_of}
use Rattle.vpg_diagram.proofs.KeptLines.{same_line}
use Rattle.vpg_diagram.proofs.line.Kept.is_same.Goals as goal

pub returns-in-Line-other : goal.returns-in-Line-other
returns-in-Line-other c known also s t =
    let a : kept_line_of c.args.self.now ≡ line_of c.in-Line.line = ap kept_line_of c.in-Line.is in
    let b : kept_line_of c.args.other.now ≡ line_of c.in-Line-other.also = ap kept_line_of c.in-Line-other.is in
    let same : IsTrue c.eq.result ↔ (c.in-Line.line ≡ c.in-Line-other.also) = (search rules, search rules) in (
      λ e. a ∙ ap line_of (same.0 e) ∙ sym b,
      λ e. same.1 (same_line known also c.in-Line.line c.in-Line-other.also (subst (StandsAfter known) a s) (subst (StandsAfter also) b t) (sym a ∙ e ∙ b)),
    )
