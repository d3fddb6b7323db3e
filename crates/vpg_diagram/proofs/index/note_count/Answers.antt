use Rattle.std.proofs.Common.{ℕ, List, [], ◌∷◌, ◌∙◌, subst, arith}
use Rattle.std.proofs.lemmas.Grind.{common_steps}
use Rattle.std.proofs.lemmas.List.{take_all}
use Rattle.vpg_features.specs.Index.{NotesAlso}
use Rattle.vpg_features.proofs.Noted.{noted_step}
use Rattle.vpg_diagram.proofs.index.note_count.Goals as goal

pub loop-member-preserved : goal.loop-member-preserved
loop-member-preserved c =
    noted_step c.args.index.now c.loop-member.index c.note-in-loop-member.new.self c.args.number (c.args.count.now.parent ∷ []) c.members-member-items.result.now c.loop-member.member-index 0 c.loop-member-test.true c.loop-member.invariant
    c.in_ok-note-2.ensures

pub loop-member-init : goal.loop-member-init
loop-member-init c = subst (λ (p : ℕ). NotesAlso c.args.index.now c.args.number (p ∷ []) c.note.new.self) c.parent.ensures c.in_ok-note.ensures

pub returns : goal.returns
returns c =
    subst (λ (xs : List ℕ). NotesAlso c.args.index.now c.args.number (c.args.count.now.parent ∷ xs) c.loop-member.index)
    (take_all c.loop-member.member-index c.members-member-items.result.now c.loop-member-test.false ∙ c.members-member-items.ensures) c.loop-member.invariant

pub note-requires-in-loop-member : goal.note-requires-in-loop-member
note-requires-in-loop-member c = grind (arith, common_steps)
