use Rattle.std.proofs.lemmas.Grind.{common_steps}
use Rattle.std.proofs.Common.{ℕ, List, ◌++◌, length, drop, sym, ap, subst, ◌∙◌, arith}
use Rattle.std.proofs.Math.Seq.{drop-append_seam}
use Rattle.vpg_guards.specs.Grammar.{Spells}
use Rattle.vpg_guards.specs.View.{formula_of}
use Rattle.vpg_guards.specs.Writing.{guard_text}
use Rattle.vpg_guards.proofs.LawProofs.{writings_spell_the_guard}
use Rattle.vpg_guards.proofs.guard.Guard.write.Goals as goal

pub returns-clause-again : goal.returns-clause-again
returns-clause-again c readable =
    let names = c.args.names.now in
    let g = formula_of c.args.self.now in
    let old = c.args.out.now.items in
    let behind = ap (drop (length old)) (c.in_ok-extend_from_slice.ensures.items ∙ ap (λ (t : List ℕ). old ++ t) (c.deref.ensures.value ∙ c.in_ok-put.ensures ∙ ap (λ (t : List ℕ). t ++ guard_text names g) c.new-text.ensures.items)) ∙ drop-append_seam old _ in
    subst (λ (t : List ℕ). Spells names t g) (sym behind) (writings_spell_the_guard names g readable)

pub returns-clause-ok : goal.returns-clause-ok
returns-clause-ok c = grind (arith, common_steps)
