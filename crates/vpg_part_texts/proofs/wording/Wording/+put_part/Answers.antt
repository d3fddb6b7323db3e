use Rattle.std.proofs.Common.{ℕ, List, codes, ap, sym, ◌∙◌, ◌++◌, arith}
use Rattle.vpg_parts.specs.declared.part.Part.TheVariants.{True, False, And, Or, SomeStep, EveryStep, Fixpoint, Variable}
use Rattle.vpg_part_texts.specs.declared.wording.Around.TheVariants.{Alone, Either, Both, Step}
use Rattle.vpg_part_texts.specs.PartTexts.{opened, closed, encloses_and, encloses_or, encloses_fixpoint, kind_text, fixpoint_name, part_text}
use Rattle.vpg_part_texts.proofs.Keeping.{behind, four, five, full, put_as, on_ok}
use Rattle.vpg_part_texts.proofs.Worded.{unfolded}
use Rattle.vpg_part_texts.proofs.wording.Wording.+put_part.Goals as goal

pub returns-then-len-ge-KEPT-clause-put : goal.returns-then-len-ge-KEPT-clause-put
returns-then-len-ge-KEPT-clause-put t c = full 61 c.args.out.now.items _ c.requires (omega (arith, c.if-len-ge-KEPT.true, c.len.ensures))

pub returns-in-True-clause-put : goal.returns-in-True-clause-put
returns-in-True-clause-put t c = on_ok c.put-in-True.result _ _
    (λ e. put_as c.args.out.now.items c.put-in-True.new.out.items _ _ e (sym (unfolded c.args.self.now.parts.now c.args.self.now.sets.now (fixpoint_name c.args.self.now.numbers.now c.args.self.now.root) c.args.levels c.in-Some.inner c.args.around c.args.place True (omega (arith, c.in-Some.ensures)) (sym c.in-True.is ∙ c.part.ensures))))
    c.put-in-True.ensures.put

pub returns-in-False-clause-put : goal.returns-in-False-clause-put
returns-in-False-clause-put t c = on_ok c.put-in-False.result _ _
    (λ e. put_as c.args.out.now.items c.put-in-False.new.out.items _ _ e (sym (unfolded c.args.self.now.parts.now c.args.self.now.sets.now (fixpoint_name c.args.self.now.numbers.now c.args.self.now.root) c.args.levels c.in-Some.inner c.args.around c.args.place False (omega (arith, c.in-Some.ensures)) (sym c.in-False.is ∙ c.part.ensures))))
    c.put-in-False.ensures.put

pub returns-in_ok-put_part-in-And-2-clause-put : goal.returns-in_ok-put_part-in-And-2-clause-put
returns-in_ok-put_part-in-And-2-clause-put t c = (let opened_is = c.opening.ensures ∙ ap opened c.encloses_and.ensures in
    let closed_is = c.closing.ensures ∙ ap closed c.encloses_and-in-And.ensures in
    on_ok c.put-in-And-3.result _ _
    (λ e. put_as c.args.out.now.items c.put-in-And-3.new.out.items _ _
    (five 61 c.args.out.now.items c.put-in-And.new.out.items c.put_part.new.out.items c.put-in-And-2.new.out.items c.put_part-in-And.new.out.items c.put-in-And-3.new.out.items
    (opened (encloses_and c.args.around)) (part_text c.args.self.now.parts.now c.args.self.now.sets.now (fixpoint_name c.args.self.now.numbers.now c.args.self.now.root) c.in-Some.inner Both c.in-And.first) (codes " && ") (part_text c.args.self.now.parts.now c.args.self.now.sets.now (fixpoint_name c.args.self.now.numbers.now c.args.self.now.root) c.in-Some.inner Both c.in-And.second) (closed (encloses_and c.args.around))
    (put_as c.args.out.now.items c.put-in-And.new.out.items c.opening.result.now _ c.in_ok-put-in-And.ensures.put opened_is)
    c.in_ok-put_part-in-And.ensures.put c.in_ok-put-in-And-2.ensures.put c.in_ok-put_part-in-And-2.ensures.put
    (put_as c.put_part-in-And.new.out.items c.put-in-And-3.new.out.items c.closing.result.now _ e closed_is))
    (sym (unfolded c.args.self.now.parts.now c.args.self.now.sets.now (fixpoint_name c.args.self.now.numbers.now c.args.self.now.root) c.args.levels c.in-Some.inner c.args.around c.args.place (And c.in-And.first c.in-And.second) (omega (arith, c.in-Some.ensures)) (sym c.in-And.is ∙ c.part.ensures))))
    c.put-in-And-3.ensures.put)

pub returns-in_ok-put_part-in-Or-2-clause-put : goal.returns-in_ok-put_part-in-Or-2-clause-put
returns-in_ok-put_part-in-Or-2-clause-put t c = (let opened_is = c.opening-in-Or.ensures ∙ ap opened c.encloses_or.ensures in
    let closed_is = c.closing-in-Or.ensures ∙ ap closed c.encloses_or-in-Or.ensures in
    on_ok c.put-in-Or-3.result _ _
    (λ e. put_as c.args.out.now.items c.put-in-Or-3.new.out.items _ _
    (five 61 c.args.out.now.items c.put-in-Or.new.out.items c.put_part-in-Or.new.out.items c.put-in-Or-2.new.out.items c.put_part-in-Or-2.new.out.items c.put-in-Or-3.new.out.items
    (opened (encloses_or c.args.around)) (part_text c.args.self.now.parts.now c.args.self.now.sets.now (fixpoint_name c.args.self.now.numbers.now c.args.self.now.root) c.in-Some.inner Either c.in-Or.first) (codes " || ") (part_text c.args.self.now.parts.now c.args.self.now.sets.now (fixpoint_name c.args.self.now.numbers.now c.args.self.now.root) c.in-Some.inner Either c.in-Or.second) (closed (encloses_or c.args.around))
    (put_as c.args.out.now.items c.put-in-Or.new.out.items c.opening-in-Or.result.now _ c.in_ok-put-in-Or.ensures.put opened_is)
    c.in_ok-put_part-in-Or.ensures.put c.in_ok-put-in-Or-2.ensures.put c.in_ok-put_part-in-Or-2.ensures.put
    (put_as c.put_part-in-Or-2.new.out.items c.put-in-Or-3.new.out.items c.closing-in-Or.result.now _ e closed_is))
    (sym (unfolded c.args.self.now.parts.now c.args.self.now.sets.now (fixpoint_name c.args.self.now.numbers.now c.args.self.now.root) c.args.levels c.in-Some.inner c.args.around c.args.place (Or c.in-Or.first c.in-Or.second) (omega (arith, c.in-Some.ensures)) (sym c.in-Or.is ∙ c.part.ensures))))
    c.put-in-Or-3.ensures.put)

pub returns-in_ok-put_step-in-SomeStep-clause-put : goal.returns-in_ok-put_step-in-SomeStep-clause-put
returns-in_ok-put_step-in-SomeStep-clause-put t c = on_ok c.put_part-in-SomeStep.result _ _
    (λ e. put_as c.args.out.now.items c.put_part-in-SomeStep.new.out.items _ _
    (behind 61 c.args.out.now.items c.put_step.new.out.items c.put_part-in-SomeStep.new.out.items _ (part_text c.args.self.now.parts.now c.args.self.now.sets.now (fixpoint_name c.args.self.now.numbers.now c.args.self.now.root) c.in-Some.inner Step c.in-SomeStep.to) c.in_ok-put_step-in-SomeStep.ensures.put e)
    (sym (unfolded c.args.self.now.parts.now c.args.self.now.sets.now (fixpoint_name c.args.self.now.numbers.now c.args.self.now.root) c.args.levels c.in-Some.inner c.args.around c.args.place (SomeStep c.in-SomeStep.set c.in-SomeStep.to) (omega (arith, c.in-Some.ensures)) (sym c.in-SomeStep.is ∙ c.part.ensures))))
    c.put_part-in-SomeStep.ensures.put

pub returns-in_ok-put_step-in-EveryStep-clause-put : goal.returns-in_ok-put_step-in-EveryStep-clause-put
returns-in_ok-put_step-in-EveryStep-clause-put t c = on_ok c.put_part-in-EveryStep.result _ _
    (λ e. put_as c.args.out.now.items c.put_part-in-EveryStep.new.out.items _ _
    (behind 61 c.args.out.now.items c.put_step-in-EveryStep.new.out.items c.put_part-in-EveryStep.new.out.items _ (part_text c.args.self.now.parts.now c.args.self.now.sets.now (fixpoint_name c.args.self.now.numbers.now c.args.self.now.root) c.in-Some.inner Step c.in-EveryStep.to) c.in_ok-put_step-in-EveryStep.ensures.put e)
    (sym (unfolded c.args.self.now.parts.now c.args.self.now.sets.now (fixpoint_name c.args.self.now.numbers.now c.args.self.now.root) c.args.levels c.in-Some.inner c.args.around c.args.place (EveryStep c.in-EveryStep.set c.in-EveryStep.to) (omega (arith, c.in-Some.ensures)) (sym c.in-EveryStep.is ∙ c.part.ensures))))
    c.put_part-in-EveryStep.ensures.put

pub returns-in_ok-put_part-in-Fixpoint-clause-put : goal.returns-in_ok-put_part-in-Fixpoint-clause-put
returns-in_ok-put_part-in-Fixpoint-clause-put t c =
    let opened_is = c.opening-in-Fixpoint.ensures ∙ ap opened c.encloses_fixpoint.ensures in
    let closed_is = c.closing-in-Fixpoint.ensures ∙ ap closed c.encloses_fixpoint-in-Fixpoint.ensures in
    on_ok c.put-in-Fixpoint-2.result _ _
    (λ e. put_as c.args.out.now.items c.put-in-Fixpoint-2.new.out.items _ _
    (four 61 c.args.out.now.items c.put_binding.new.out.items c.put-in-Fixpoint.new.out.items c.put_part-in-Fixpoint.new.out.items c.put-in-Fixpoint-2.new.out.items
    (opened (encloses_fixpoint c.args.around) ++ (kind_text c.in-Fixpoint.kind ++ fixpoint_name c.args.self.now.numbers.now c.args.self.now.root c.args.place)) (codes ". ") (part_text c.args.self.now.parts.now c.args.self.now.sets.now (fixpoint_name c.args.self.now.numbers.now c.args.self.now.root) c.in-Some.inner Alone c.in-Fixpoint.body) (closed (encloses_fixpoint c.args.around))
    (put_as c.args.out.now.items c.put_binding.new.out.items (c.opening-in-Fixpoint.result.now ++ (kind_text c.in-Fixpoint.kind ++ fixpoint_name c.args.self.now.numbers.now c.args.self.now.root c.args.place)) _ c.in_ok-put_binding-in-Fixpoint.ensures.put (ap (λ (w : List ℕ). w ++ (kind_text c.in-Fixpoint.kind ++ fixpoint_name c.args.self.now.numbers.now c.args.self.now.root c.args.place)) opened_is))
    c.in_ok-put-in-Fixpoint.ensures.put c.in_ok-put_part-in-Fixpoint.ensures.put
    (put_as c.put_part-in-Fixpoint.new.out.items c.put-in-Fixpoint-2.new.out.items c.closing-in-Fixpoint.result.now _ e closed_is))
    (sym (unfolded c.args.self.now.parts.now c.args.self.now.sets.now (fixpoint_name c.args.self.now.numbers.now c.args.self.now.root) c.args.levels c.in-Some.inner c.args.around c.args.place (Fixpoint c.in-Fixpoint.kind c.in-Fixpoint.priority c.in-Fixpoint.body) (omega (arith, c.in-Some.ensures)) (sym c.in-Fixpoint.is ∙ c.part.ensures))))
    c.put-in-Fixpoint-2.ensures.put

pub returns-in-Variable-clause-put : goal.returns-in-Variable-clause-put
returns-in-Variable-clause-put t c = on_ok c.put_name.result _ _
    (λ e. put_as c.args.out.now.items c.put_name.new.out.items _ _ e (sym (unfolded c.args.self.now.parts.now c.args.self.now.sets.now (fixpoint_name c.args.self.now.numbers.now c.args.self.now.root) c.args.levels c.in-Some.inner c.args.around c.args.place (Variable c.in-Variable.fixpoint) (omega (arith, c.in-Some.ensures)) (sym c.in-Variable.is ∙ c.part.ensures))))
    c.put_name.ensures.put
