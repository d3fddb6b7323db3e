-- From what the words of a text are to what the text spells.
use Rattle.std.proofs.Common.{◌≡◌, ℕ, true, List, Option, Some, None, sym, ap, ◌∙◌}
use Rattle.vpg_formula.specs.declared.mark.Mark.{Mark}
use Rattle.vpg_formula.specs.declared.fault.FormulaFault.{FormulaFault}
use Rattle.vpg_formula.specs.declared.fault.FormulaFault.TheVariants as faults
use Rattle.vpg_formula.specs.declared.stop.Stop.{Stop}
use Rattle.vpg_formula.specs.declared.stop.Stop.TheVariants as stops
use Rattle.vpg_formula.specs.Marks.{AreMarksOf}
use Rattle.vpg_formula.specs.ReadCode.{Fails, IsWhole, is_memory, is_out_of_memory}
use Rattle.vpg_formula.proofs.Series.{some_is}

module _ {A : Type 0} (marks : A → List Mark) (read : List (List ℕ) → Option A) (given ws : List (List ℕ)) (same : given ≡ ws) where
  pub parsed_found : (Has : A → Type 0) (new : List Mark) → ((x : A) → read ws ≡ Some x → Has x) → IsWhole marks new (read given) → AreMarksOf marks Has new
  parsed_found Has new has w = record { item = w.item; has = has w.item (ap read (sym same) ∙ w.is); are = w.put }

  pub parsed_only : (new : List Mark) (x : A) → IsWhole marks new (read given) → read ws ≡ Some x → new ≡ marks x
  parsed_only new x w e = w.put ∙ ap marks (some_is w.item x (sym w.is ∙ ap read same ∙ e))

  pub failed_only : (stop : Stop) (fault : FormulaFault) (x : A) → is_out_of_memory fault ≡ is_memory stop → Fails stop (read given) → read ws ≡ Some x → fault ≡ faults.Memory
  failed_only stop fault x m f e = memory fault (m ∙ stopped stop f)
    where
      stopped : (stop : Stop) → Fails stop (read given) → is_memory stop ≡ true
      stopped stops.Memory f = cc
      stopped (stops.Syntax left) f = let both : None ≡ Some x = sym f ∙ ap read same ∙ e in absurd cc
      stopped (stops.TooDeep left) f = let both : None ≡ Some x = sym f ∙ ap read same ∙ e in absurd cc

      memory : (fault : FormulaFault) → is_out_of_memory fault ≡ true → fault ≡ faults.Memory
      memory faults.Memory e = cc
      memory (faults.Syntax at) e = absurd cc
      memory (faults.TooDeep at) e = absurd cc
