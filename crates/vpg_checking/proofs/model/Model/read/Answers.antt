use Rattle.std.proofs.Common.{◌≢◌, List, ℕ, length, map, sym, ap, subst, ◌∙◌}
use Rattle.std.proofs.lemmas.Result.{err_from_is_err_and}
use Rattle.vpg_system.specs.SystemText.{NamedSystem, IsTextOf}
use Rattle.vpg_system.specs.TextFaults.{IsFirstFault}
use Rattle.vpg_system.specs.declared.fault.SystemFault.TheVariants.{Memory}
use Rattle.vpg_part_texts.specs.SetTexts.{set_text}
use Rattle.vpg_model.specs.Laws.{AreOfSystem}
use Rattle.vpg_model.specs.Sources.{system_of}
use Rattle.vpg_checking.proofs.Lists.{both_ok}
use Rattle.vpg_checking.proofs.Refused.{system_refused}
use Rattle.vpg_checking.proofs.model.Model.read.Goals as goal

pub returns-in_err-system-clause-refused : goal.returns-in_err-system-clause-refused
returns-in_err-system-clause-refused c =
    let p = err_from_is_err_and c.from_residual.result c.from_residual.ensures.1 in
    let text = c.args.system.now in
    let fault = c.in_err-system.field-0.0 in
    rw (p.1, p.2) (system_refused c.args.diagram.now.names text c.args.requirements.now fault
    (subst (λ (names : List (List ℕ)). IsFirstFault names text fault) c.names.ensures.names c.in_err-system.ensures.fault)
    (subst (λ (names : List (List ℕ)). fault ≢ Memory → (s : NamedSystem) → IsTextOf names text s → ⊥) c.names.ensures.names c.in_err-system.ensures.refused))

pub returns-clause-found : goal.returns-clause-found
returns-clause-found c = both_ok c.of.result _ _ _
    (λ model spelled models. record {
      system = c.in_ok-system.system;
      is_system = subst (λ (names : List (List ℕ)). IsTextOf names c.args.system.now c.in_ok-system.system) c.names.ensures.names c.in_ok-system.ensures.found;
      entries = spelled.0;
      are_entries = spelled.1;
      model = models c.args.diagram.now.lines spelled.0 spelled.1;
    })
    c.of.ensures.spelled c.of.ensures.model

pub returns-clause-sets : goal.returns-clause-sets
returns-clause-sets c = both_ok c.of.result _ _ _
    (λ model sets same s is. sets ∙ ap (λ (t : NamedSystem). map (set_text t.actions) model.source.sets.items)
    (c.in_ok-system.ensures.only s (subst (λ (names : List (List ℕ)). IsTextOf names c.args.system.now s) (sym c.names.ensures.names) is)))
    c.of.ensures.sets c.of.ensures.sets

pub returns-clause-actions : goal.returns-clause-actions
returns-clause-actions c = both_ok c.of.result _ _ _
    (λ model actions same s is. actions ∙ ap (λ (t : NamedSystem). t.actions)
    (c.in_ok-system.ensures.only s (subst (λ (names : List (List ℕ)). IsTextOf names c.args.system.now s) (sym c.names.ensures.names) is)))
    c.of.ensures.actions c.of.ensures.actions

pub returns-clause-system : goal.returns-clause-system
returns-clause-system c = both_ok c.of.result _ _ _
    (λ model of_system same s is. subst (λ (t : NamedSystem). AreOfSystem (length t.actions) (system_of t) model.source.states.items t.first)
    (c.in_ok-system.ensures.only s (subst (λ (names : List (List ℕ)). IsTextOf names c.args.system.now s) (sym c.names.ensures.names) is)) of_system)
    c.of.ensures.system c.of.ensures.system
