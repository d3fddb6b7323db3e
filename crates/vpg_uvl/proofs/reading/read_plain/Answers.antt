use Rattle.std.proofs.Common.{◌≡◌, Ok, sym, ap, subst, ◌∙◌}
use Rattle.vpg_uvl.specs.Rows.{rows}
use Rattle.vpg_uvl.specs.Model.{features_after}
use Rattle.vpg_uvl.specs.Views.{rows_left, features_in, IsReadingFault}
use Rattle.vpg_uvl.proofs.ModelProofs.{model_found, model_only, no_features_fault, no_fault_behind, fault_before, fault_behind, rows_without}
use Rattle.vpg_uvl.proofs.reading.read_plain.Goals as goal

pub returns-in-Ok-with_constraints-clause-found : goal.returns-in-Ok-with_constraints-clause-found
returns-in-Ok-with_constraints-clause-found c =
    let f = c.in-Ok.features in
    let read : features_after (rows c.args.text.now) ≡ Ok (features_in f) = ap features_after (rows_without c.args.text.now c.args.bytes.now c.requires.plain) ∙ c.in-Ok.ensures.features in
    model_found c.args.text.now f.tree c.in-Ok-with_constraints.tree (rows_left f.behind) c.requires.closed read c.in-Ok.ensures.none c.in-Ok-with_constraints.ensures.read

pub returns-in-Ok-with_constraints-clause-only : goal.returns-in-Ok-with_constraints-clause-only
returns-in-Ok-with_constraints-clause-only c tree spells =
    let f = c.in-Ok.features in
    let read : features_after (rows c.args.text.now) ≡ Ok (features_in f) = ap features_after (rows_without c.args.text.now c.args.bytes.now c.requires.plain) ∙ c.in-Ok.ensures.features in
    model_only c.args.text.now f.tree c.in-Ok-with_constraints.tree tree (rows_left f.behind) read c.in-Ok-with_constraints.ensures.read spells

pub returns-in-Err-with_constraints-clause-only : goal.returns-in-Err-with_constraints-clause-only
returns-in-Err-with_constraints-clause-only c tree spells =
    let f = c.in-Ok.features in
    let read : features_after (rows c.args.text.now) ≡ Ok (features_in f) = ap features_after (rows_without c.args.text.now c.args.bytes.now c.requires.plain) ∙ c.in-Ok.ensures.features in
    no_fault_behind c.args.text.now f.tree tree (rows_left f.behind) c.in-Err-with_constraints.fault read spells c.in-Err-with_constraints.ensures.refused

pub returns-in-Err-with_constraints-clause-fault : goal.returns-in-Err-with_constraints-clause-fault
returns-in-Err-with_constraints-clause-fault c =
    let f = c.in-Ok.features in
    let read : features_after (rows c.args.text.now) ≡ Ok (features_in f) = ap features_after (rows_without c.args.text.now c.args.bytes.now c.requires.plain) ∙ c.in-Ok.ensures.features in
    fault_behind c.args.text.now (features_in f) c.in-Err-with_constraints.fault c.requires.closed read c.in-Err-with_constraints.ensures.refused

pub returns-in-Err-clause-only : goal.returns-in-Err-clause-only
returns-in-Err-clause-only c tree spells =
    let refused = subst (λ r. IsReadingFault (features_after r) c.in-Err.fault) (sym (rows_without c.args.text.now c.args.bytes.now c.requires.plain)) c.in-Err.ensures.refused in
    no_features_fault c.args.text.now tree c.in-Err.fault spells refused

pub returns-in-Err-clause-fault : goal.returns-in-Err-clause-fault
returns-in-Err-clause-fault c =
    let refused = subst (λ r. IsReadingFault (features_after r) c.in-Err.fault) (sym (rows_without c.args.text.now c.args.bytes.now c.requires.plain)) c.in-Err.ensures.refused in
    fault_before c.args.text.now c.in-Err.fault c.requires.closed refused
