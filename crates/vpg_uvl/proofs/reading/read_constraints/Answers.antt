use Rattle.std.proofs.Common.{◌≡◌, List, ℕ, [], ◌∷◌, ◌++◌, sym, ap, subst, ◌∙◌}
use Rattle.std.specs.List.{AllZip}
use Rattle.vpg_rules.specs.Constraint.{Constraint}
use Rattle.vpg_rules.specs.View.{constraint_of}
use Rattle.vpg_tree.specs.Tree.{Tree}
use Rattle.vpg_uvl.specs.Rows.{Row}
use Rattle.vpg_uvl.specs.Model.{SpellsConstraint}
use Rattle.vpg_uvl.specs.Views.{row_of, rows_left, IsRowFault}
use Rattle.vpg_uvl.proofs.ModelProofs.{row_fault, rows_more, zip_more}
use Rattle.vpg_uvl.proofs.Steps.{same_more}
use Rattle.vpg_uvl.proofs.reading.read_constraints.Goals as goal

pub returns-in-Err-clause-refused : goal.returns-in-Err-clause-refused
returns-in-Err-clause-refused c =
    let i = c.loop-next.invariant in
    let row = row_of c.in-Some.next.row in
    let names_are : c.names.result.now ≡ c.args.tree.now.names = c.names.ensures.names ∙ ap (λ (t : Tree). t.names) i.same in
    row_fault c.args.tree.now.names (rows_left c.args.cursor) i.before (rows_left c.in-Some.next.behind) row c.loop-next.tree.constraints c.in-Err.fault
    (i.parts ∙ ap (λ (rs : List Row). i.before ++ rs) c.in-Some.ensures.some) i.spelled
    (subst (λ (ns : List (List ℕ)). IsRowFault ns row c.in-Err.fault) names_are c.in-Err.ensures.refused)

pub loop-next-preserved : goal.loop-next-preserved
loop-next-preserved c =
    let i = c.loop-next.invariant in
    let row = row_of c.in-Some.next.row in
    let names_are : c.names.result.now ≡ c.args.tree.now.names = c.names.ensures.names ∙ ap (λ (t : Tree). t.names) i.same in
    let added = c.in-Ok-add_constraint.ensures.ok in
    let constraints_are : c.add_constraint.new.self.constraints ≡ c.loop-next.tree.constraints ++ constraint_of c.in-Ok.rule ∷ [] = ap (λ (t : Tree). t.constraints) added in
    let found : SpellsConstraint c.args.tree.now.names row (constraint_of c.in-Ok.rule) = subst (λ (ns : List (List ℕ)). SpellsConstraint ns row (constraint_of c.in-Ok.rule)) names_are c.in-Ok.ensures.found in
    record {
      before = i.before ++ row ∷ [];
      parts = rows_more (rows_left c.args.cursor) i.before (rows_left c.loop-next.left) (rows_left c.in-Some.next.behind) row i.parts c.in-Some.ensures.some;
      spelled = subst (λ (cs : List (Constraint ℕ)). AllZip (SpellsConstraint c.args.tree.now.names) (i.before ++ row ∷ []) cs) (sym constraints_are)
          (zip_more (SpellsConstraint c.args.tree.now.names) i.before c.loop-next.tree.constraints row (constraint_of c.in-Ok.rule) i.spelled found);
      same = same_more c.args.tree.now c.loop-next.tree c.add_constraint.new.self (c.loop-next.tree.constraints ++ constraint_of c.in-Ok.rule ∷ []) i.same added;
      room = c.in-Some.ensures.room;
    }
