use Rattle.std.proofs.Common.{ℕ, List, map, ◌++◌, sym, ap, ◌∙◌, arith}
use Rattle.std.proofs.lemmas.Grind.{common_steps}
use Rattle.std.specs.Prelude.{codes}
use Rattle.vpg_family.specs.Faults.{shown_byte, fault_text}
use Rattle.vpg_family.proofs.Told.{told_parts, told_as}
use Rattle.vpg_family.proofs.telling.put_fault.Goals as goal

pub returns-in-GameUnreadable : goal.returns-in-GameUnreadable
returns-in-GameUnreadable c =
    told_as c.extend_from_slice-in-GameUnreadable.result c.extend_from_slice-in-GameUnreadable.new.self.items c.args.out.now.items _ _ (ap fault_text c.in-GameUnreadable.is) c.extend_from_slice-in-GameUnreadable.ensures.items

pub returns-in-Read : goal.returns-in-Read
returns-in-Read c =
    told_as c.extend_from_slice-in-Read.result c.extend_from_slice-in-Read.new.self.items c.args.out.now.items _ _ (ap fault_text c.in-Read.is) c.extend_from_slice-in-Read.ensures.items

pub returns-in-ScriptUnreadable : goal.returns-in-ScriptUnreadable
returns-in-ScriptUnreadable c =
    told_as c.extend_from_slice-in-ScriptUnreadable.result c.extend_from_slice-in-ScriptUnreadable.new.self.items c.args.out.now.items _ _ (ap fault_text c.in-ScriptUnreadable.is) c.extend_from_slice-in-ScriptUnreadable.ensures.items

pub returns-in_ok-extend_from_slice-in-Conflict : goal.returns-in_ok-extend_from_slice-in-Conflict
returns-in_ok-extend_from_slice-in-Conflict c = grind (arith, common_steps)

pub returns-in_ok-extend_from_slice-in-Game : goal.returns-in_ok-extend_from_slice-in-Game
returns-in_ok-extend_from_slice-in-Game c = grind (arith, common_steps)

pub returns-in_ok-extend_from_slice-in-Diagram : goal.returns-in_ok-extend_from_slice-in-Diagram
returns-in_ok-extend_from_slice-in-Diagram c = grind (arith, common_steps)

pub returns-in-UnknownFeature : goal.returns-in-UnknownFeature
returns-in-UnknownFeature c =
    told_parts c.put_unknown.result c.put_unknown.new.out.items c.args.out.now.items (codes "UnknownFeature ") (map shown_byte c.as_bytes-in-UnknownFeature.result.now) _
    (ap fault_text c.in-UnknownFeature.is ∙ ap (λ (l : List ℕ). codes "UnknownFeature " ++ map shown_byte l) (sym c.as_bytes-in-UnknownFeature.ensures.value)) c.put_unknown.ensures
