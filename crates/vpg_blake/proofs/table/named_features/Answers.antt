use Rattle.std.proofs.Common.{◌∙◌, arith}
use Rattle.vpg_blake.proofs.Steps.{found_more, passed_more}
use Rattle.vpg_blake.proofs.table.named_features.Goals as goal
use Rattle.vpg_blake.proofs.table.named_features.Goals.{in-Some+in_ok-push, in_default}

pub loop-feature-preserved : goal.loop-feature-preserved
loop-feature-preserved c =
    let l = c.loop-feature in
    elim c.match-find_feature.branch [
      | in-Some+in_ok-push w ↦
          rw w.ascending-is (found_more c.push_features.new.features.items c.deref.result.now l.feature c.args.features c.find_feature.result
          c.deref.ensures.value c.find_feature.ensures (omega arith) w.in-Some.one l.ascending.items w.push.new.self.items w.in-Some.is w.in_ok-push.ensures.items ∙ l.invariant)
      | in_default w ↦
          rw w.ascending-is (passed_more c.push_features.new.features.items c.deref.result.now l.feature c.args.features c.find_feature.result
          c.deref.ensures.value c.find_feature.ensures (omega arith) l.ascending.items w.in_default.is ∙ l.invariant)
    ]
