use Rattle.std.proofs.Common.{◌≡◌, ℕ, ◌+◌, ◌≤◌, List, ◌++◌, length, length-drop, ◌-◌, take, drop, ap, sym, ◌∙◌, arith, subst}
use Rattle.std.proofs.Math.Seq.{take-add}
use Rattle.std.proofs.lemmas.List.{take_rest}
use Rattle.vpg_script.proofs.DeviceLemmas.{appended_more}
use Rattle.vpg_script.proofs.device.DeviceSink.put.Goals as goal

pub loop-at-preserved : goal.loop-at-preserved
loop-at-preserved g c =
    let bytes = c.args.bytes.now in
    let at = c.loop-at.at in
    let rest : take (length bytes - at) (drop at bytes) ≡ drop at bytes = take_rest bytes at in
    let room : c.in-Ok.n ≤ length (drop at bytes) = subst (λ (r : List ℕ). c.in-Ok.n ≤ length r) rest c.in-Ok.ensures.bound in
    record {
      within = omega (arith, c.loop-at.invariant.within, room, length-drop at bytes);
      appended = appended_more (g.W.Write.contents c.args.self.now.inner) (g.W.Write.contents c.loop-at.self.inner) (g.W.Write.contents c.write.new.self)
          (take at bytes) (take c.in-Ok.n (take (length bytes - at) (drop at bytes))) (take (at + c.in-Ok.n) bytes)
          (take-add at c.in-Ok.n bytes ∙ ap (λ (r : List ℕ). take at bytes ++ take c.in-Ok.n r) (sym rest)) c.loop-at.invariant.appended c.in-Ok.ensures.bytes;
      same = c.loop-at.invariant.same;
    }
