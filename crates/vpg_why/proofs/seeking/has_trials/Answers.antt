use Rattle.std.proofs.Common.{◌<◌, length, sym, subst, ◌∙◌, arith}
use Rattle.vpg_why.proofs.Rooms.{cases_more, cases_same, too_many}
use Rattle.vpg_why.proofs.seeking.has_trials.Goals as goal
use Rattle.vpg_why.proofs.seeking.has_trials.Goals.{in-Unknown+else-trials-cases, in_default}

pub returns-then-trials-cases : goal.returns-then-trials-cases
returns-then-trials-cases c enough = absurd (too_many c.args.known.now c.loop-f.f c.loop-f.cases (subst (λ n. c.loop-f.f < n) (sym c.requires) c.loop-f-test.true) c.loop-f.invariant.counted
    c.args.trials (sym c.value-tri.ensures ∙ c.in-Unknown.is) c.if-trials-cases.true enough)

pub loop-f-preserved : goal.loop-f-preserved
loop-f-preserved c =
    let inside : c.loop-f.f < length c.args.known.now = subst (λ n. c.loop-f.f < n) (sym c.requires) c.loop-f-test.true in
    elim c.match-tri.branch [
      | in-Unknown+else-trials-cases w ↦ rw w.cases-is (record {
        counted = cases_more c.args.known.now c.loop-f.f c.loop-f.cases inside c.loop-f.invariant.counted (sym c.value-tri.ensures ∙ w.in-Unknown.is);
        enough = let l = w.if-trials-cases.false in let e = c.loop-f.invariant.enough in omega (arith, l, e);
      })
      | in_default w ↦ rw w.cases-is (record {
        counted = cases_same c.args.known.now c.loop-f.f c.loop-f.cases inside c.loop-f.invariant.counted (λ e. w.in_default.not-Unknown (c.value-tri.ensures ∙ e));
        enough = c.loop-f.invariant.enough;
      })
    ]
