use Rattle.std.proofs.Common.{◌≡◌, Bool, true, false, length, sym, ◌∙◌}
use Rattle.std.specs.Global.{Vec}
use Rattle.vpg_sets.specs.Sets.{has}
use Rattle.vpg_why.specs.Found.{IsFoundProduct}
use Rattle.vpg_why.specs.declared.searching.Example.{Example}
use Rattle.vpg_winners.proofs.Samples.{any_found, first_found, one_more, without_last}
use Rattle.vpg_winners.proofs.sampling.examples.Goals as goal

pub loop-features-preserved : goal.loop-features-preserved
loop-features-preserved c =
    let l = c.loop-features in
    let arena = c.args.sets.now in
    let p = c.in-Some.features in
    let both = without_last (λ (q : Vec Bool). (length q.items ≡ arena.features) × (has arena c.args.set q.items ≡ true))
    l.left.items c.pop.new.self.items p c.in-Some.ensures.items l.invariant.left in
    record {
      left = both.0;
      found = λ game diagram aim own each.
          one_more (λ (e : Example). IsFoundProduct game diagram aim own e.features.items e.first) l.found.items
          c.push.new.self.items (record { features = p; first = false }) c.in_ok-push.ensures.items
          (l.invariant.found game diagram aim own each)
          (any_found game diagram aim own arena c.args.set each p.items both.1.0 both.1.1);
    }

pub returns-then-not-eval : goal.returns-then-not-eval
returns-then-not-eval c game diagram aim own each long first =
    c.loop-features.invariant.found game diagram aim own each

pub returns : goal.returns
returns c game diagram aim own each long first =
    let arena = c.args.sets.now in
    let p = c.in_ok-features.features in
    one_more (λ (e : Example). IsFoundProduct game diagram aim own e.features.items e.first)
    c.loop-features.found.items c.push-2.new.self.items (record { features = p; first = true })
    c.in_ok-push-2.ensures.items (c.loop-features.invariant.found game diagram aim own each)
    (rw c.in_ok-features.ensures.items (first_found game diagram aim own arena c.args.set each c.args.first.now long
    (sym c.eval.ensures ∙ c.if-not-eval.false) first))
