use Rattle.std.proofs.Common.{List, refl, ap, arith}
use Rattle.vpg_diagram.specs.declared.clause.Literal.{Literal}
use Rattle.vpg_winners.specs.Winners.{view_of, views}
use Rattle.vpg_winners.proofs.Mates.{part_place, put_joined, put_alone}
use Rattle.vpg_winners.proofs.Numbers.{numbers_joined, numbers_pushed}
use Rattle.vpg_winners.proofs.joining.put.Goals as goal

pub remove-requires : goal.remove-requires
remove-requires c =
    let within = part_place (views c.deref.result.now) (view_of c.joining.part) c.in-Some.mate.place
    c.in-Some.mate.literal c.in-Some.ensures.some in
    omega (arith, within, c.joining.part.literals.ok.0)

pub joining-preserved : goal.joining-preserved
joining-preserved c = record {
  made = λ new put. c.joining.invariant.made new (put_joined c.joining.parts.items c.remove-taken.new.self.items
      c.joining.part c.in-Some.mate.place c.in-Some.mate.literal
      (record { winner = c.joining.part.winner; literals = c.remove.new.self; number = c.in_ok-number.number }) new
      (rw c.deref.ensures.value at c.in-Some.ensures.some) c.remove-taken.ensures.items
      (ap (λ (ls : List Literal). record { winner = c.joining.part.winner; literals = ls }) c.remove.ensures.items)
      put);
  numbers = λ measure adds many one.
      let n = c.joining.invariant.numbers measure adds many one in
      numbers_joined measure c.joining.parts.items c.remove-taken.new.self.items c.joining.part c.remove-taken.result
      (record { winner = c.joining.part.winner; literals = c.remove.new.self; number = c.in_ok-number.number })
      c.in-Some.mate.place c.in-Some.mate.literal adds (rw c.deref.ensures.value at c.in-Some.ensures.some)
      c.remove-taken.ensures.value c.remove-taken.ensures.items c.in_ok-number.ensures
      (ap (λ (ls : List Literal). record { winner = c.joining.part.winner; literals = ls }) c.remove.ensures.items)
      n.0 n.1;
}

pub joining-preserved-in_ok-number : goal.joining-preserved-in_ok-number
joining-preserved-in_ok-number c = record {
  made = λ new put. c.joining.invariant.made new (put_joined c.joining.parts.items c.remove-taken.new.self.items
      c.joining.part c.in-Some.mate.place c.in-Some.mate.literal
      (record { winner = c.joining.part.winner; literals = c.remove.new.self; number = c.in_ok-number.number }) new
      (rw c.deref.ensures.value at c.in-Some.ensures.some) c.remove-taken.ensures.items
      (ap (λ (ls : List Literal). record { winner = c.joining.part.winner; literals = ls }) c.remove.ensures.items)
      put);
  numbers = λ measure adds many one.
      let n = c.joining.invariant.numbers measure adds many one in
      numbers_joined measure c.joining.parts.items c.remove-taken.new.self.items c.joining.part c.remove-taken.result
      (record { winner = c.joining.part.winner; literals = c.remove.new.self; number = c.in_ok-number.number })
      c.in-Some.mate.place c.in-Some.mate.literal adds (rw c.deref.ensures.value at c.in-Some.ensures.some)
      c.remove-taken.ensures.value c.remove-taken.ensures.items c.in_ok-number.ensures
      (ap (λ (ls : List Literal). record { winner = c.joining.part.winner; literals = ls }) c.remove.ensures.items)
      n.0 n.1;
}

pub returns-clause-put : goal.returns-clause-put
returns-clause-put c = c.joining.invariant.made (views c.push.new.self.items) (put_alone c.joining.parts.items c.push.new.self.items
    c.joining.part c.in_ok-push.ensures.items (rw c.deref.ensures.value at (c.in_default.ensures.none refl)))

pub returns-clause-numbers : goal.returns-clause-numbers
returns-clause-numbers c = λ measure adds many one.
    let n = c.joining.invariant.numbers measure adds many one in
    numbers_pushed measure c.joining.parts.items c.push.new.self.items c.joining.part c.in_ok-push.ensures.items n.0 n.1
