use Rattle.std.proofs.Common.{◌≡◌, ◌+◌, ◌-◌, ◌≤◌, length, Ok, sym, ap₂, ◌∙◌, arith}
use Rattle.std.proofs.lemmas.Grind.{common_steps}
use Rattle.std.specs.List.{range_with_len}
use Rattle.vpg_diagram.specs.FormView.{texts}
use Rattle.vpg_diagram.proofs.LineLemmas.{children_complete}
use Rattle.vpg_diagram.proofs.ReadCodeLemmas.{place_is, refused_unknown, refused_twice, refused_many, refused_range, length-texts}
use Rattle.vpg_diagram.proofs.reading.add_children.Goals as goal

pub returns-in_default-clause-refused : goal.returns-in_default-clause-refused
returns-in_default-clause-refused c line =
    let names = c.args.names.now in
    refused_unknown names c.args.parent.now (texts c.args.members.now) line c.args.fits (sym (c.get.ensures.index ∙ place_is names c.args.parent.now) ∙ c.in_default.is)

pub returns-then-not-branch-clause-refused : goal.returns-then-not-branch-clause-refused
returns-then-not-branch-clause-refused c line =
    let names = c.args.names.now in
    refused_twice names c.args.parent.now (texts c.args.members.now) line c.args.fits c.in-Some.parent (sym (c.get.ensures.index ∙ place_is names c.args.parent.now) ∙ c.in-Some.is)
    (sym c.in_ok-are_new.ensures ∙ c.if-not-branch.true)

pub returns-then-members-known-clause-refused : goal.returns-then-members-known-clause-refused
returns-then-members-known-clause-refused c line =
    let names = c.args.names.now in
    let known = c.len-known.ensures.len in
    let over = c.if-members-known.true in
    refused_many names c.args.parent.now (texts c.args.members.now) line c.args.fits c.in-Some.parent (sym (c.get.ensures.index ∙ place_is names c.args.parent.now) ∙ c.in-Some.is)
    (sym c.in_ok-are_new.ensures ∙ c.if-not-branch.false) (omega (arith, known, over, length-texts c.args.members.now))

pub returns-then-not-fits-clause-refused : goal.returns-then-not-fits-clause-refused
returns-then-not-fits-clause-refused c line =
    let names = c.args.names.now in
    let known = c.len-known.ensures.len in
    let few = c.len-known.ensures.names.few in
    let room = c.if-members-known.false in
    refused_range names c.args.parent.now (texts c.args.members.now) line c.args.fits c.in-Some.parent (sym (c.get.ensures.index ∙ place_is names c.args.parent.now) ∙ c.in-Some.is)
    (sym c.in_ok-are_new.ensures ∙ c.if-not-branch.false) (omega (arith, known, few, room, length-texts c.args.members.now)) c.if-not-fits.true

pub returns-clause-family : goal.returns-clause-family
returns-clause-family c =
    let names = c.args.names.now in
    let members = texts c.args.members.now in
    let known = c.len-known.ensures.len in
    let few = c.len-known.ensures.names.few in
    let room = c.if-members-known.false in
    let all : length names + length members ≤ 512 = omega (arith, known, few, room, length-texts c.args.members.now) in
    let number : (c.len-known.result + length c.args.members.now) - c.len-known.result ≡ length members = omega (arith, length-texts c.args.members.now) in
    record {
      read = λ line.
          children_complete names c.args.parent.now c.in-Some.parent members line c.args.fits (sym (c.get.ensures.index ∙ place_is names c.args.parent.now) ∙ c.in-Some.is)
          (sym c.in_ok-are_new.ensures ∙ c.if-not-branch.false) all c.if-not-fits.false
          ∙ ap₂ (λ a n. Ok (line c.in-Some.parent (range_with_len a n))) (sym known) (sym number);
      first = known;
      few = all;
      in_range = c.if-not-fits.false;
    }

pub overflow_cast-members-2 : goal.overflow_cast-members-2
overflow_cast-members-2 c = grind (arith, common_steps)

pub overflow_add-members : goal.overflow_add-members
overflow_add-members c = grind (arith, common_steps)

pub overflow_cast-members : goal.overflow_cast-members
overflow_cast-members c = grind (arith, common_steps)

pub returns-clause-names : goal.returns-clause-names
returns-clause-names c = grind (arith, common_steps)
