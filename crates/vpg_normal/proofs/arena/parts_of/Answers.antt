use Rattle.std.proofs.Common.{◌∙◌, ap, length}
use Rattle.vpg_normal.proofs.Formed.{IsMade, roots_stand, as_many_starts}
use Rattle.vpg_normal.proofs.arena.parts_of.Goals as goal

pub returns-clause-roots : goal.returns-clause-roots
returns-clause-roots c = ap length c.in_ok-symbols.ensures.roots ∙ as_many_starts 2 c.args.forms.now

pub returns-clause-stand : goal.returns-clause-stand
returns-clause-stand c =
    let made : IsMade c.in_ok-symbols.field-0.symbols.items c.in_ok-sizes.sizes.items c.in_ok-scopes.scopes.items c.in_ok-fixpoints.fixpoints.items c.in_ok-priorities.priorities.items c.in_ok-parts.parts.items = record {
      sizes_are = rw c.deref.ensures.value at c.in_ok-sizes.ensures;
      scopes_are = rw c.deref-2.ensures.value at c.in_ok-scopes.ensures;
      fixpoints_are = rw (c.deref-3.ensures.value, c.deref-4.ensures.value) at c.in_ok-fixpoints.ensures;
      priorities_are = rw (c.deref-5.ensures.value, c.deref-6.ensures.value, c.deref-7.ensures.value, c.deref-8.ensures.value) at c.in_ok-priorities.ensures;
      parts_are = rw (c.deref-9.ensures.value, c.deref-10.ensures.value, c.deref-11.ensures.value, c.deref-12.ensures.value) at c.in_ok-parts.ensures;
    } in
    λ actions fs spelled closed. roots_stand actions c.in_ok-symbols.field-0.symbols.items c.in_ok-sizes.sizes.items c.in_ok-scopes.scopes.items c.in_ok-fixpoints.fixpoints.items c.in_ok-priorities.priorities.items c.in_ok-parts.parts.items made
    c.args.forms.now fs c.in_ok-symbols.field-0.roots.items c.in_ok-symbols.ensures.symbols c.in_ok-symbols.ensures.roots spelled closed
