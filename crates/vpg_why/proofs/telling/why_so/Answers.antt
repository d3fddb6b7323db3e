use Rattle.std.proofs.lemmas.Grind.{common_steps}
use Rattle.std.proofs.Common.{◌≡◌, true, false, refl, arith}
use Rattle.vpg_why.specs.declared.question.Shown.{Shown}
use Rattle.vpg_why.specs.declared.question.Shown.TheVariants as shown
use Rattle.vpg_why.proofs.telling.why_so.Goals as goal

clash : false ≡ true → ⊥
clash e = cc

only_no : (x : Shown) → (x ≡ shown.Yes → ⊥) → (x ≡ shown.Unsettled → ⊥) → x ≡ shown.No
only_no shown.Yes a b = absurd (a refl)
only_no shown.No a b = refl
only_no shown.Unsettled a b = absurd (b refl)

pub returns-in_default-clause-told : goal.returns-in_default-clause-told
returns-in_default-clause-told c = (
  (λ e. absurd (clash e)),
  λ h. absurd ((rw c.decisions.ensures.decisions at c.in_ok-shown.ensures.no)
      (only_no c.in_ok-shown.shown c.in_default.not-Yes (c.in_ok-shown.ensures.settled refl (c.requires.settled (record { budget = 0; rounds = 0; trials = 0 }) _))) h),
)

pub returns-clause-explains : goal.returns-clause-explains
returns-clause-explains c = rw c.decisions-2.ensures.decisions at c.in_ok-found.ensures.explains

pub returns-clause-exact : goal.returns-clause-exact
returns-clause-exact c = c.in_ok-found.ensures.settled refl (λ own among. c.requires.settled (record { budget = 0; rounds = 0; trials = 0 }) own)

pub returns-clause-told : goal.returns-clause-told
returns-clause-told c = grind (arith, common_steps)

pub explain_by-requires-clause-enough : goal.explain_by-requires-clause-enough
explain_by-requires-clause-enough c = grind (arith, common_steps)

pub explain_by-requires-clause-named : goal.explain_by-requires-clause-named
explain_by-requires-clause-named c = grind (arith, common_steps)
