-- What is shown is one thing and no other.
use Rattle.std.proofs.Common.{◌≡◌}
use Rattle.vpg_why.specs.declared.question.Shown.TheVariants.{Yes, No, Unsettled}

pub yes_no : Yes ≡ No → ⊥
yes_no e = cc

pub yes_unsettled : Yes ≡ Unsettled → ⊥
yes_unsettled e = cc

pub no_yes : No ≡ Yes → ⊥
no_yes e = cc

pub no_unsettled : No ≡ Unsettled → ⊥
no_unsettled e = cc

pub unsettled_yes : Unsettled ≡ Yes → ⊥
unsettled_yes e = cc

pub unsettled_no : Unsettled ≡ No → ⊥
unsettled_no e = cc
