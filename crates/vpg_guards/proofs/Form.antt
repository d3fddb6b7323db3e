-- Joined guards keep the form of a guard.
use Rattle.std.proofs.Common.{refl}
use Rattle.vpg_guards.specs.Formula.{Formula, always, never, feature, negation, all, any, IsGuard, ArePartsOfAll, ArePartsOfAny}
use Rattle.vpg_guards.specs.Grammar.{conjuncts, disjuncts, both, either}
use Rattle.vpg_guards.proofs.Written.{IsPart, several_parts}
use Rattle.vpg_guards.proofs.Readable.{several_joined, all_joined, any_joined}

some_conjunct : (g : Formula) → IsGuard g → IsPart (conjuncts g)
some_conjunct always is = tt
some_conjunct never is = tt
some_conjunct (feature f) is = tt
some_conjunct (negation g) is = tt
some_conjunct (all gs) is = several_parts gs is.0
some_conjunct (any gs) is = tt

conjuncts_are_parts : (g : Formula) → IsGuard g → ArePartsOfAll (conjuncts g)
conjuncts_are_parts always is = (is, refl, tt)
conjuncts_are_parts never is = (is, refl, tt)
conjuncts_are_parts (feature f) is = (is, refl, tt)
conjuncts_are_parts (negation g) is = (is, refl, tt)
conjuncts_are_parts (all gs) is = is.1
conjuncts_are_parts (any gs) is = (is, refl, tt)

some_disjunct : (g : Formula) → IsGuard g → IsPart (disjuncts g)
some_disjunct always is = tt
some_disjunct never is = tt
some_disjunct (feature f) is = tt
some_disjunct (negation g) is = tt
some_disjunct (all gs) is = tt
some_disjunct (any gs) is = several_parts gs is.0

disjuncts_are_parts : (g : Formula) → IsGuard g → ArePartsOfAny (disjuncts g)
disjuncts_are_parts always is = (is, refl, tt)
disjuncts_are_parts never is = (is, refl, tt)
disjuncts_are_parts (feature f) is = (is, refl, tt)
disjuncts_are_parts (negation g) is = (is, refl, tt)
disjuncts_are_parts (all gs) is = (is, refl, tt)
disjuncts_are_parts (any gs) is = is.1

pub both_is_guard : (g h : Formula) → IsGuard g → IsGuard h → IsGuard (both g h)
both_is_guard g h p q =
    (several_joined (conjuncts g) (conjuncts h) (some_conjunct g p) (some_conjunct h q), all_joined (conjuncts g) (conjuncts h) (conjuncts_are_parts g p) (conjuncts_are_parts h q))

pub either_is_guard : (g h : Formula) → IsGuard g → IsGuard h → IsGuard (either g h)
either_is_guard g h p q =
    (several_joined (disjuncts g) (disjuncts h) (some_disjunct g p) (some_disjunct h q), any_joined (disjuncts g) (disjuncts h) (disjuncts_are_parts g p) (disjuncts_are_parts h q))
