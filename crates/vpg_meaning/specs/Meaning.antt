-- The meaning of a written requirement at a state, in the words of its text: paths, runs and sets of states, and no
-- formula of numbered variables. Modalities are those of mCRL2, after Mateescu and Sighireanu 2003. `always`,
-- `possibly` and `inevitably` are AG, EF and AF of CTL (Clarke, Emerson and Sistla 1986), over runs that may also stop.
-- Fixpoints are those of Kozen 1983.
use Rattle.std.specs.Prelude.{◌≡◌, ℕ, ◌⊎◌, List, [], ◌∷◌, Bool, true, false, not, MatchBool, if◌then◌else◌, bytes_eq}
use Rattle.std.specs.List.{list_any}
use Rattle.vpg_requirement.specs.Systems.{PlainSystem}
use Rattle.vpg_requirement.specs.Fixpoints.{StateSet, HoldsAtFixpoint}
use Rattle.vpg_requirement.specs.Words.{IsNext, Leads, ComesTo}
use Rattle.vpg_formula.specs.Written.{Prefix, negated, some_path, every_path, always, never, possibly, inevitably, again_and_again, after, Written, constant, named, deadlock_free, can, will, prefixed, conjunction, disjunction, implication, binding}
use Rattle.vpg_formula.specs.Requirements.{Entry}
use Rattle.vpg_meaning.specs.Paths.{SomePath, EveryPath, IsStepBy, ComesToStep}
use Rattle.vpg_meaning.specs.Translation.{kind_of}

-- the meaning of an earlier entry's name, at a state
abbrev pub Earlier : Type 1
Earlier = List ℕ → ℕ → Type 0

-- The meaning of a name: the state is in the set of the innermost fixpoint of that name, or otherwise the entry's
-- meaning holds.
abbrev pub SaysNamed : Earlier → List (List ℕ × StateSet) → List ℕ → ℕ → Type 0
SaysNamed earlier [] x s = earlier x s
SaysNamed earlier (p ∷ scope) x s = MatchBool (bytes_eq x p.0) (p.1 s ≡ true) (SaysNamed earlier scope x s)

-- the claim on a state, if this stands in front of a fact
abbrev pub SaysBehind : List (List ℕ) → PlainSystem → Prefix → (ℕ → Type 0) → ℕ → Type 0
SaysBehind names system negated P s = P s → ⊥
SaysBehind names system (some_path x) P s = SomePath names system x P s
SaysBehind names system (every_path x) P s = EveryPath names system x P s
SaysBehind names system always P s = (t : ℕ) → Leads system s t → P t
SaysBehind names system never P s = (t : ℕ) → Leads system s t → P t → ⊥
SaysBehind names system possibly P s = (t : ℕ) × Leads system s t × P t
SaysBehind names system inevitably P s = ComesTo system P s
SaysBehind names system again_and_again P s = (t : ℕ) → Leads system s t → ComesTo system P t
SaysBehind names system (after x) P s = (t u : ℕ) → Leads system s t → IsStepBy names system x t u → P u

-- The written form holds at a state, if the fixpoints around have these names and sets, innermost first.
abbrev pub Says : List (List ℕ) → PlainSystem → Earlier → List (List ℕ × StateSet) → Written → ℕ → Type 0
Says names system earlier scope (constant b) s = b ≡ true
Says names system earlier scope (named x) s = SaysNamed earlier scope x s
Says names system earlier scope deadlock_free s = (t : ℕ) → Leads system s t → (u : ℕ) × IsNext system t u
Says names system earlier scope (can x) s = (t : ℕ) × IsStepBy names system x s t
Says names system earlier scope (will x) s = ComesToStep names system x s
Says names system earlier scope (prefixed prefix f) s =
    SaysBehind names system prefix (Says names system earlier scope f) s
Says names system earlier scope (conjunction f g) s =
    Says names system earlier scope f s × Says names system earlier scope g s
Says names system earlier scope (disjunction f g) s =
    Says names system earlier scope f s ⊎ Says names system earlier scope g s
Says names system earlier scope (implication f g) s =
    Says names system earlier scope f s → Says names system earlier scope g s
Says names system earlier scope (binding kind x f) s =
    HoldsAtFixpoint (kind_of kind) system.states (λ set. Says names system earlier ((x, set) ∷ scope) f) s

-- the meaning of the name of this entry, or of an earlier one
abbrev pub with_entry : List (List ℕ) → PlainSystem → Earlier → Entry → Earlier
with_entry names system earlier e x s =
    MatchBool (bytes_eq x e.name) (Says names system earlier [] e.formula s) (earlier x s)

-- the meaning of the names of entries, each of which may name earlier ones
abbrev pub said_behind : List (List ℕ) → PlainSystem → Earlier → List Entry → Earlier
said_behind names system earlier [] x s = earlier x s
said_behind names system earlier (e ∷ entries) x s =
    said_behind names system (with_entry names system earlier e) entries x s

-- before the first entry no name holds anywhere
abbrev pub no_entry : Earlier
no_entry x s = ⊥

-- The written form holds at a state, after these entries.
abbrev pub Holds : List (List ℕ) → PlainSystem → List Entry → Written → ℕ → Type 0
Holds names system entries f s = Says names system (said_behind names system no_entry entries) [] f s

-- ---- well-named requirements

-- two signs are the same
abbrev pub is_same : Bool → Bool → Bool
is_same true b = b
is_same false b = not b

-- Whether the name may stand under this sign: if the innermost fixpoint of that name stands under the same one, or
-- otherwise if there is such an entry. A sign is true under an odd number of negations.
abbrev pub is_known : List (List ℕ) → List (List ℕ × Bool) → Bool → List ℕ → Bool
is_known entries [] sign x = list_any (bytes_eq x) entries
is_known entries (p ∷ scope) sign x =
    if bytes_eq x p.0 then is_same p.1 sign else is_known entries scope sign x

-- the sign after it
abbrev pub sign_behind : Prefix → Bool → Bool
sign_behind negated sign = not sign
sign_behind (some_path x) sign = sign
sign_behind (every_path x) sign = sign
sign_behind always sign = sign
sign_behind never sign = not sign
sign_behind possibly sign = sign
sign_behind inevitably sign = sign
sign_behind again_and_again sign = sign
sign_behind (after x) sign = sign

-- Each name is a variable inside its fixpoint, with an even number of negations between the two, or an earlier entry:
-- `!`, `never` and the left side of `=>` count as negations.
abbrev pub IsWellNamed : List (List ℕ) → List (List ℕ × Bool) → Bool → Written → Type 0
IsWellNamed entries scope sign (constant b) = Unit {0}
IsWellNamed entries scope sign (named x) = is_known entries scope sign x ≡ true
IsWellNamed entries scope sign deadlock_free = Unit {0}
IsWellNamed entries scope sign (can x) = Unit {0}
IsWellNamed entries scope sign (will x) = Unit {0}
IsWellNamed entries scope sign (prefixed prefix f) = IsWellNamed entries scope (sign_behind prefix sign) f
IsWellNamed entries scope sign (conjunction f g) =
    IsWellNamed entries scope sign f × IsWellNamed entries scope sign g
IsWellNamed entries scope sign (disjunction f g) =
    IsWellNamed entries scope sign f × IsWellNamed entries scope sign g
IsWellNamed entries scope sign (implication f g) =
    IsWellNamed entries scope (not sign) f × IsWellNamed entries scope sign g
IsWellNamed entries scope sign (binding kind x f) = IsWellNamed entries ((x, sign) ∷ scope) sign f

-- each entry is well named after those before it, the first of them after entries of these names
abbrev pub AreWellNamed : List (List ℕ) → List Entry → Type 0
AreWellNamed earlier [] = Unit {0}
AreWellNamed earlier (e ∷ entries) =
    IsWellNamed earlier [] false e.formula × AreWellNamed (e.name ∷ earlier) entries

-- the names of entries, the last one first, after earlier ones
abbrev pub names_behind : List (List ℕ) → List Entry → List (List ℕ)
names_behind earlier [] = earlier
names_behind earlier (e ∷ entries) = names_behind (e.name ∷ earlier) entries
