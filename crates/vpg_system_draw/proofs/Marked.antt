-- Lists that grow by recursion, and steps from a state.
use Rattle.std.proofs.Common.{◌≡◌, ℕ, suc, ◌+◌, ◌&&◌, ◌||◌, ◌==◌, Bool, true, false, List, [], ◌∷◌, ◌++◌, refl, sym, ap, ◌∙◌, add-one}
use Rattle.std.specs.List.{list_any}
use Rattle.vpg_system_draw.specs.Traced.{takes}
use Rattle.vpg_system_draw.specs.declared.marks.Step.{Step}

-- a list by recursion over the numbers below n, and one more of them
pub listed_by : {A : Type 0} (list : ℕ → List A) (piece : List A) (n : ℕ) (b c : List A) → list (suc n) ≡ list n ++ piece → b ≡ list n → c ≡ b ++ piece → c ≡ list (n + 1)
listed_by {A} list piece n b c s e f = rw add-one (f ∙ (ap (λ (t : List A). t ++ piece) e ∙ sym s))

-- ---- steps

not_first : (a b c d : Bool) → (a || c) ≡ false → (c ≡ false → d ≡ false) → ((a && b) || d) ≡ false
not_first true b c d e f = absurd (cc)
not_first false b c d e f = f e

-- where no step leaves a state, none takes a transition from there
pub none_takes : (steps : List Step) (state place : ℕ) → list_any (λ s. s.state == state) steps ≡ false → takes steps state place ≡ false
none_takes [] state place e = refl
none_takes (s ∷ steps) state place e =
    not_first (s.state == state) (s.place == place) (list_any (λ t. t.state == state) steps) (takes steps state place) e (none_takes steps state place)
