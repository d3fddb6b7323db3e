-- One turn of a loop over the parts of a guard.
use Rattle.std.proofs.Common.{◌≡◌, ℕ, Bool, true, false, cond, List, [], ◌∷◌, ◌++◌, sym, ap, ◌∙◌, append_assoc}
use Rattle.std.proofs.lemmas.List.{append-nil}

-- a part is written behind its sign, the first without one
pub written_on : (first : Bool) (out mid written whole sign one rest : List ℕ)
    → out ++ cond first (one ++ rest) (sign ++ one ++ rest) ≡ whole → mid ≡ out ++ cond first [] sign → written ≡ mid ++ one → written ++ rest ≡ whole
written_on true out mid written whole sign one rest h m w =
    let regrouped : ((out ++ []) ++ one) ++ rest ≡ out ++ (one ++ rest) = simp (append_assoc, append-nil) in
    ap (λ (x : List ℕ). x ++ rest) (w ∙ ap (λ (x : List ℕ). x ++ one) m) ∙ regrouped ∙ h
written_on false out mid written whole sign one rest h m w =
    let regrouped : ((out ++ sign) ++ one) ++ rest ≡ out ++ (sign ++ one ++ rest) = simp append_assoc in
    ap (λ (x : List ℕ). x ++ rest) (w ∙ ap (λ (x : List ℕ). x ++ one) m) ∙ regrouped ∙ h

-- nothing is left to write
pub all_written : (first : Bool) (out whole : List ℕ) → out ++ cond first [] [] ≡ whole → out ≡ whole
all_written true out whole h = sym (append-nil out) ∙ h
all_written false out whole h = sym (append-nil out) ∙ h

-- a text behind its sign
pub behind_sign : (sign : ℕ) (out mid written text : List ℕ) → mid ≡ out ++ sign ∷ [] → written ≡ mid ++ text → written ≡ out ++ sign ∷ text
behind_sign sign out mid written text m w = w ∙ ap (λ (x : List ℕ). x ++ text) m ∙ simp append_assoc
