-- Headers as lists of words that the code holds.
use Rattle.std.proofs.Common.{◌≡◌, ℕ, ◌<◌, ◌≤◌, List, [], ◌∷◌, length, get_or, Option, None, refl, sym, ap, ◌∙◌, true, cond, codes, bytes_eq, arith, Bor}
use Rattle.vpg_system.specs.SystemText.{Header}
use Rattle.vpg_system.specs.SystemReading.{header_in, make_header, source_of, middle_of, target_of}
use Rattle.vpg_system.specs.SystemView.{texts}

pub header_short : (ws : List (Bor (List ℕ))) → length ws < 8 → None ≡ header_in (texts ws)
header_short [] l = refl
header_short (x0 ∷ []) l = refl
header_short (x0 ∷ x1 ∷ []) l = refl
header_short (x0 ∷ x1 ∷ x2 ∷ []) l = refl
header_short (x0 ∷ x1 ∷ x2 ∷ x3 ∷ []) l = refl
header_short (x0 ∷ x1 ∷ x2 ∷ x3 ∷ x4 ∷ []) l = refl
header_short (x0 ∷ x1 ∷ x2 ∷ x3 ∷ x4 ∷ x5 ∷ []) l = refl
header_short (x0 ∷ x1 ∷ x2 ∷ x3 ∷ x4 ∷ x5 ∷ x6 ∷ []) l = refl
header_short (x0 ∷ x1 ∷ x2 ∷ x3 ∷ x4 ∷ x5 ∷ x6 ∷ x7 ∷ ws) l = absurd (omega arith)

pub header_long : (ws : List (Bor (List ℕ))) → 9 ≤ length ws → None ≡ header_in (texts ws)
header_long [] l = absurd (omega arith)
header_long (x0 ∷ []) l = absurd (omega arith)
header_long (x0 ∷ x1 ∷ []) l = absurd (omega arith)
header_long (x0 ∷ x1 ∷ x2 ∷ []) l = absurd (omega arith)
header_long (x0 ∷ x1 ∷ x2 ∷ x3 ∷ []) l = absurd (omega arith)
header_long (x0 ∷ x1 ∷ x2 ∷ x3 ∷ x4 ∷ []) l = absurd (omega arith)
header_long (x0 ∷ x1 ∷ x2 ∷ x3 ∷ x4 ∷ x5 ∷ []) l = absurd (omega arith)
header_long (x0 ∷ x1 ∷ x2 ∷ x3 ∷ x4 ∷ x5 ∷ x6 ∷ []) l = absurd (omega arith)
header_long (x0 ∷ x1 ∷ x2 ∷ x3 ∷ x4 ∷ x5 ∷ x6 ∷ x7 ∷ []) l = absurd (omega arith)
header_long (x0 ∷ x1 ∷ x2 ∷ x3 ∷ x4 ∷ x5 ∷ x6 ∷ x7 ∷ x8 ∷ ws) l = refl

-- the words of a header, by its numerals
header_words : (w o f c t d s e : List ℕ) (a b z : Option (List ℕ)) → bytes_eq w (codes "des") ≡ true →
    a ≡ source_of o f c → b ≡ middle_of c t d → z ≡ target_of d s e →
    make_header a b z ≡ header_in (w ∷ o ∷ f ∷ c ∷ t ∷ d ∷ s ∷ e ∷ [])
header_words w o f c t d s e a b z same i j k =
    rw (i, j, k) (sym (ap (λ x. cond x (make_header (source_of o f c) (middle_of c t d) (target_of d s e)) None) same))

pub eight_words : (ws : List (Bor (List ℕ))) (d : Bor (List ℕ)) (a b z : Option (List ℕ)) (r : Option Header) → 8 ≤ length ws → length ws < 9 →
    bytes_eq (get_or ws 0 d).now (codes "des") ≡ true → a ≡ source_of (get_or ws 1 d).now (get_or ws 2 d).now (get_or ws 3 d).now →
    b ≡ middle_of (get_or ws 3 d).now (get_or ws 4 d).now (get_or ws 5 d).now → z ≡ target_of (get_or ws 5 d).now (get_or ws 6 d).now (get_or ws 7 d).now →
    r ≡ make_header a b z → r ≡ header_in (texts ws)
eight_words [] d a b z r m l e i j k n = absurd (omega arith)
eight_words (x0 ∷ []) d a b z r m l e i j k n = absurd (omega arith)
eight_words (x0 ∷ x1 ∷ []) d a b z r m l e i j k n = absurd (omega arith)
eight_words (x0 ∷ x1 ∷ x2 ∷ []) d a b z r m l e i j k n = absurd (omega arith)
eight_words (x0 ∷ x1 ∷ x2 ∷ x3 ∷ []) d a b z r m l e i j k n = absurd (omega arith)
eight_words (x0 ∷ x1 ∷ x2 ∷ x3 ∷ x4 ∷ []) d a b z r m l e i j k n = absurd (omega arith)
eight_words (x0 ∷ x1 ∷ x2 ∷ x3 ∷ x4 ∷ x5 ∷ []) d a b z r m l e i j k n = absurd (omega arith)
eight_words (x0 ∷ x1 ∷ x2 ∷ x3 ∷ x4 ∷ x5 ∷ x6 ∷ []) d a b z r m l e i j k n = absurd (omega arith)
eight_words (x0 ∷ x1 ∷ x2 ∷ x3 ∷ x4 ∷ x5 ∷ x6 ∷ x7 ∷ []) d a b z r m l e i j k n = n ∙ header_words x0.now x1.now x2.now x3.now x4.now x5.now x6.now x7.now a b z e i j k
eight_words (x0 ∷ x1 ∷ x2 ∷ x3 ∷ x4 ∷ x5 ∷ x6 ∷ x7 ∷ x8 ∷ ws) d a b z r m l e i j k n = absurd (omega arith)
