-- Lines that are written piece by piece.
use Rattle.std.proofs.Common.{◌≡◌, ℕ, List, [], ◌∷◌, ◌++◌, ap, ◌∙◌, append_assoc, codes}
use Rattle.vpg_script.specs.Answer.{refused}
use Rattle.vpg_engine.specs.Answers.{line_of}

-- a text, and what is written behind it
pub behind : (before one two text more : List ℕ) → one ≡ before ++ text → two ≡ one ++ more → two ≡ before ++ (text ++ more)
behind before one two text more first rest = rest ∙ ap (λ (bytes : List ℕ). bytes ++ more) first ∙ append_assoc before text more

-- the line of a refusal, of one piece and of two
pub refused_word : (before one two three why : List ℕ) → one ≡ before ++ codes "refused " → two ≡ one ++ why → three ≡ two ++ 10 ∷ [] → three ≡ before ++ (refused why).text
refused_word before one two three why first second last = behind before one three (codes "refused ") (line_of why) first (behind one two three why (10 ∷ []) second last)

pub refused_words : (before one two three four why more : List ℕ) → one ≡ before ++ codes "refused " → two ≡ one ++ why → three ≡ two ++ more → four ≡ three ++ 10 ∷ [] →
    four ≡ before ++ (refused (why ++ more)).text
refused_words before one two three four why more first second third last =
    refused_word before one three four (why ++ more) first (behind one two three why more second third) last
