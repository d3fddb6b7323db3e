-- Tokens by their serials.
use Rattle.std.proofs.Common.{◌≡◌, ℕ, zero, suc, ◌+◌, List, [], ◌∷◌, ◌++◌, length, Some, None, refl, sym, ap, ap₂, ◌∙◌}
use Rattle.std.specs.Prelude.{◌==◌, IfOk, Result, Ok, Err, cond, nat_lt, not, position, slice_get, slice_index_or}
use Rattle.std.specs.List.{position_or_len, remove}
use Rattle.vpg_office.specs.Token.{TokenView as Token}
use Rattle.vpg_engine.specs.Serials.{serials}

pub serials_more : (tokens more : List Token) → serials (tokens ++ more) ≡ serials tokens ++ serials more
serials_more [] more = refl
serials_more (t ∷ tokens) more = ap (λ (ns : List ℕ). t.serial ∷ ns) (serials_more tokens more)

pub serials_length : (tokens : List Token) → length (serials tokens) ≡ length tokens
serials_length [] = refl
serials_length (t ∷ tokens) = ap suc (serials_length tokens)

-- the tokens that are held are as many as their serials
pub further_counted : {E : Type 0} (further : Result ℕ E) (undos redos : List Token) (tokens : ℕ) → IfOk further (λ n. n + length undos + length redos ≡ tokens) →
    IfOk further (λ n. n + length (serials undos) + length (serials redos) ≡ tokens)
further_counted (Err e) undos redos tokens is = tt
further_counted (Ok n) undos redos tokens is = ap₂ (λ (a b : ℕ). n + a + b) (serials_length undos) (serials_length redos) ∙ is

pub serials_removed : (tokens : List Token) (i : ℕ) → serials (remove tokens i) ≡ remove (serials tokens) i
serials_removed [] zero = refl
serials_removed [] (suc i) = refl
serials_removed (t ∷ tokens) zero = refl
serials_removed (t ∷ tokens) (suc i) = ap (λ (ns : List ℕ). t.serial ∷ ns) (serials_removed tokens i)

pub serial_at : (tokens : List Token) (i : ℕ) (token d : Token) → token ≡ slice_index_or tokens i d → (n : ℕ) → n ≡ d.serial → token.serial ≡ slice_index_or (serials tokens) i n
serial_at [] i token d is n e = ap (λ (t : Token). t.serial) is ∙ sym e
serial_at (t ∷ tokens) zero token d is n e = ap (λ (t : Token). t.serial) is
serial_at (t ∷ tokens) (suc i) token d is n e = serial_at tokens i token d is n e

first_serial : (s : ℕ) (tokens : List Token) → position_or_len (λ t. t.serial == s) tokens ≡ position_or_len (λ n. n == s) (serials tokens)
first_serial s [] = refl
first_serial s (t ∷ tokens) = ap (λ (k : ℕ). cond (not (t.serial == s)) (1 + k) 0) (first_serial s tokens)

pub serial_position : (s : ℕ) (tokens : List Token) → position (λ t. t.serial == s) tokens ≡ position (λ n. n == s) (serials tokens)
serial_position s tokens = ap₂ (λ (i k : ℕ). cond (nat_lt i k) (Some i) None) (first_serial s tokens) (sym (serials_length tokens))

pub last_serial : (tokens : List Token) (i : ℕ) (token : Token) → slice_get tokens i ≡ Some token → slice_get (serials tokens) i ≡ Some token.serial
last_serial [] i token is = absurd (cc is)
last_serial (t ∷ tokens) zero token is = let same : t ≡ token = cc is in ap (λ (t : Token). Some t.serial) same
last_serial (t ∷ tokens) (suc i) token is = last_serial tokens i token is
