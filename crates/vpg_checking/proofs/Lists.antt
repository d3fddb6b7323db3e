-- Two lists place by place, two facts of one result, and priorities below the limit.
use Rattle.std.proofs.Common.{◌≡◌, ℕ, zero, suc, ◌<◌, List, [], ◌∷◌, length, get_or, refl, arith}
use Rattle.std.specs.Prelude.{Result, Ok, Err, IfOk}
use Rattle.std.specs.List.{AllZip}
use Rattle.vpg_game.specs.Game.{NamedGame, priorities_of, IsAtLimit}
use Rattle.vpg_model.specs.Pairs.{AreWithin}

module _ {A B : Type 0} (R : A → B → Type 0) where
  pub zip_at : (xs : List A) (ys : List B) (n : ℕ) (d : A) (e : B) → n < length xs → AllZip R xs ys → R (get_or xs n d) (get_or ys n e)
  zip_at [] ys n d e l h = absurd (omega (arith, l))
  zip_at (x ∷ xs) [] n d e l h = absurd h
  zip_at (x ∷ xs) (y ∷ ys) zero d e l h = h.0
  zip_at (x ∷ xs) (y ∷ ys) (suc n) d e l h = zip_at xs ys n d e (omega (arith, l)) h.1

  -- they are as long
  pub zip_length : (xs : List A) (ys : List B) → AllZip R xs ys → length xs ≡ length ys
  zip_length [] [] h = refl
  zip_length [] (y ∷ ys) h = absurd h
  zip_length (x ∷ xs) [] h = absurd h
  zip_length (x ∷ xs) (y ∷ ys) h = omega (arith, zip_length xs ys h.1)

pub both_ok : {T E : Type 0} (r : Result T E) (P Q R : T → Type 0) → ((t : T) → P t → Q t → R t) → IfOk r P → IfOk r Q → IfOk r R
both_ok (Ok t) P Q R h p q = h t p q
both_ok (Err e) P Q R h p q = tt

-- priorities within the limits are not at the limit
pub below_limit : (game : NamedGame) → AreWithin (priorities_of game.vertices) → IsAtLimit game → ⊥
below_limit game within at = absurd (omega (arith, within.0 at.0 65536 at.1, at.2))
