-- Marks at the front of a text, and steps of reading that found something.
use Rattle.std.proofs.Common.{◌≡◌, ◌≤◌, ℕ, Bool, true, false, cond, List, [], ◌∷◌, ◌++◌, length, take, Option, Some, None, refl, sym, ap, ◌∙◌, inl, inr, ◌⊎◌, arith}
use Rattle.std.specs.Prelude.{◌==◌}
use Rattle.std.specs.List.{prefix_len}
use Rattle.std.proofs.lemmas.Bool.{eqb-true}
use Rattle.std.proofs.lemmas.Bool.Decides.{nat_tests}
use Rattle.std.proofs.lemmas.List.{append-nil}
use Rattle.std.proofs.lemmas.List.Sums.{prefix_len-le-length}
use Rattle.vpg_guards.specs.Grammar.{is_blank, AreBlank}
use Rattle.vpg_guards.specs.Reading.{after_blanks}
use Rattle.vpg_guards.proofs.Blanks.{front_all, front_split, after_blanks_is}
use Rattle.vpg_rules.specs.Reading.{stripped, after_mark, choice}

pub choice_some : {B : Type 0} (o : Option (List ℕ)) (f : List ℕ → Option B) (r : Option B) (y : B) → choice o f r ≡ Some y
    → ((rest : List ℕ) × (o ≡ Some rest) × (f rest ≡ Some y)) ⊎ ((o ≡ None) × (r ≡ Some y))
choice_some None f r y e = inr (refl, e)
choice_some (Some rest) f r y e = inl (rest, refl, e)

abbrev pub some : {A : Type 0} → A → Option A
some x = Some x

pub some_is : {A : Type 0} (x y : A) → some x ≡ some y → x ≡ y
some_is x y e = cc

-- ---- marks

eqb_self : (n : ℕ) → (n == n) ≡ true
eqb_self n = grind (arith, nat_tests)

pub strip_front : (mark rest : List ℕ) → stripped mark (mark ++ rest) ≡ Some rest
strip_front [] rest = refl
strip_front (m ∷ mark) rest = ap (λ (t : Bool). cond t (stripped mark (mark ++ rest)) None) (eqb_self m) ∙ strip_front mark rest

pub strip_is : (mark text rest : List ℕ) → stripped mark text ≡ Some rest → text ≡ mark ++ rest
strip_is [] text rest e = some_is text rest e
strip_is (m ∷ mark) [] rest e = absurd cc
strip_is (m ∷ mark) (b ∷ text) rest e = go (b == m) refl e (strip_is mark text rest)
  where
    go : (t : Bool) → (b == m) ≡ t → cond t (stripped mark text) None ≡ Some rest → (stripped mark text ≡ Some rest → text ≡ mark ++ rest) → b ∷ text ≡ m ∷ (mark ++ rest)
    go true same e later = let here : b ≡ m = eqb-true b m same in let there : text ≡ mark ++ rest = later e in cc
    go false same e later = absurd cc

-- what is found behind a mark
pub record Behind (mark text rest : List ℕ) : Type 0 where
  pub blanks : List ℕ
  pub are : AreBlank blanks
  pub parts : text ≡ blanks ++ (mark ++ rest)

pub mark_behind : (mark text rest : List ℕ) → after_mark mark text ≡ Some rest → Behind mark text rest
mark_behind mark text rest e = record {
  blanks = take (prefix_len is_blank text) text;
  are = front_all is_blank text;
  parts = front_split is_blank text ∙ ap (λ (t : List ℕ). take (prefix_len is_blank text) text ++ t) (strip_is mark (after_blanks text) rest e);
}

-- what is asked of the text behind the blanks
pub mark_next : (mark blanks : List ℕ) (b : ℕ) (rest : List ℕ) → AreBlank blanks → is_blank b ≡ false → after_mark mark (blanks ++ b ∷ rest) ≡ stripped mark (b ∷ rest)
mark_next mark blanks b rest are e = ap (stripped mark) (after_blanks_is blanks (b ∷ rest) are e)

pub no_mark : (m : ℕ) (mark blanks : List ℕ) → AreBlank blanks → after_mark (m ∷ mark) blanks ≡ None
no_mark m mark blanks are = ap (after_mark (m ∷ mark)) (sym (append-nil blanks)) ∙ ap (stripped (m ∷ mark)) (after_blanks_is blanks [] are tt)

-- the front lies within the text
pub front_within : (p : ℕ → Bool) (text : List ℕ) → prefix_len p text ≤ length text
front_within p text = prefix_len-le-length p text
