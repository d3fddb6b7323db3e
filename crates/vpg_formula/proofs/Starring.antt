-- What the code has read of a formula with `*` and `+` behind it.
use Rattle.std.proofs.Common.{◌≡◌, ℕ, Bool, true, false, cond, List, [], ◌∷◌, ◌++◌, Option, Some, None, refl, sym, ap, ◌∙◌, append_assoc}
use Rattle.std.specs.Prelude.{codes}
use Rattle.std.specs.Str.{bytes_eq}
use Rattle.vpg_formula.specs.declared.mark.Mark.{Mark}
use Rattle.vpg_formula.specs.Regular.{Regular, repeated, repeated_once, is_action}
use Rattle.vpg_formula.specs.Marks.{regular_marks, star_mark}
use Rattle.vpg_formula.specs.Reading.{Read, ◌>>=◌, star_next, starred_by, is_plus, stars_at, starred_with, any_of_with, repetition_with}
use Rattle.vpg_formula.specs.ReadCode.{IsRead}
use Rattle.vpg_formula.proofs.Series.{some, some_is}

-- what is read so far, and what is put
pub record Starring (read : Read Regular) (old new : List Mark) (ws rest : List (List ℕ)) (flag : Bool) : Type 0 where
  pub item : Regular
  pub is : repetition_with read ws ≡ stars_at item rest
  pub put : new ≡ old ++ regular_marks item
  pub tells : flag ≡ is_action item

pub starred_fails : (read : Read Regular) (ws : List (List ℕ)) → any_of_with read ws ≡ None → repetition_with read ws ≡ None
unfolding starred_with
starred_fails read ws e = ap (λ (o : Option (Regular × List (List ℕ))). o >>= λ x. stars_at x.0 x.1) e

pub star_first : (read : Read Regular) (old new : List Mark) (ws rest : List (List ℕ)) (flag : Bool) → IsRead regular_marks is_action old new flag rest (any_of_with read ws) → Starring read old new ws rest flag
unfolding starred_with
star_first read old new ws rest flag r = record {
  item = r.item;
  is = ap (λ (o : Option (Regular × List (List ℕ))). o >>= λ x. stars_at x.0 x.1) r.is;
  put = r.put;
  tells = r.tells;
}

same_rest : (a b : Bool) (ws rest : List (List ℕ)) → some {A = Bool × List (List ℕ)} (a, ws) ≡ some {A = Bool × List (List ℕ)} (b, rest) → ws ≡ rest
same_rest a b ws rest e = ap (λ (p : Bool × List (List ℕ)). p.1) (some_is {A = Bool × List (List ℕ)} (a, ws) (b, rest) e)

same_flag : (a b : Bool) (ws rest : List (List ℕ)) → some {A = Bool × List (List ℕ)} (a, ws) ≡ some {A = Bool × List (List ℕ)} (b, rest) → a ≡ b
same_flag a b ws rest e = ap (λ (p : Bool × List (List ℕ)). p.0) (some_is {A = Bool × List (List ℕ)} (a, ws) (b, rest) e)

star_step : (x : Regular) (ws rest : List (List ℕ)) (plus : Bool) → star_next ws ≡ Some (plus, rest) → stars_at x ws ≡ stars_at (starred_by plus x) rest
unfolding stars_at
star_step x [] rest plus e = absurd cc
star_step x (w ∷ ws) rest plus e = go (bytes_eq w (codes "*")) (is_plus w ws) plus e
  where
    go : (t u plus : Bool) → cond {A = Option (Bool × List (List ℕ))} t (Some (false, ws)) (cond {A = Option (Bool × List (List ℕ))} u (Some (true, ws)) None) ≡ Some (plus, rest)
        → cond t (stars_at (repeated x) ws) (cond u (stars_at (repeated_once x) ws) (Some (x, w ∷ ws))) ≡ stars_at (starred_by plus x) rest
    go true u false e = ap (stars_at (repeated x)) (same_rest false false ws rest e)
    go true u true e = let h : false ≡ true = same_flag false true ws rest e in absurd cc
    go false true true e = ap (stars_at (repeated_once x)) (same_rest true true ws rest e)
    go false true false e = let h : true ≡ false = same_flag true false ws rest e in absurd cc
    go false false plus e = absurd cc

star_stop : (x : Regular) (ws : List (List ℕ)) → star_next ws ≡ None → stars_at x ws ≡ Some (x, ws)
unfolding stars_at
star_stop x [] e = refl
star_stop x (w ∷ ws) e = go (bytes_eq w (codes "*")) (is_plus w ws) e
  where
    go : (t u : Bool) → cond {A = Option (Bool × List (List ℕ))} t (Some (false, ws)) (cond {A = Option (Bool × List (List ℕ))} u (Some (true, ws)) None) ≡ None
        → cond t (stars_at (repeated x) ws) (cond u (stars_at (repeated_once x) ws) (Some (x, w ∷ ws))) ≡ Some (x, w ∷ ws)
    go true u e = absurd cc
    go false true e = absurd cc
    go false false e = refl

star_marks : (plus : Bool) (x : Regular) → regular_marks (starred_by plus x) ≡ regular_marks x ++ star_mark plus ∷ []
star_marks false x = refl
star_marks true x = refl

star_no_action : (plus : Bool) (x : Regular) → false ≡ is_action (starred_by plus x)
star_no_action false x = refl
star_no_action true x = refl

pub star_more : (read : Read Regular) (old new : List Mark) (ws rest left : List (List ℕ)) (flag plus : Bool) → Starring read old new ws rest flag → star_next rest ≡ Some (plus, left)
    → Starring read old (new ++ star_mark plus ∷ []) ws left false
star_more read old new ws rest left flag plus s e = record {
  item = starred_by plus s.item;
  is = s.is ∙ star_step s.item rest left plus e;
  put = ap (λ (t : List Mark). t ++ star_mark plus ∷ []) s.put ∙ append_assoc old (regular_marks s.item) (star_mark plus ∷ []) ∙ ap (λ (t : List Mark). old ++ t) (sym (star_marks plus s.item));
  tells = star_no_action plus s.item;
}

pub star_last : (read : Read Regular) (old new : List Mark) (ws rest : List (List ℕ)) (flag : Bool) → Starring read old new ws rest flag → star_next rest ≡ None → IsRead regular_marks is_action old new flag rest (repetition_with read ws)
star_last read old new ws rest flag s e = record { item = s.item; is = s.is ∙ star_stop s.item rest e; put = s.put; tells = s.tells }
