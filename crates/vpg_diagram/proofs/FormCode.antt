-- Forms of lists of words that the code holds.
use Rattle.std.proofs.Common.{◌≡◌, ℕ, suc, ◌+◌, ◌<◌, ◌≤◌, Bool, true, false, not, ◌&&◌, ◌==◌, nat_lt, cond, List, take, drop, position, ◌⊎◌, inl, inr, one-add, ltb-true, ltb-false, [], ◌∷◌, length, Option, Some, None, codes, bytes_eq, refl, sym, ap, ◌∙◌, subst, arith, Bor}
use Rattle.std.specs.List.{list_all, position_or_len}
use Rattle.std.proofs.lemmas.Bool.{cases_Bool}
use Rattle.std.specs.Str.Parse.{digits_value}
use Rattle.vpg_diagram.specs.DiagramText.{is_numeral, AlternativeLine, OrLine, GroupLine}
use Rattle.vpg_diagram.specs.DiagramReading.{is_feature_name, if_names, plain_form, group_form, at_colon, before_next}
use Rattle.vpg_diagram.specs.FormView.{texts}

pub plain_short : (ws : List (Bor (List ℕ))) → length ws < 2 → None ≡ plain_form (texts ws)
plain_short [] l = refl
plain_short (x ∷ []) l = refl
plain_short (x ∷ y ∷ zs) l = absurd (omega arith)

pub plain_long : (ws : List (Bor (List ℕ))) → 4 ≤ length ws → None ≡ plain_form (texts ws)
plain_long [] l = absurd (omega arith)
plain_long (x ∷ []) l = absurd (omega arith)
plain_long (x ∷ y ∷ []) l = absurd (omega arith)
plain_long (x ∷ y ∷ z ∷ []) l = absurd (omega arith)
plain_long (x ∷ y ∷ z ∷ w ∷ ws) l = refl

pub names_of_texts : (ws : List (Bor (List ℕ))) → list_all (λ w. is_feature_name w.now) ws ≡ list_all is_feature_name (texts ws)
names_of_texts [] = refl
names_of_texts (w ∷ ws) = ap (λ b. is_feature_name w.now && b) (names_of_texts ws)

both : (a b : Bool) → a ≡ true → b ≡ true → (a && b) ≡ true
both a b p q = ap (λ x. x && b) p ∙ q

pub alternative_form : (w p : List ℕ) (ms : List (Bor (List ℕ))) → 0 < length ms → bytes_eq w (codes "alternative") ≡ true → is_feature_name p ≡ true → list_all is_feature_name (texts ms) ≡ true →
    Some (AlternativeLine p (texts ms)) ≡ group_form (w ∷ p ∷ []) (texts ms)
alternative_form w p [] l a n m = absurd (omega arith)
alternative_form w p (c ∷ cs) l a n m =
    sym (ap (λ t. cond t (if_names (p ∷ texts (c ∷ cs)) (AlternativeLine p (texts (c ∷ cs)))) (cond (bytes_eq w (codes "or")) (if_names (p ∷ texts (c ∷ cs)) (OrLine p (texts (c ∷ cs)))) None)) a ∙
    ap (λ t. cond t (Some (AlternativeLine p (texts (c ∷ cs)))) None) (both (is_feature_name p) (list_all is_feature_name (texts (c ∷ cs))) n m))

pub some_items : (n len : ℕ) → n ≡ len → (b : Bool) → b ≡ Rattle.std.specs.Prelude.nat_eq n 0 → b ≡ false → 0 < len
some_items n len l b e f = let ne : n ≡ 0 → ⊥ = Rattle.std.proofs.lemmas.Bool.eqb-false n 0 (sym e ∙ f) in omega (arith, ne, l)

pub range_form : (w p i j : List ℕ) (ms : List (Bor (List ℕ))) → 0 < length ms → bytes_eq w (codes "group") ≡ true → is_numeral i ≡ true → is_numeral j ≡ true → is_feature_name p ≡ true → list_all is_feature_name (texts ms) ≡ true →
    Some (GroupLine p (digits_value 10 i) (digits_value 10 j) (texts ms)) ≡ group_form (w ∷ p ∷ i ∷ j ∷ []) (texts ms)
range_form w p i j [] l a x y n m = absurd (omega arith)
range_form w p i j (c ∷ cs) l a x y n m =
    let form = GroupLine p (digits_value 10 i) (digits_value 10 j) (texts (c ∷ cs)) in
    sym (ap (λ t. cond t (if_names (p ∷ texts (c ∷ cs)) form) None) (both (bytes_eq w (codes "group") && is_numeral i) (is_numeral j) (both (bytes_eq w (codes "group")) (is_numeral i) a x) y) ∙
    ap (λ t. cond t (Some form) None) (both (is_feature_name p) (list_all is_feature_name (texts (c ∷ cs))) n m))

no_members : (head : List (List ℕ)) → group_form head [] ≡ None
no_members head = refl

pub group_short : (hs ms : List (Bor (List ℕ))) → length hs < 2 → None ≡ group_form (texts hs) (texts ms)
group_short [] [] l = refl
group_short [] (m ∷ ms) l = refl
group_short (x ∷ []) [] l = refl
group_short (x ∷ []) (m ∷ ms) l = refl
group_short (x ∷ y ∷ zs) ms l = absurd (omega arith)

pub group_three : (hs ms : List (Bor (List ℕ))) → 3 ≤ length hs → length hs < 4 → None ≡ group_form (texts hs) (texts ms)
group_three [] ms k l = absurd (omega arith)
group_three (x ∷ []) ms k l = absurd (omega arith)
group_three (x ∷ y ∷ []) ms k l = absurd (omega arith)
group_three (x ∷ y ∷ z ∷ []) [] k l = refl
group_three (x ∷ y ∷ z ∷ []) (m ∷ ms) k l = refl
group_three (x ∷ y ∷ z ∷ w ∷ ws) ms k l = absurd (omega arith)

pub group_long : (hs ms : List (Bor (List ℕ))) → 5 ≤ length hs → None ≡ group_form (texts hs) (texts ms)
group_long [] ms k = absurd (omega arith)
group_long (x ∷ []) ms k = absurd (omega arith)
group_long (x ∷ y ∷ []) ms k = absurd (omega arith)
group_long (x ∷ y ∷ z ∷ []) ms k = absurd (omega arith)
group_long (x ∷ y ∷ z ∷ w ∷ []) ms k = absurd (omega arith)
group_long (x ∷ y ∷ z ∷ w ∷ v ∷ vs) [] k = refl
group_long (x ∷ y ∷ z ∷ w ∷ v ∷ vs) (m ∷ ms) k = refl

-- the first colon, by its place
place_here : (b : ℕ) (bs : List ℕ) → (b == 58) ≡ true → position_or_len (λ x. x == 58) (b ∷ bs) ≡ 0
place_here b bs e = ap (λ t. cond (not t) (1 + position_or_len (λ x. x == 58) bs) 0) e

place_later : (b : ℕ) (bs : List ℕ) → (b == 58) ≡ false → position_or_len (λ x. x == 58) (b ∷ bs) ≡ suc (position_or_len (λ x. x == 58) bs)
place_later b bs e = ap (λ t. cond (not t) (1 + position_or_len (λ x. x == 58) bs) 0) e ∙ one-add (position_or_len (λ x. x == 58) bs)

colon_some_at : (bytes : List ℕ) (k : ℕ) → position_or_len (λ x. x == 58) bytes ≡ k → k < length bytes → at_colon bytes ≡ Some (take k bytes, drop (suc k) bytes)
colon_some_at [] k e l = absurd (omega arith)
colon_some_at (b ∷ bs) k e l = go (cases_Bool (b == 58)) (λ j. colon_some_at bs j)
  where
    go : ((b == 58) ≡ true) ⊎ ((b == 58) ≡ false) → ((j : ℕ) → position_or_len (λ x. x == 58) bs ≡ j → j < length bs → at_colon bs ≡ Some (take j bs, drop (suc j) bs)) → at_colon (b ∷ bs) ≡ Some (take k (b ∷ bs), drop (suc k) (b ∷ bs))
    go (inl t) ih =
        let z : 0 ≡ k = sym (place_here b bs t) ∙ e in
        subst (λ (n : ℕ). at_colon (b ∷ bs) ≡ Some (take n (b ∷ bs), drop (suc n) (b ∷ bs))) z
        (ap (λ x. cond x (Some ([], bs)) (before_next b (at_colon bs))) t)
    go (inr f) ih =
        let j = position_or_len (λ x. x == 58) bs in
        let z : suc j ≡ k = sym (place_later b bs f) ∙ e in
        subst (λ (n : ℕ). at_colon (b ∷ bs) ≡ Some (take n (b ∷ bs), drop (suc n) (b ∷ bs))) z
        (ap (λ x. cond x (Some ([], bs)) (before_next b (at_colon bs))) f ∙ ap (before_next b) (ih j refl (omega arith)))

colon_none_at : (bytes : List ℕ) → length bytes ≤ position_or_len (λ x. x == 58) bytes → at_colon bytes ≡ None
colon_none_at [] l = refl
colon_none_at (b ∷ bs) l = go (cases_Bool (b == 58)) (colon_none_at bs)
  where
    go : ((b == 58) ≡ true) ⊎ ((b == 58) ≡ false) → (length bs ≤ position_or_len (λ x. x == 58) bs → at_colon bs ≡ None) → at_colon (b ∷ bs) ≡ None
    go (inl t) ih = absurd (let z = place_here b bs t in omega (arith, z, l))
    go (inr f) ih = ap (λ x. cond x (Some ([], bs)) (before_next b (at_colon bs))) f ∙ ap (before_next b) (ih (let z = place_later b bs f in omega (arith, z, l)))

pub colon_some : (bytes : List ℕ) (k : ℕ) → position (λ x. x == 58) bytes ≡ Some k → at_colon bytes ≡ Some (take k bytes, drop (suc k) bytes)
colon_some bytes k e = go (cases_Bool (nat_lt n (length bytes)))
  where
    n : ℕ
    n = position_or_len (λ x. x == 58) bytes

    go : (nat_lt n (length bytes) ≡ true) ⊎ (nat_lt n (length bytes) ≡ false) → at_colon bytes ≡ Some (take k bytes, drop (suc k) bytes)
    go (inl t) =
        let w : Some n ≡ Some k = sym (ap (λ b. cond b (Some n) None) t) ∙ e in
        let z : n ≡ k = cc in
        colon_some_at bytes k z (subst (λ (x : ℕ). x < length bytes) z (ltb-true n (length bytes) t))
    go (inr f) = let w : ◌≡◌ {A = Option ℕ} None (Some k) = sym (ap (λ b. cond b (Some n) None) f) ∙ e in absurd (cc)

pub colon_none : (bytes : List ℕ) → position (λ x. x == 58) bytes ≡ None → at_colon bytes ≡ None
colon_none bytes e = go (cases_Bool (nat_lt n (length bytes)))
  where
    n : ℕ
    n = position_or_len (λ x. x == 58) bytes

    go : (nat_lt n (length bytes) ≡ true) ⊎ (nat_lt n (length bytes) ≡ false) → at_colon bytes ≡ None
    go (inl t) = let w : ◌≡◌ {A = Option ℕ} (Some n) None = sym (ap (λ b. cond b (Some n) None) t) ∙ e in absurd (cc)
    go (inr f) = colon_none_at bytes (ltb-false n (length bytes) f)
