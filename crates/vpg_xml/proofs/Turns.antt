-- Turns of the loops that read values and attributes.
use Rattle.std.proofs.Common.{◌≡◌, ℕ, zero, suc, ◌-◌, ◌<◌, ◌≤◌, Bool, true, false, not, ◌&&◌, ◌||◌, ◌==◌, cond, List, [], ◌∷◌, ◌++◌, length, take, drop, get_or, map, Option, Some, None, refl, sym, ap, subst, ◌∙◌, arith}
use Rattle.std.specs.Prelude.{bytes_eq, IfSome}
use Rattle.std.specs.Borrow.{Bor}
use Rattle.std.specs.List.{list_any}
use Rattle.std.proofs.lemmas.List.{take_all, length-map}
use Rattle.std.proofs.lemmas.Bool.{lt-ltb}
use Rattle.vpg_xml.specs.Elements.{Attribute}
use Rattle.vpg_xml.specs.Tokens.{◌>>=◌, character_at, value_with, has_attribute, attribute_at, is_new, if_new, attributes_with, comment_end}
use Rattle.vpg_xml.specs.View.{attribute_of}
use Rattle.vpg_xml.specs.declared.element.Attribute as code_attribute

same_byte : (a b : ℕ) → a ≡ b → (a == b) ≡ true
same_byte a b e = grind (arith)

other_byte : (a b : ℕ) → (a ≡ b → ⊥) → (a == b) ≡ false
other_byte a b ne = grind (arith)

-- what stands behind the first byte, as a slice
tail_is : (b : ℕ) (text : List ℕ) → take (length (b ∷ text) - 1) (drop 1 (b ∷ text)) ≡ text
tail_is b text = take_all (length (b ∷ text) - 1) text (omega arith)

-- ---- values

pub value_closes : (n q : ℕ) (said r : List ℕ) (d : ℕ) → 1 ≤ length r → length r ≤ n → get_or r 0 d ≡ q →
    Some (said, take (length r - 1) (drop 1 r)) ≡ value_with n q said r
unfolding value_with
value_closes n q said [] d l m e = absurd (omega arith)
value_closes zero q said (b ∷ text) d l m e = absurd (omega arith)
value_closes (suc n) q said (b ∷ text) d l m e = go (b == q) (same_byte b q e)
  where
    go : (t : Bool) → t ≡ true → Some (said, take (length (b ∷ text) - 1) (drop 1 (b ∷ text))) ≡ cond t (Some (said, text)) (character_at q (b ∷ text) >>= λ c. value_with n q (said ++ c.0 ∷ []) c.1)
    go true h = ap (λ (t : List ℕ). Some (said, t)) (tail_is b text)
    go false h = absurd (cc)

pub value_stops : (n q : ℕ) (said r : List ℕ) (d : ℕ) → 1 ≤ length r → length r ≤ n → (get_or r 0 d ≡ q → ⊥) → character_at q r ≡ None →
    None ≡ value_with n q said r
unfolding value_with
value_stops n q said [] d l m ne e = absurd (omega arith)
value_stops zero q said (b ∷ text) d l m ne e = absurd (omega arith)
value_stops (suc n) q said (b ∷ text) d l m ne e =
    sym (ap (λ (t : Bool). cond t (Some (said, text)) (character_at q (b ∷ text) >>= λ c. value_with n q (said ++ c.0 ∷ []) c.1)) (other_byte b q ne)
    ∙ ap (λ (o : Option (ℕ × List ℕ)). o >>= λ c. value_with n q (said ++ c.0 ∷ []) c.1) e)

pub value_goes : (n q : ℕ) (said r : List ℕ) (d c : ℕ) (left : List ℕ) → 1 ≤ length r → length r ≤ n → (get_or r 0 d ≡ q → ⊥) → character_at q r ≡ Some (c, left) →
    value_with n q said r ≡ value_with (n - 1) q (said ++ c ∷ []) left
unfolding value_with
value_goes n q said [] d c left l m ne e = absurd (omega arith)
value_goes zero q said (b ∷ text) d c left l m ne e = absurd (omega arith)
value_goes (suc n) q said (b ∷ text) d c left l m ne e =
    let less : suc n - 1 ≡ n = omega arith in
    ap (λ (t : Bool). cond t (Some (said, text)) (character_at q (b ∷ text) >>= λ c. value_with n q (said ++ c.0 ∷ []) c.1)) (other_byte b q ne)
    ∙ (ap (λ (o : Option (ℕ × List ℕ)). o >>= λ c. value_with n q (said ++ c.0 ∷ []) c.1) e
    ∙ sym (ap (λ (k : ℕ). value_with k q (said ++ c ∷ []) left) less))

pub value_ends : (n q : ℕ) (said r : List ℕ) → length r < 1 → None ≡ value_with n q said r
unfolding value_with
value_ends zero q said r l = refl
value_ends (suc n) q said [] l = refl
value_ends (suc n) q said (b ∷ text) l = absurd (omega arith)

-- ---- attributes

abbrev Attributes : Type 0
Attributes = List Attribute

pub attributes_end : (n size : ℕ) (before : Attributes) (r : List ℕ) → has_attribute r ≡ false → Some (before, r) ≡ attributes_with n size before r
unfolding attributes_with
attributes_end zero size before r h = refl
attributes_end (suc n) size before r h =
    sym (ap (λ (t : Bool). cond t (attribute_at size r >>= λ a. if_new (is_new before a.0.name) (attributes_with n size (before ++ a.0 ∷ []) a.1)) (Some (before, r))) h)

pub attributes_stop : (n size : ℕ) (before : Attributes) (r : List ℕ) → length r ≤ n → has_attribute r ≡ true → attribute_at size r ≡ None →
    None ≡ attributes_with n size before r
unfolding attributes_with
attributes_stop zero size before [] m h e = absurd (cc)
attributes_stop zero size before (b ∷ r) m h e = absurd (omega arith)
attributes_stop (suc n) size before r m h e =
    sym (ap (λ (t : Bool). cond t (attribute_at size r >>= λ a. if_new (is_new before a.0.name) (attributes_with n size (before ++ a.0 ∷ []) a.1)) (Some (before, r))) h
    ∙ ap (λ (o : Option (Attribute × List ℕ)). o >>= λ a. if_new (is_new before a.0.name) (attributes_with n size (before ++ a.0 ∷ []) a.1)) e)

-- one more attribute
attributes_one : (n size : ℕ) (before : Attributes) (r : List ℕ) (a : Attribute) (left : List ℕ) → has_attribute r ≡ true → attribute_at size r ≡ Some (a, left) →
    attributes_with (suc n) size before r ≡ if_new (is_new before a.name) (attributes_with n size (before ++ a ∷ []) left)
unfolding attributes_with
attributes_one n size before r a left h e =
    ap (λ (t : Bool). cond t (attribute_at size r >>= λ a. if_new (is_new before a.0.name) (attributes_with n size (before ++ a.0 ∷ []) a.1)) (Some (before, r))) h
    ∙ ap (λ (o : Option (Attribute × List ℕ)). o >>= λ a. if_new (is_new before a.0.name) (attributes_with n size (before ++ a.0 ∷ []) a.1)) e

pub attributes_again : (n size : ℕ) (before : Attributes) (r : List ℕ) (a : Attribute) (left : List ℕ) → length r ≤ n → has_attribute r ≡ true → attribute_at size r ≡ Some (a, left) → is_new before a.name ≡ false →
    None ≡ attributes_with n size before r
attributes_again zero size before [] a left m h e new = absurd (cc)
attributes_again zero size before (b ∷ r) a left m h e new = absurd (omega arith)
attributes_again (suc n) size before r a left m h e new =
    sym (attributes_one n size before r a left h e ∙ ap (λ (t : Bool). if_new t (attributes_with n size (before ++ a ∷ []) left)) new)

pub attributes_more : (n size : ℕ) (before : Attributes) (r : List ℕ) (a : Attribute) (left : List ℕ) → length r ≤ n → has_attribute r ≡ true → attribute_at size r ≡ Some (a, left) → is_new before a.name ≡ true →
    attributes_with n size before r ≡ attributes_with (n - 1) size (before ++ a ∷ []) left
attributes_more zero size before [] a left m h e new = absurd (cc)
attributes_more zero size before (b ∷ r) a left m h e new = absurd (omega arith)
attributes_more (suc n) size before r a left m h e new =
    let less : suc n - 1 ≡ n = omega arith in
    attributes_one n size before r a left h e ∙ (ap (λ (t : Bool). if_new t (attributes_with n size (before ++ a ∷ []) left)) new
    ∙ sym (ap (λ (k : ℕ). attributes_with k size (before ++ a ∷ []) left) less))

-- whether one of the code's attributes has a name
pub any_of : (xs : List code_attribute.Attribute) (name : List ℕ) → list_any (λ a. bytes_eq a.name name) (map attribute_of xs) ≡ list_any (λ a. bytes_eq a.name.now name) xs
any_of [] name = refl
any_of (x ∷ xs) name = ap (λ (t : Bool). bytes_eq x.name.now name || t) (any_of xs name)

pub new_is : (xs : List code_attribute.Attribute) (name : List ℕ) → length xs < 64 → not (list_any (λ a. bytes_eq a.name.now name) xs) ≡ is_new (map attribute_of xs) name
new_is xs name l =
    let few : length (map attribute_of xs) < 64 = omega (arith, length-map xs attribute_of) in
    ap not (sym (any_of xs name)) ∙ sym (ap (λ (t : Bool). t && not (list_any (λ a. bytes_eq a.name name) (map attribute_of xs))) (lt-ltb (length (map attribute_of xs)) 64 few))

pub comment_ends : (r : List ℕ) → length r < 2 → None ≡ comment_end r
comment_ends [] l = refl
comment_ends (b ∷ []) l = refl
comment_ends (b ∷ c ∷ r) l = absurd (omega arith)

-- what is left of a text is shorter, if something is read
pub shorter_by : {A : Type 0} (o : Option (A × Bor (List ℕ))) (x : A) (left : Bor (List ℕ)) (r : List ℕ) → o ≡ Some (x, left) →
    IfSome o (λ p. length p.1.now < length r) → length left.now < length r
shorter_by {A} o x left r e h = subst (λ (o : Option (A × Bor (List ℕ))). IfSome o (λ p. length p.1.now < length r)) e h
