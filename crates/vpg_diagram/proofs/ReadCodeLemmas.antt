-- Names that the code keeps.
use Rattle.std.proofs.Common.{◌≡◌, ℕ, suc, ◌+◌, ◌<◌, ◌≤◌, Bool, true, false, not, ◌&&◌, ◌||◌, cond, nat_lt, List, [], ◌∷◌, ◌++◌, length, take, drop, get_or, Option, Some, None, option_map, is_some, position, bytes_eq, Bor, ◌⊎◌, inl, inr, refl, sym, ap, ap₂, ◌∙◌, arith, one-add, append_assoc}
use Rattle.std.proofs.Common.{nat_le, Result, Ok, Err}
use Rattle.std.specs.List.{position_or_len, range_with_len, list_any}
use Rattle.std.proofs.lemmas.List.{take_more, map-append}
use Rattle.std.proofs.lemmas.Bool.{le-leb, lt-leb}
use Rattle.vpg_diagram.specs.FeatureDiagram.{Line}
use Rattle.std.proofs.lemmas.Bool.{cases_Bool, ltb-true, ltb-false, lt-ltb, le-ltb}
use Rattle.std.proofs.lemmas.List.{at_drop_more}
use Rattle.vpg_diagram.specs.DiagramReading.{LineFault, UnknownFeature, TwoParents, TooMany, BadRange, checked, children_at, rule_at, place_of_name, are_new}
use Rattle.vpg_diagram.specs.FormView.{texts}

pub place_is : (names : List (List ℕ)) (w : List ℕ) → position (λ n. bytes_eq w n) names ≡ place_of_name names w
place_is [] w = refl
place_is (n ∷ ns) w = go (cases_Bool (bytes_eq w n)) (place_is ns w)
  where
    k : ℕ
    k = position_or_len (λ x. bytes_eq w x) ns

    here : ℕ
    here = position_or_len (λ x. bytes_eq w x) (n ∷ ns)

    at_place : (j : ℕ) → here ≡ j → (b : Bool) → nat_lt j (length (n ∷ ns)) ≡ b → position (λ x. bytes_eq w x) (n ∷ ns) ≡ cond b (Some j) None
    at_place j e b f = ap (λ x. cond (nat_lt x (length (n ∷ ns))) (Some x) None) e ∙ ap (λ t. cond t (Some j) None) f

    go : (bytes_eq w n ≡ true) ⊎ (bytes_eq w n ≡ false) → position (λ x. bytes_eq w x) ns ≡ place_of_name ns w → position (λ x. bytes_eq w x) (n ∷ ns) ≡ place_of_name (n ∷ ns) w
    go (inl t) ih =
        at_place 0 (ap (λ b. cond (not b) (1 + k) 0) t) true (lt-ltb 0 (length (n ∷ ns)) (omega arith)) ∙ sym (ap (λ b. cond b (Some 0) (option_map suc (place_of_name ns w))) t)
    go (inr f) ih = deeper (cases_Bool (nat_lt k (length ns)))
      where
        after : here ≡ suc k
        after = ap (λ b. cond (not b) (1 + k) 0) f ∙ one-add k

        ends : option_map suc (position (λ x. bytes_eq w x) ns) ≡ place_of_name (n ∷ ns) w
        ends = ap (option_map suc) ih ∙ sym (ap (λ b. cond b (Some 0) (option_map suc (place_of_name ns w))) f)

        deeper : (nat_lt k (length ns) ≡ true) ⊎ (nat_lt k (length ns) ≡ false) → position (λ x. bytes_eq w x) (n ∷ ns) ≡ place_of_name (n ∷ ns) w
        deeper (inl t) = at_place (suc k) after true (lt-ltb (suc k) (length (n ∷ ns)) (let l = ltb-true k (length ns) t in omega (arith, l))) ∙ (sym (ap (λ b. option_map suc (cond b (Some k) None)) t) ∙ ends)
        deeper (inr g) = at_place (suc k) after false (le-ltb (suc k) (length (n ∷ ns)) (let l = ltb-false k (length ns) g in omega (arith, l))) ∙ (sym (ap (λ b. option_map suc (cond b (Some k) None)) g) ∙ ends)

-- one more name
pub new_more : (names : List (List ℕ)) (ws : List (Bor (List ℕ))) (i : ℕ) (d : Bor (List ℕ)) → i < length ws → place_of_name names (get_or ws i d).now ≡ None →
    are_new names (texts (drop i ws)) ≡ are_new (names ++ (get_or ws i d).now ∷ []) (texts (drop (i + 1) ws))
new_more names ws i d l p =
    at_drop_more (λ xs. are_new names (texts xs)) ws i d l ∙ ap (λ o. not (is_some o) && are_new (names ++ (get_or ws i d).now ∷ []) (texts (drop (i + 1) ws))) p

pub new_stops : (names : List (List ℕ)) (ws : List (Bor (List ℕ))) (i : ℕ) (d : Bor (List ℕ)) → i < length ws → is_some (place_of_name names (get_or ws i d).now) ≡ true →
    are_new names (texts (drop i ws)) ≡ false
new_stops names ws i d l p =
    at_drop_more (λ xs. are_new names (texts xs)) ws i d l ∙ ap (λ b. not b && are_new (names ++ (get_or ws i d).now ∷ []) (texts (drop (i + 1) ws))) p

pub names_more : (names : List (List ℕ)) (ws : List (Bor (List ℕ))) (i : ℕ) (d : Bor (List ℕ)) → i < length ws →
    names ++ texts (drop i ws) ≡ (names ++ (get_or ws i d).now ∷ []) ++ texts (drop (i + 1) ws)
names_more names ws i d l = at_drop_more (λ xs. names ++ texts xs) ws i d l ∙ sym (append_assoc names ((get_or ws i d).now ∷ []) (texts (drop (i + 1) ws)))

pub not_some_none : (o : Option ℕ) → is_some o ≡ false → o ≡ None
not_some_none None e = refl
not_some_none (Some x) e = absurd (cc)

some_map : (o : Option ℕ) → is_some (option_map suc o) ≡ is_some o
some_map None = refl
some_map (Some x) = refl

-- a word among those that are seen
pub seen_place : (ks : List (Bor (List ℕ))) (w : List ℕ) → list_any (λ k. bytes_eq w k.now) ks ≡ is_some (place_of_name (texts ks) w)
seen_place [] w = refl
seen_place (k ∷ ks) w = go (cases_Bool (bytes_eq w k.now)) (seen_place ks w)
  where
    go : (bytes_eq w k.now ≡ true) ⊎ (bytes_eq w k.now ≡ false) → list_any (λ k. bytes_eq w k.now) ks ≡ is_some (place_of_name (texts ks) w) → list_any (λ k. bytes_eq w k.now) (k ∷ ks) ≡ is_some (place_of_name (texts (k ∷ ks)) w)
    go (inl t) ih = ap (λ b. b || list_any (λ k. bytes_eq w k.now) ks) t ∙ sym (ap (λ b. is_some (cond b (Some 0) (option_map suc (place_of_name (texts ks) w)))) t)
    go (inr f) ih =
        ap (λ b. b || list_any (λ k. bytes_eq w k.now) ks) f ∙ (ih ∙ (sym (some_map (place_of_name (texts ks) w)) ∙ sym (ap (λ b. is_some (cond b (Some 0) (option_map suc (place_of_name (texts ks) w)))) f)))

pub place_append : (xs ys : List (List ℕ)) (w : List ℕ) → is_some (place_of_name (xs ++ ys) w) ≡ (is_some (place_of_name xs w) || is_some (place_of_name ys w))
place_append [] ys w = refl
place_append (x ∷ xs) ys w = go (cases_Bool (bytes_eq w x)) (place_append xs ys w)
  where
    go : (bytes_eq w x ≡ true) ⊎ (bytes_eq w x ≡ false) → is_some (place_of_name (xs ++ ys) w) ≡ (is_some (place_of_name xs w) || is_some (place_of_name ys w)) →
        is_some (place_of_name (x ∷ (xs ++ ys)) w) ≡ (is_some (place_of_name (x ∷ xs) w) || is_some (place_of_name ys w))
    go (inl t) ih =
        ap (λ b. is_some (cond b (Some 0) (option_map suc (place_of_name (xs ++ ys) w)))) t
        ∙ sym (ap (λ b. is_some (cond b (Some 0) (option_map suc (place_of_name xs w))) || is_some (place_of_name ys w)) t)
    go (inr f) ih =
        ap (λ b. is_some (cond b (Some 0) (option_map suc (place_of_name (xs ++ ys) w)))) f
        ∙ (some_map (place_of_name (xs ++ ys) w) ∙ (ih
        ∙ (ap (λ b. b || is_some (place_of_name ys w)) (sym (some_map (place_of_name xs w)))
        ∙ sym (ap (λ b. is_some (cond b (Some 0) (option_map suc (place_of_name xs w))) || is_some (place_of_name ys w)) f))))

or_first : (a b : Bool) → a ≡ true → (a || b) ≡ true
or_first a b e = ap (λ x. x || b) e

or_second : (a b : Bool) → b ≡ true → (a || b) ≡ true
or_second true b e = refl
or_second false b e = e

or_none : (a b : Bool) → a ≡ false → b ≡ false → (a || b) ≡ false
or_none a b e f = ap (λ x. x || b) e ∙ f

not_false : (b : Bool) → not b ≡ false → b ≡ true
not_false true e = refl
not_false false e = absurd (cc)

not_true : (b : Bool) → not b ≡ true → b ≡ false
not_true true e = absurd (cc)
not_true false e = refl

texts_more : (ws : List (Bor (List ℕ))) (i : ℕ) (d : Bor (List ℕ)) → i < length ws → texts (take (i + 1) ws) ≡ texts (take i ws) ++ (get_or ws i d).now ∷ []
texts_more ws i d l = ap texts (take_more ws i d l) ∙ map-append (λ (w : Bor (List ℕ)). w.now) (take i ws) (get_or ws i d ∷ [])

-- going over words, of which the first are seen
module _ (names : List (List ℕ)) (ws : List (Bor (List ℕ))) (i : ℕ) (d : Bor (List ℕ)) (l : i < length ws)
    (rest : are_new (names ++ texts (take i ws)) (texts (drop i ws)) ≡ are_new names (texts ws)) where
  pub is_named : is_some (place_of_name names (get_or ws i d).now) ≡ true → false ≡ are_new names (texts ws)
  is_named e =
      let w = (get_or ws i d).now in
      sym (new_stops (names ++ texts (take i ws)) ws i d l (place_append names (texts (take i ws)) w ∙ or_first (is_some (place_of_name names w)) (is_some (place_of_name (texts (take i ws)) w)) e)) ∙ rest

  seen_now : (keys : List (Bor (List ℕ))) → texts keys ≡ texts (take i ws) → (b : Bool) → list_any (λ k. bytes_eq (get_or ws i d).now k.now) keys ≡ b → is_some (place_of_name (texts (take i ws)) (get_or ws i d).now) ≡ b
  seen_now keys s b e = ap (λ xs. is_some (place_of_name xs (get_or ws i d).now)) (sym s) ∙ (sym (seen_place keys (get_or ws i d).now) ∙ e)

  pub is_seen : (keys : List (Bor (List ℕ))) → texts keys ≡ texts (take i ws) → (new : Bool) → new ≡ not (list_any (λ k. bytes_eq (get_or ws i d).now k.now) keys) → new ≡ false → false ≡ are_new names (texts ws)
  is_seen keys s new n f =
      let w = (get_or ws i d).now in
      let t = seen_now keys s true (not_false (list_any (λ k. bytes_eq w k.now) keys) (sym n ∙ f)) in
      sym (new_stops (names ++ texts (take i ws)) ws i d l (place_append names (texts (take i ws)) w ∙ or_second (is_some (place_of_name names w)) (is_some (place_of_name (texts (take i ws)) w)) t)) ∙ rest

  pub seen_more : (keys more : List (Bor (List ℕ))) → texts keys ≡ texts (take i ws) → (new : Bool) → new ≡ not (list_any (λ k. bytes_eq (get_or ws i d).now k.now) keys) → new ≡ true →
      more ≡ cond (list_any (λ k. bytes_eq (get_or ws i d).now k.now) keys) keys (keys ++ get_or ws i d ∷ []) → texts more ≡ texts (take (i + 1) ws)
  seen_more keys more s new n t e =
      let f = not_true (list_any (λ k. bytes_eq (get_or ws i d).now k.now) keys) (sym n ∙ t) in
      ap texts (e ∙ ap (λ b. cond b keys (keys ++ get_or ws i d ∷ [])) f)
      ∙ (map-append (λ (w : Bor (List ℕ)). w.now) keys (get_or ws i d ∷ []) ∙ (ap (λ xs. xs ++ (get_or ws i d).now ∷ []) s ∙ sym (texts_more ws i d l)))

  pub rest_more : (keys : List (Bor (List ℕ))) → texts keys ≡ texts (take i ws) → (new : Bool) → new ≡ not (list_any (λ k. bytes_eq (get_or ws i d).now k.now) keys) → new ≡ true →
      is_some (place_of_name names (get_or ws i d).now) ≡ false → are_new (names ++ texts (take (i + 1) ws)) (texts (drop (i + 1) ws)) ≡ are_new names (texts ws)
  rest_more keys s new n t f =
      let w = (get_or ws i d).now in
      let g = seen_now keys s false (not_true (list_any (λ k. bytes_eq w k.now) keys) (sym n ∙ t)) in
      let none = not_some_none (place_of_name (names ++ texts (take i ws)) w) (place_append names (texts (take i ws)) w ∙ or_none (is_some (place_of_name names w)) (is_some (place_of_name (texts (take i ws)) w)) f g) in
      ap (λ xs. are_new xs (texts (drop (i + 1) ws))) (ap (λ xs. names ++ xs) (texts_more ws i d l) ∙ sym (append_assoc names (texts (take i ws)) (w ∷ [])))
      ∙ (sym (new_more (names ++ texts (take i ws)) ws i d l none) ∙ rest)

-- what children are refused for, by the tests in their order
module _ (names : List (List ℕ)) (parent : List ℕ) (members : List (List ℕ)) (line : ℕ → List ℕ → Line) (fits : Bool) where
  abbrev last : ℕ → Result Line LineFault
  last p = Ok (line p (range_with_len (length names) (length members)))

  pub refused_unknown : place_of_name names parent ≡ None → children_at names (place_of_name names parent) members line fits ≡ Err UnknownFeature
  refused_unknown e = ap (λ o. children_at names o members line fits) e

  pub refused_twice : (p : ℕ) → place_of_name names parent ≡ Some p → are_new names members ≡ false → children_at names (place_of_name names parent) members line fits ≡ Err TwoParents
  refused_twice p e n =
      ap (λ o. children_at names o members line fits) e ∙ ap (λ b. checked b TwoParents (checked (nat_le (length names + length members) 512) TooMany (checked fits BadRange (last p)))) n

  pub refused_many : (p : ℕ) → place_of_name names parent ≡ Some p → are_new names members ≡ true → 512 < length names + length members → children_at names (place_of_name names parent) members line fits ≡ Err TooMany
  refused_many p e n l =
      ap (λ o. children_at names o members line fits) e ∙
      (ap (λ b. checked b TwoParents (checked (nat_le (length names + length members) 512) TooMany (checked fits BadRange (last p)))) n ∙
      ap (λ b. checked b TooMany (checked fits BadRange (last p))) (lt-leb (length names + length members) 512 l))

  pub refused_range : (p : ℕ) → place_of_name names parent ≡ Some p → are_new names members ≡ true → length names + length members ≤ 512 → fits ≡ false → children_at names (place_of_name names parent) members line fits ≡ Err BadRange
  refused_range p e n l f =
      ap (λ o. children_at names o members line fits) e ∙
      (ap (λ b. checked b TwoParents (checked (nat_le (length names + length members) 512) TooMany (checked fits BadRange (last p)))) n ∙
      (ap (λ b. checked b TooMany (checked fits BadRange (last p))) (le-leb (length names + length members) 512 l) ∙
      ap (λ b. checked b BadRange (last p)) f))

pub length-texts : (ws : List (Bor (List ℕ))) → length (texts ws) ≡ length ws
length-texts [] = refl
length-texts (w ∷ ws) = ap suc (length-texts ws)

-- a rule, by the tests in their order
module _ (names : List (List ℕ)) (rules : ℕ) (first second : List ℕ) (line : ℕ → ℕ → Line) where
  pub rule_without_first : place_of_name names first ≡ None → rule_at rules (place_of_name names first) (place_of_name names second) line ≡ Err UnknownFeature
  rule_without_first e = ap (λ o. rule_at rules o (place_of_name names second) line) e

  pub rule_without_second : (i : ℕ) → place_of_name names first ≡ Some i → place_of_name names second ≡ None → rule_at rules (place_of_name names first) (place_of_name names second) line ≡ Err UnknownFeature
  rule_without_second i e f = ap₂ (λ o q. rule_at rules o q line) e f

  pub rule_over : (i j : ℕ) → place_of_name names first ≡ Some i → place_of_name names second ≡ Some j → 16384 ≤ rules → rule_at rules (place_of_name names first) (place_of_name names second) line ≡ Err TooMany
  rule_over i j e f l = ap₂ (λ o q. rule_at rules o q line) e f ∙ ap (λ b. checked b TooMany (Ok (line i j))) (le-ltb rules 16384 l)

  pub rule_there : (i j : ℕ) → place_of_name names first ≡ Some i → place_of_name names second ≡ Some j → rules < 16384 → rule_at rules (place_of_name names first) (place_of_name names second) line ≡ Ok (line i j)
  rule_there i j e f l = ap₂ (λ o q. rule_at rules o q line) e f ∙ ap (λ b. checked b TooMany (Ok (line i j))) (lt-ltb rules 16384 l)
