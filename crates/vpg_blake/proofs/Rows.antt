-- Rows of values, and truth tables.
use Rattle.std.proofs.Common.{◌≡◌, ◌≢◌, ℕ, zero, suc, ◌+◌, ◌/◌, ◌<◌, Bool, true, false, List, [], ◌∷◌, ◌++◌, length, take, drop, refl, sym, ap, ap₂, subst, ◌∙◌, arith, inl, inr, ◌⊎◌, get_or-set_other, get_or-set_same, length-set}
use Rattle.std.proofs.lemmas.Bool.Decides.{Decides-eqb}
use Rattle.std.proofs.lemmas.List.{length-append}
use Rattle.std.specs.Bool.{beq}
use Rattle.std.specs.List.{list_any}
use Rattle.std.specs.Cmp.Lexicographic.{pointwise}
use Rattle.std.specs.Prelude.{◌&&◌, ◌||◌, nat_eq, slice_index_or, slice_set, if◌then◌else◌}
use Rattle.vpg_guards.specs.Formula.{Formula, truth}
use Rattle.vpg_blake.specs.Blake.{Cube, implicants, merged, set_with, is_same_literal, has_cube, unshared, with_literal}
use Rattle.vpg_blake.specs.Tables.{table_from, both_true, table_implicants}
use Rattle.vpg_blake.proofs.Cubes.{literal, Each, each_weaker, same_cube_back}
use Rattle.vpg_blake.proofs.Primes.{EachNumber, row_of}
use Rattle.vpg_blake.proofs.Named.{Among, number_weaker}

-- ---- the set of a row

-- what is in a set, is in another
abbrev pub IsWithin : List Bool → List Bool → Type 0
IsWithin z set = (y : ℕ) → slice_index_or z y false ≡ true → slice_index_or set y false ≡ true

module _ (set : List Bool) (y : ℕ) where
  same_out : (z : List Bool) → IsWithin z set → slice_index_or set y false ≡ false → slice_index_or z y false ≡ slice_index_or set y false
  same_out z within e = at (slice_index_or z y false) refl
    where
      at : (b : Bool) → slice_index_or z y false ≡ b → slice_index_or z y false ≡ slice_index_or set y false
      at true is = let also = within y is in absurd cc
      at false is = is ∙ sym e

  -- one feature of the row
  row_step : (x : ℕ) (xs : List ℕ) (z : List Bool) → x < length z → IsWithin z set → (x ≡ y) ⊎ Among y xs ⊎ (slice_index_or z y false ≡ slice_index_or set y false)
      → ((w : List Bool) → length w ≡ length z → IsWithin w set → Among y xs ⊎ (slice_index_or w y false ≡ slice_index_or set y false)
      → slice_index_or (set_with xs (row_of xs set) w) y false ≡ slice_index_or set y false)
      → (b : Bool) → slice_index_or set x false ≡ b
      → slice_index_or (set_with xs (row_of xs set) (if b then slice_set z x true else z)) y false ≡ slice_index_or set y false
  row_step x xs z lt within known rest true e =
      rest (slice_set z x true) (length-set z x true) inside (at (nat_eq y x) refl)
    where
      inside : IsWithin (slice_set z x true) set
      inside v is = turn (nat_eq v x) refl
        where
          turn : (b : Bool) → nat_eq v x ≡ b → slice_index_or set v false ≡ true
          turn true same = subst (λ (u : ℕ). slice_index_or set u false ≡ true) (sym ((Decides-eqb v x).0 same)) e
          turn false differs =
              let other : v ≢ x = λ same. let k = (Decides-eqb v x).1 same in absurd cc in
              within v (sym (get_or-set_other z x v true false other) ∙ is)

      at : (b : Bool) → nat_eq y x ≡ b → Among y xs ⊎ (slice_index_or (slice_set z x true) y false ≡ slice_index_or set y false)
      at true same =
          let is : y ≡ x = (Decides-eqb y x).0 same in
          inr (subst (λ (u : ℕ). slice_index_or (slice_set z x true) u false ≡ slice_index_or set u false) (sym is) (get_or-set_same z x true false lt ∙ sym e))
      at false differs =
          let other : y ≢ x = λ same. let k = (Decides-eqb y x).1 same in absurd cc in
          turn other known
        where
          turn : y ≢ x → (x ≡ y) ⊎ Among y xs ⊎ (slice_index_or z y false ≡ slice_index_or set y false) → Among y xs ⊎ (slice_index_or (slice_set z x true) y false ≡ slice_index_or set y false)
          turn other (inl same) = absurd (other (sym same))
          turn other (inr (inl h)) = inl h
          turn other (inr (inr h)) = inr (get_or-set_other z x y true false other ∙ h)
  row_step x xs z lt within known rest false e = rest z refl within (turn known)
    where
      turn : (x ≡ y) ⊎ Among y xs ⊎ (slice_index_or z y false ≡ slice_index_or set y false) → Among y xs ⊎ (slice_index_or z y false ≡ slice_index_or set y false)
      turn (inl same) = inr (same_out z within (subst (λ (u : ℕ). slice_index_or set u false ≡ false) same e))
      turn (inr h) = h

  split_known : (x : ℕ) (xs : List ℕ) (z : List Bool) → Among y (x ∷ xs) ⊎ (slice_index_or z y false ≡ slice_index_or set y false)
      → (x ≡ y) ⊎ Among y xs ⊎ (slice_index_or z y false ≡ slice_index_or set y false)
  split_known x xs z (inl (inl h)) = inl h
  split_known x xs z (inl (inr h)) = inr (inl h)
  split_known x xs z (inr h) = inr (inr h)

  -- The set of a set's own row has the features of the row as that set has them.
  pub set_of_row : (xs : List ℕ) (z : List Bool) → EachNumber (λ x. x < length z) xs → IsWithin z set
      → Among y xs ⊎ (slice_index_or z y false ≡ slice_index_or set y false)
      → slice_index_or (set_with xs (row_of xs set) z) y false ≡ slice_index_or set y false
  set_of_row [] z below within (inl h) = absurd h
  set_of_row [] z below within (inr h) = h
  set_of_row (x ∷ xs) z below within known =
      row_step x xs z below.0 within (split_known x xs z known)
      (λ w same inside k. set_of_row xs w (number_weaker (λ v. v < length z) (λ v. v < length w) (λ v lt. omega (arith, lt, same)) xs below.1) inside k)
      (slice_index_or set x false) refl

-- ---- truth tables

table_of : List ℕ → (List Bool → Bool) → List Bool
table_of [] f = f [] ∷ []
table_of (x ∷ xs) f = table_of xs (λ row. f (true ∷ row)) ++ table_of xs (λ row. f (false ∷ row))

rows : List ℕ → ℕ
rows [] = 1
rows (x ∷ xs) = rows xs + rows xs

length_table : (xs : List ℕ) (f : List Bool → Bool) → length (table_of xs f) ≡ rows xs
unfolding table_of rows
length_table [] f = refl
length_table (x ∷ xs) f =
    let with = length_table xs (λ row. f (true ∷ row)) in
    let without = length_table xs (λ row. f (false ∷ row)) in
    length-append (table_of xs (λ row. f (true ∷ row))) (table_of xs (λ row. f (false ∷ row))) ∙ ap₂ ◌+◌ with without

table_is : (g : Formula) (xs : List ℕ) (set : List Bool) → table_from g xs set ≡ table_of xs (λ row. truth (set_with xs row set) g)
unfolding table_of
table_is g [] set = refl
table_is g (x ∷ xs) set = ap₂ ◌++◌ (table_is g xs (slice_set set x true)) (table_is g xs set)

both_append : (ps qs rs ss : List Bool) → length ps ≡ length qs → both_true (ps ++ rs) (qs ++ ss) ≡ both_true ps qs ++ both_true rs ss
both_append [] [] rs ss e = refl
both_append [] (b ∷ qs) rs ss e = absurd (omega arith)
both_append (a ∷ ps) [] rs ss e = absurd (omega arith)
both_append (a ∷ ps) (b ∷ qs) rs ss e = ap (λ (rest : List Bool). (a && b) ∷ rest) (both_append ps qs rs ss (omega arith))

both_tables : (xs : List ℕ) (f g : List Bool → Bool) → both_true (table_of xs f) (table_of xs g) ≡ table_of xs (λ row. f row && g row)
unfolding table_of
both_tables [] f g = refl
both_tables (x ∷ xs) f g =
    both_append (table_of xs (λ row. f (true ∷ row))) (table_of xs (λ row. g (true ∷ row))) (table_of xs (λ row. f (false ∷ row))) (table_of xs (λ row. g (false ∷ row)))
    (length_table xs (λ row. f (true ∷ row)) ∙ sym (length_table xs (λ row. g (true ∷ row))))
    ∙ ap₂ ◌++◌ (both_tables xs (λ row. f (true ∷ row)) (λ row. g (true ∷ row))) (both_tables xs (λ row. f (false ∷ row)) (λ row. g (false ∷ row)))

take_front : (ps qs : List Bool) → take (length ps) (ps ++ qs) ≡ ps
take_front [] qs = refl
take_front (a ∷ ps) qs = ap (λ (rest : List Bool). a ∷ rest) (take_front ps qs)

drop_front : (ps qs : List Bool) → drop (length ps) (ps ++ qs) ≡ qs
drop_front [] qs = refl
drop_front (a ∷ ps) qs = drop_front ps qs

halves : (ps qs : List Bool) → length ps ≡ length qs → length (ps ++ qs) / 2 ≡ length ps
halves ps qs e = let long = length-append ps qs in omega (arith, long, e)

-- from the table of a function come its prime implicants
table_gives : (xs : List ℕ) (f : List Bool → Bool) → table_implicants xs (table_of xs f) ≡ implicants xs f
unfolding table_of
table_gives [] f = refl
table_gives (x ∷ xs) f =
    let with = table_of xs (λ row. f (true ∷ row)) in
    let without = table_of xs (λ row. f (false ∷ row)) in
    let middle : length (with ++ without) / 2 ≡ length with =
    halves with without (length_table xs (λ row. f (true ∷ row)) ∙ sym (length_table xs (λ row. f (false ∷ row)))) in
    let front : take (length (with ++ without) / 2) (with ++ without) ≡ with = ap (λ (n : ℕ). take n (with ++ without)) middle ∙ take_front with without in
    let back : drop (length (with ++ without) / 2) (with ++ without) ≡ without = ap (λ (n : ℕ). drop n (with ++ without)) middle ∙ drop_front with without in
    ap₂ (λ (a b : List Bool). merged x (table_implicants xs a) (table_implicants xs b) (table_implicants xs (both_true a b))) front back
    ∙ ap₂ (λ (ins outs : List Cube). merged x ins outs (table_implicants xs (both_true with without))) (table_gives xs (λ row. f (true ∷ row))) (table_gives xs (λ row. f (false ∷ row)))
    ∙ ap (merged x (implicants xs (λ row. f (true ∷ row))) (implicants xs (λ row. f (false ∷ row))))
    (ap (table_implicants xs) (both_tables xs (λ row. f (true ∷ row)) (λ row. f (false ∷ row))) ∙ table_gives xs (λ row. f (true ∷ row) && f (false ∷ row)))

pub guard_implicants : (g : Formula) (xs : List ℕ) (set : List Bool) → table_implicants xs (table_from g xs set) ≡ implicants xs (λ row. truth (set_with xs row set) g)
guard_implicants g xs set = ap (table_implicants xs) (table_is g xs set) ∙ table_gives xs (λ row. truth (set_with xs row set) g)

-- ---- a table that is true nowhere

abbrev pub IsNowhereTrue : List Bool → Type 0
IsNowhereTrue table = list_any (λ (b : Bool). beq b true) table ≡ false

never_take : (n : ℕ) (table : List Bool) → IsNowhereTrue table → IsNowhereTrue (take n table)
never_take zero table e = refl
never_take (suc n) [] e = refl
never_take (suc n) (true ∷ table) e = absurd cc
never_take (suc n) (false ∷ table) e = never_take n table e

never_drop : (n : ℕ) (table : List Bool) → IsNowhereTrue table → IsNowhereTrue (drop n table)
never_drop zero table e = e
never_drop (suc n) [] e = refl
never_drop (suc n) (true ∷ table) e = absurd cc
never_drop (suc n) (false ∷ table) e = never_drop n table e

never_both : (with without : List Bool) → IsNowhereTrue with → IsNowhereTrue (both_true with without)
never_both [] without e = refl
never_both (b ∷ with) [] e = refl
never_both (true ∷ with) (d ∷ without) e = absurd cc
never_both (false ∷ with) (d ∷ without) e = never_both with without e

pub nowhere_none : (xs : List ℕ) (table : List Bool) → IsNowhereTrue table → table_implicants xs table ≡ []
nowhere_none [] [] e = refl
nowhere_none [] (true ∷ table) e = absurd cc
nowhere_none [] (false ∷ table) e = refl
nowhere_none (x ∷ xs) table e =
    let with = take (length table / 2) table in
    let without = drop (length table / 2) table in
    ap₂ (λ (ins outs : List Cube). merged x ins outs (table_implicants xs (both_true with without)))
    (nowhere_none xs with (never_take (length table / 2) table e)) (nowhere_none xs without (never_drop (length table / 2) table e))
    ∙ ap (merged x [] []) (nowhere_none xs (both_true with without) (never_both with without (never_take (length table / 2) table e)))

-- ---- a table whose halves are the same: its first feature is of no account

both_self : (table : List Bool) → both_true table table ≡ table
both_self [] = refl
both_self (true ∷ table) = ap (λ (rest : List Bool). true ∷ rest) (both_self table)
both_self (false ∷ table) = ap (λ (rest : List Bool). false ∷ rest) (both_self table)

or_left : (a b : Bool) → a ≡ true → (a || b) ≡ true
or_left true b e = refl
or_left false b e = absurd cc

or_right : (a b : Bool) → b ≡ true → (a || b) ≡ true
or_right true b e = refl
or_right false b e = e

has_itself : (cs : List Cube) → Each (λ c. has_cube cs c ≡ true) cs
has_itself [] = tt
has_itself (c ∷ cs) = (
  or_left (pointwise is_same_literal c c) (has_cube cs c) (same_cube_back c),
  each_weaker (λ d. has_cube cs d ≡ true) (λ d. has_cube (c ∷ cs) d ≡ true) (λ d e. or_right (pointwise is_same_literal c d) (has_cube cs d) e) cs (has_itself cs),
)

none_unshared : (cs shared : List Cube) → Each (λ c. has_cube shared c ≡ true) cs → unshared cs shared ≡ []
none_unshared [] shared h = refl
none_unshared (c ∷ cs) shared h = rw h.0 (none_unshared cs shared h.1)

merged_self : (x : ℕ) (cs : List Cube) → merged x cs cs cs ≡ cs
merged_self x cs = ap (λ (ds : List Cube). with_literal (literal x true) ds ++ (with_literal (literal x false) ds ++ cs)) (none_unshared cs cs (has_itself cs))

pub same_halves : (x : ℕ) (xs : List ℕ) (table : List Bool) → take (length table / 2) table ≡ drop (length table / 2) table
    → table_implicants (x ∷ xs) table ≡ table_implicants xs (take (length table / 2) table)
same_halves x xs table e =
    let with = take (length table / 2) table in
    ap (λ (t : List Bool). merged x (table_implicants xs with) (table_implicants xs t) (table_implicants xs (both_true with t))) (sym e)
    ∙ ap (λ (t : List Bool). merged x (table_implicants xs with) (table_implicants xs with) (table_implicants xs t)) (both_self with)
    ∙ merged_self x (table_implicants xs with)
