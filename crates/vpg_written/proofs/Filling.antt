-- Forms that are written by symbols and tasks.
use Rattle.std.proofs.Common.{◌≡◌, ℕ, suc, ◌+◌, ◌<◌, ◌≤◌, List, [], ◌∷◌, ◌++◌, length, map, reverse, refl, sym, subst, ◌∙◌, ap, ap₂, arith, append_assoc, length-append}
use Rattle.std.proofs.lemmas.List.{append-nil, reverse-append, length-reverse}
use Rattle.vpg_requirement.specs.Actions.{ActionFormula}
use Rattle.vpg_requirement.specs.NormalForms.{NormalForm, met, unmet, both, either, some_step, every_step, fixpoint, variable}
use Rattle.vpg_parts.specs.declared.symbol.Symbol.{Symbol}
use Rattle.vpg_parts.specs.declared.symbol.Symbol.TheVariants as symbols
use Rattle.vpg_parts.specs.Symbols.{IsSpelled}
use Rattle.vpg_written.specs.Translations.{size}
use Rattle.vpg_written.specs.Tasks.{Basis, IsTask, Opens, Fill}
use Rattle.vpg_written.specs.declared.task.Task.{Task}
use Rattle.vpg_written.specs.declared.task.Item.{Item}
use Rattle.vpg_written.specs.declared.task.Item.TheVariants as items

-- ---- in front of what is still to be written

pub pushed : {A : Type 0} (xs : List A) (x : A) → reverse (xs ++ x ∷ []) ≡ x ∷ reverse xs
pushed xs x = reverse-append xs (x ∷ [])

pub symbol_in_front : (g : Basis) (old : List Item) (s : Symbol) (f : NormalForm) (hs fs : List NormalForm) → Opens g.actions s f hs → Fill g (hs ++ fs) (reverse old) → Fill g (f ∷ fs) (reverse (old ++ items.Symbol s ∷ []))
symbol_in_front g old s f hs fs opens rest = subst (Fill g (f ∷ fs)) (sym (pushed old (items.Symbol s))) (f, fs, hs, refl, opens, rest)

pub task_in_front : (g : Basis) (old : List Item) (t : Task) (f : NormalForm) (fs : List NormalForm) → IsTask g t f → Fill g fs (reverse old) → Fill g (f ∷ fs) (reverse (old ++ items.Task t ∷ []))
task_in_front g old t f fs is rest = subst (Fill g (f ∷ fs)) (sym (pushed old (items.Task t))) (f, fs, refl, is, rest)

-- ---- symbols that are written

pub fill_behind : (g : Basis) (ss : List Symbol) (is js : List Item) → ((fs : List NormalForm) → Fill g fs is → Fill g fs js) → (fs : List NormalForm) → Fill g fs (map items.Symbol ss ++ is) → Fill g fs (map items.Symbol ss ++ js)
fill_behind g [] is js h fs fill = h fs fill
fill_behind g (s ∷ ss) is js h fs (f, rest, hs, e, opens, more) = (f, rest, hs, e, opens, fill_behind g ss is js h (hs ++ rest) more)

pub written_more : (ss : List Symbol) (s : Symbol) (is : List Item) → map items.Symbol (ss ++ s ∷ []) ++ is ≡ map items.Symbol ss ++ (items.Symbol s ∷ is)
written_more [] s is = refl
written_more (x ∷ ss) s is = ap (λ (js : List Item). items.Symbol x ∷ js) (written_more ss s is)

-- the symbols spell the forms one behind the other
abbrev pub AreSpelled : List ActionFormula → List NormalForm → List Symbol → Type 0
AreSpelled actions [] ss = ss ≡ []
AreSpelled actions (f ∷ fs) ss = (us : List Symbol) × (vs : List Symbol) × (ss ≡ us ++ vs) × IsSpelled actions f us × AreSpelled actions fs vs

module _ (g : Basis) where
  leaf_spelled : (s : Symbol) (f : NormalForm) (rest : List NormalForm) (ss : List Symbol) → IsSpelled g.actions f (s ∷ []) → AreSpelled g.actions rest ss → AreSpelled g.actions (f ∷ rest) (s ∷ ss)
  leaf_spelled s f rest ss is more = (s ∷ [], ss, refl, is, more)

  two_spelled : (s : Symbol) (f d e : NormalForm) (rest : List NormalForm) (ss : List Symbol) → ((us vs : List Symbol) → IsSpelled g.actions d us → IsSpelled g.actions e vs → IsSpelled g.actions f (s ∷ (us ++ vs))) →
      AreSpelled g.actions (d ∷ e ∷ rest) ss → AreSpelled g.actions (f ∷ rest) (s ∷ ss)
  two_spelled s f d e rest ss h (us, vs, whole, first, (ws, zs, more, second, others)) =
      (s ∷ (us ++ ws), zs, ap (λ (xs : List Symbol). s ∷ xs) (whole ∙ ap (λ (xs : List Symbol). us ++ xs) more ∙ sym (append_assoc us ws zs)), h us ws first second, others)

  one_spelled : (s : Symbol) (f e : NormalForm) (rest : List NormalForm) (ss : List Symbol) → ((us : List Symbol) → IsSpelled g.actions e us → IsSpelled g.actions f (s ∷ us)) →
      AreSpelled g.actions (e ∷ rest) ss → AreSpelled g.actions (f ∷ rest) (s ∷ ss)
  one_spelled s f e rest ss h (us, vs, whole, first, others) = (s ∷ us, vs, ap (λ (xs : List Symbol). s ∷ xs) whole, h us first, others)

  begun : (s : Symbol) (f : NormalForm) (hs rest : List NormalForm) (ss : List Symbol) → Opens g.actions s f hs → AreSpelled g.actions (hs ++ rest) ss → AreSpelled g.actions (f ∷ rest) (s ∷ ss)
  begun symbols.True f hs rest ss (e, none) more = leaf_spelled symbols.True f rest ss (subst (λ (h : NormalForm). IsSpelled g.actions h (symbols.True ∷ [])) (sym e) refl) (subst (λ (cs : List NormalForm). AreSpelled g.actions (cs ++ rest) ss) none more)
  begun symbols.False f hs rest ss (e, none) more = leaf_spelled symbols.False f rest ss (subst (λ (h : NormalForm). IsSpelled g.actions h (symbols.False ∷ [])) (sym e) refl) (subst (λ (cs : List NormalForm). AreSpelled g.actions (cs ++ rest) ss) none more)
  begun symbols.And f hs rest ss (d, c, e, two) more = two_spelled symbols.And f d c rest ss (λ us vs a b. subst (λ (h : NormalForm). IsSpelled g.actions h (symbols.And ∷ (us ++ vs))) (sym e) (us, vs, refl, a, b)) (subst (λ (cs : List NormalForm). AreSpelled g.actions (cs ++ rest) ss) two more)
  begun symbols.Or f hs rest ss (d, c, e, two) more = two_spelled symbols.Or f d c rest ss (λ us vs a b. subst (λ (h : NormalForm). IsSpelled g.actions h (symbols.Or ∷ (us ++ vs))) (sym e) (us, vs, refl, a, b)) (subst (λ (cs : List NormalForm). AreSpelled g.actions (cs ++ rest) ss) two more)
  begun (symbols.SomeStep n) f hs rest ss (c, e, one) more = one_spelled (symbols.SomeStep n) f c rest ss (λ us a. subst (λ (h : NormalForm). IsSpelled g.actions h (symbols.SomeStep n ∷ us)) (sym e) (n, us, refl, refl, a)) (subst (λ (cs : List NormalForm). AreSpelled g.actions (cs ++ rest) ss) one more)
  begun (symbols.EveryStep n) f hs rest ss (c, e, one) more = one_spelled (symbols.EveryStep n) f c rest ss (λ us a. subst (λ (h : NormalForm). IsSpelled g.actions h (symbols.EveryStep n ∷ us)) (sym e) (n, us, refl, refl, a)) (subst (λ (cs : List NormalForm). AreSpelled g.actions (cs ++ rest) ss) one more)
  begun (symbols.Fixpoint kind) f hs rest ss (c, e, one) more = one_spelled (symbols.Fixpoint kind) f c rest ss (λ us a. subst (λ (h : NormalForm). IsSpelled g.actions h (symbols.Fixpoint kind ∷ us)) (sym e) (kind, us, refl, refl, a)) (subst (λ (cs : List NormalForm). AreSpelled g.actions (cs ++ rest) ss) one more)
  begun (symbols.Variable i) f hs rest ss (e, none) more = leaf_spelled (symbols.Variable i) f rest ss (subst (λ (h : NormalForm). IsSpelled g.actions h (symbols.Variable i ∷ [])) (sym e) refl) (subst (λ (cs : List NormalForm). AreSpelled g.actions (cs ++ rest) ss) none more)

  all_spelled : (ss : List Symbol) (fs : List NormalForm) → Fill g fs (map items.Symbol ss) → AreSpelled g.actions fs ss
  all_spelled [] fs e = subst (λ (hs : List NormalForm). AreSpelled g.actions hs []) (sym e) refl
  all_spelled (s ∷ ss) fs (f, rest, hs, e, opens, more) = subst (λ (cs : List NormalForm). AreSpelled g.actions cs (s ∷ ss)) (sym e) (begun s f hs rest ss opens (all_spelled ss (hs ++ rest) more))

  pub spelled : (ss : List Symbol) (f : NormalForm) → Fill g (f ∷ []) (map items.Symbol ss) → IsSpelled g.actions f ss
  spelled ss f fill = alone (all_spelled ss (f ∷ []) fill)
    where
      alone : AreSpelled g.actions (f ∷ []) ss → IsSpelled g.actions f ss
      alone (us, vs, whole, is, none) = subst (IsSpelled g.actions f) (sym (whole ∙ ap (λ (xs : List Symbol). us ++ xs) none ∙ append-nil us)) is

-- ---- how many symbols are written

abbrev pub sizes : List NormalForm → ℕ
sizes [] = 0
sizes (f ∷ fs) = size f + sizes fs

pub some_part : (f : NormalForm) → 1 ≤ size f
some_part met = omega arith
some_part unmet = omega arith
some_part (both f g) = omega arith
some_part (either f g) = omega arith
some_part (some_step x f) = omega arith
some_part (every_step x f) = omega arith
some_part (fixpoint kind p f) = omega arith
some_part (variable i) = omega arith

one_more_part : (actions : List ActionFormula) (s : Symbol) (f : NormalForm) (hs rest : List NormalForm) → Opens actions s f hs → sizes (hs ++ rest) + 1 ≡ size f + sizes rest
one_more_part actions symbols.True f hs rest (e, none) = rw (e, none) (omega arith)
one_more_part actions symbols.False f hs rest (e, none) = rw (e, none) (omega arith)
one_more_part actions symbols.And f hs rest (d, c, e, two) = rw (e, two) (omega arith)
one_more_part actions symbols.Or f hs rest (d, c, e, two) = rw (e, two) (omega arith)
one_more_part actions (symbols.SomeStep n) f hs rest (c, e, one) = rw (e, one) (omega arith)
one_more_part actions (symbols.EveryStep n) f hs rest (c, e, one) = rw (e, one) (omega arith)
one_more_part actions (symbols.Fixpoint kind) f hs rest (c, e, one) = rw (e, one) (omega arith)
one_more_part actions (symbols.Variable i) f hs rest (e, none) = rw (e, none) (omega arith)

pub few_items : (g : Basis) (is : List Item) (fs : List NormalForm) → Fill g fs is → length is ≤ sizes fs
few_items g [] fs e = omega arith
few_items g (items.Symbol s ∷ is) fs (f, rest, hs, e, opens, more) = subst (λ (cs : List NormalForm). suc (length is) ≤ sizes cs) (sym e) (count (few_items g is (hs ++ rest) more) (one_more_part g.actions s f hs rest opens))
  where
    count : length is ≤ sizes (hs ++ rest) → sizes (hs ++ rest) + 1 ≡ size f + sizes rest → suc (length is) ≤ size f + sizes rest
    count l k = omega (arith, l, k)
few_items g (items.Task t ∷ is) fs (f, rest, e, task, more) = subst (λ (cs : List NormalForm). suc (length is) ≤ sizes cs) (sym e) (count (few_items g is rest more) (some_part f))
  where
    count : length is ≤ sizes rest → 1 ≤ size f → suc (length is) ≤ size f + sizes rest
    count l k = omega (arith, l, k)

-- ---- one symbol after the other

pub next_written : (g : Basis) (ss : List Symbol) (before after new : List Item) (item : Item) (s : Symbol) (ts : List Symbol) (f : NormalForm) → before ≡ after ++ item ∷ [] → ts ≡ ss ++ s ∷ [] →
    ((fs : List NormalForm) → Fill g fs (item ∷ reverse after) → Fill g fs (items.Symbol s ∷ reverse new)) → Fill g (f ∷ []) (map items.Symbol ss ++ reverse before) → Fill g (f ∷ []) (map items.Symbol ts ++ reverse new)
next_written g ss before after new item s ts f e is h fill =
    subst (λ (xs : List Symbol). Fill g (f ∷ []) (map items.Symbol xs ++ reverse new)) (sym is)
    (subst (Fill g (f ∷ [])) (sym (written_more ss s (reverse new)))
    (fill_behind g ss (item ∷ reverse after) (items.Symbol s ∷ reverse new) h (f ∷ [])
    (subst (λ (xs : List Item). Fill g (f ∷ []) (map items.Symbol ss ++ xs)) (ap reverse e ∙ pushed after item) fill)))

pub all_written : (g : Basis) (ss : List Symbol) (rest : List Item) (f : NormalForm) → rest ≡ [] → Fill g (f ∷ []) (map items.Symbol ss ++ reverse rest) → IsSpelled g.actions f ss
all_written g ss rest f e fill = spelled g ss f (subst (Fill g (f ∷ [])) (append-nil (map items.Symbol ss)) (subst (λ (xs : List Item). Fill g (f ∷ []) (map items.Symbol ss ++ reverse xs)) e fill))

length_map : {A B : Type 0} (h : A → B) (xs : List A) → length (map h xs) ≡ length xs
length_map h [] = refl
length_map h (x ∷ xs) = ap suc (length_map h xs)

pub too_many : (g : Basis) (ss : List Symbol) (before after : List Item) (item : Item) (f : NormalForm) → before ≡ after ++ item ∷ [] → 65536 ≤ length ss + length after → Fill g (f ∷ []) (map items.Symbol ss ++ reverse before) → 65536 < size f
too_many g ss before after item f e l fill = count (few_items g (map items.Symbol ss ++ reverse before) (f ∷ []) fill)
  where
    long : length (map items.Symbol ss ++ reverse before) ≡ length ss + (length after + 1)
    long = length-append (map items.Symbol ss) (reverse before) ∙ ap₂ ◌+◌ (length_map items.Symbol ss) (ap length (ap reverse e ∙ pushed after item) ∙ more)
      where
        more : length (item ∷ reverse after) ≡ length after + 1
        more = omega (arith, length-reverse after)

    count : length (map items.Symbol ss ++ reverse before) ≤ sizes (f ∷ []) → 65536 < size f
    count m = omega (arith, m, long, l)

pub first_fill : (g : Basis) (ss : List Symbol) (is : List Item) (f : NormalForm) → ss ≡ [] → Fill g (f ∷ []) (reverse is) → Fill g (f ∷ []) (map items.Symbol ss ++ reverse is)
first_fill g ss is f e fill = subst (λ (xs : List Symbol). Fill g (f ∷ []) (map items.Symbol xs ++ reverse is)) (sym e) fill
