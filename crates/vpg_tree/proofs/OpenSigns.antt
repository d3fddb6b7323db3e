-- A rule that is read has a writing that reads back: each `and` and `or` has two parts, and few signs are open.
use Rattle.std.proofs.Common.{◌≡◌, ℕ, zero, suc, ◌<◌, ◌≤◌, Bool, true, false, List, refl, subst, arith}
use Rattle.std.specs.Prelude.{codes, nat_lt}
use Rattle.std.proofs.lemmas.Bool.{ltb-true, ltb-false}
use Rattle.vpg_rules.specs.Constraint.{Constraint, Parts, all, any, implication, equivalence, no_parts, part, renamed, each_renamed}
use Rattle.vpg_rules.specs.Grammar.{NamedRule, constant_rule, Factor, constant, name, inverted, enclosed, added, Items, one, more, alone_or, Series, Arrow, plain, arrow, Disjunction, IsFactor, IsImplication, IsRule}
use Rattle.vpg_tree.specs.RuleText.{closeness}
use Rattle.vpg_tree.specs.Laws.{more_if, open_signs, most_open, JoinsTwo, EachJoinsTwo}

less_more : (x k o n : ℕ) → more_if (nat_lt x (suc k)) o < n → more_if (nat_lt x k) o < n
less_more x k o n h = go (nat_lt x k) (nat_lt x (suc k)) refl refl h
  where
    go : (b t : Bool) → nat_lt x k ≡ b → nat_lt x (suc k) ≡ t → more_if t o < n → more_if b o < n
    go true true e f h = h
    go true false e f h = absurd (let l = ltb-true x k e in let g = ltb-false x (suc k) f in omega (arith, l, g))
    go false true e f h = omega (arith, h)
    go false false e f h = h

all_more : (x k o n : ℕ) → more_if (nat_lt x k) o < n → o < n
all_more x k o n h = go (nat_lt x k) h
  where
    go : (b : Bool) → more_if b o < n → o < n
    go true h = omega (arith, h)
    go false h = h

at_most_more : (b : Bool) (o n : ℕ) → o < n → more_if b o < suc n
at_most_more true o n h = omega (arith, h)
at_most_more false o n h = omega (arith, h)

abbrev HasOne : {A : Type 0} → Parts A → Type 0
HasOne no_parts = ⊥
HasOne (part c cs) = Unit {0}

added_some : (cs : Parts (List ℕ)) (d : NamedRule) → HasOne (added cs d)
added_some no_parts d = tt
added_some (part c cs) d = tt

module _ (to : List ℕ → ℕ) where
  abbrev seen : NamedRule → Constraint ℕ
  seen c = renamed to c

  -- few signs are open in a rule, which stands in parentheses unless it binds so closely
  record IsFew (k n : ℕ) (c : Constraint ℕ) : Type 0 where
    joins : JoinsTwo c
    few : more_if (nat_lt (closeness c) k) (open_signs c) < n

  record AreFew (k n : ℕ) (cs : Parts ℕ) : Type 0 where
    joins : EachJoinsTwo cs
    few : most_open k cs < n

  looser : (k n : ℕ) (c : Constraint ℕ) → IsFew (suc k) n c → IsFew k n c
  looser k n c h = record { joins = h.joins; few = less_more (closeness c) k (open_signs c) n h.few }

  more_parts : (k n : ℕ) (cs : Parts (List ℕ)) (d : NamedRule) → AreFew k n (each_renamed to cs) → IsFew k n (seen d) → AreFew k n (each_renamed to (added cs d))
  more_parts k n no_parts d h i = record { joins = (i.joins, tt); few = omega (arith, i.few, h.few) }
  more_parts k n (part c cs) d h i =
      let later = more_parts k n cs d (record { joins = h.joins.1; few = omega (arith, h.few) }) i in
      record { joins = (h.joins.0, later.joins); few = omega (arith, h.few, later.few) }

  module _ (Item : List ℕ → NamedRule → Type 0) (mark : List ℕ) where
    items_some : (text : List ℕ) (cs : Parts (List ℕ)) → Items Item mark text cs → HasOne cs
    items_some text cs (one h) = tt
    items_some text ds (more blanks {cs = cs} {d = d} items blank h) = added_some cs d

    items_few : (k n : ℕ) → ((text : List ℕ) (c : NamedRule) → Item text c → IsFew k n (seen c)) → (text : List ℕ) (cs : Parts (List ℕ)) → Items Item mark text cs → AreFew k n (each_renamed to cs)
    items_few k n item text cs (one {c = c} h) =
        let i = item text c h in record { joins = (i.joins, tt); few = omega (arith, i.few) }
    items_few k n item text ds (more blanks {text = front} {later = later} {cs = cs} {d = d} items blank h) =
        more_parts k n cs d (items_few k n item front cs items) (item later d h)

    series_few : (make : Parts (List ℕ) → NamedRule) (k n : ℕ) → ((c d : NamedRule) (cs : Parts (List ℕ)) → AreFew (suc k) n (each_renamed to (part c (part d cs))) → IsFew k n (seen (make (part c (part d cs)))))
        → ((text : List ℕ) (c : NamedRule) → Item text c → IsFew (suc k) n (seen c)) → (text : List ℕ) (c : NamedRule) → Series Item mark make text c → IsFew k n (seen c)
    series_few make k n joined item text c h = go h.parts (items_some text h.parts h.items) (items_few (suc k) n item text h.parts h.items) h.stands
      where
        go : (parts : Parts (List ℕ)) → HasOne parts → AreFew (suc k) n (each_renamed to parts) → alone_or make parts ≡ c → IsFew k n (seen c)
        go no_parts some are e = absurd some
        go (part d no_parts) some are e = subst (λ (x : NamedRule). IsFew k n (seen x)) e (looser k n (seen d) (record { joins = are.joins.0; few = omega (arith, are.few) }))
        go (part d (part g gs)) some are e = subst (λ (x : NamedRule). IsFew k n (seen x)) e (joined d g gs are)

  factors_few : (Item : List ℕ → NamedRule → Type 0) (n : ℕ) → ((text : List ℕ) (c : NamedRule) → Item text c → IsFew 4 n (seen c)) → (text : List ℕ) (c : NamedRule) → Disjunction Item text c → IsFew 2 n (seen c)
  factors_few Item n item =
      series_few (Series Item (codes "&") all) (codes "|") any 2 n (λ c d cs are. record { joins = (tt, are.joins); few = are.few })
      (series_few Item (codes "&") all 3 n (λ c d cs are. record { joins = (tt, are.joins); few = are.few }) item)

  -- ---- levels

  few_constant : (b : Bool) (n : ℕ) → IsFew 4 (suc n) (seen (constant_rule b))
  few_constant true n = record { joins = tt; few = omega arith }
  few_constant false n = record { joins = tt; few = omega arith }

  record AreAllFew (n : ℕ) : Type 0 where
    factors : (text : List ℕ) (c : NamedRule) → IsFactor n text c → IsFew 4 n (seen c)
    implications : (text : List ℕ) (c : NamedRule) → IsImplication n text c → IsFew 1 n (seen c)
    rules : (text : List ℕ) (c : NamedRule) → IsRule n text c → IsFew 0 n (seen c)

  factor_few : (n : ℕ) → AreAllFew n → (text : List ℕ) (c : NamedRule) → Factor (IsFactor n) (IsRule n) text c → IsFew 4 (suc n) (seen c)
  factor_few n inner text c (constant blanks b blank) = few_constant b n
  factor_few n inner text c (name blanks word blank is) = record { joins = tt; few = omega arith }
  factor_few n inner text c (inverted blanks {text = t} {c = d} blank h) =
      let i = inner.factors t d h in record { joins = i.joins; few = omega (arith, i.few) }
  factor_few n inner text c (enclosed blanks after {text = t} {c = d} blank h blank-after) =
      let i = inner.rules t d h in
      record { joins = i.joins; few = at_most_more (nat_lt (closeness (seen d)) 4) (open_signs (seen d)) n (all_more (closeness (seen d)) 0 (open_signs (seen d)) n i.few) }

  implication_few : (n : ℕ) (Left : List ℕ → NamedRule → Type 0) → ((text : List ℕ) (c : NamedRule) → Left text c → IsFew 2 (suc n) (seen c)) → AreAllFew n → (text : List ℕ) (c : NamedRule) → Arrow Left (IsImplication n) (codes "=>") implication text c → IsFew 1 (suc n) (seen c)
  implication_few n Left left inner text c (plain h) = looser 1 (suc n) (seen c) (left text c h)
  implication_few n Left left inner text e (arrow blanks {text = front} {later = later} {c = c} {d = d} h blank k) =
      let i = left front c h in
      let j = inner.implications later d k in
      record { joins = (i.joins, j.joins); few = omega (arith, i.few, j.few) }

  rule_few : (n : ℕ) (Left : List ℕ → NamedRule → Type 0) → ((text : List ℕ) (c : NamedRule) → Left text c → IsFew 1 (suc n) (seen c)) → AreAllFew n → (text : List ℕ) (c : NamedRule) → Arrow Left (IsRule n) (codes "<=>") equivalence text c → IsFew 0 (suc n) (seen c)
  rule_few n Left left inner text c (plain h) = looser 0 (suc n) (seen c) (left text c h)
  rule_few n Left left inner text e (arrow blanks {text = front} {later = later} {c = c} {d = d} h blank k) =
      let i = left front c h in
      let j = inner.rules later d k in
      let less = all_more (closeness (seen d)) 0 (open_signs (seen d)) n j.few in
      record { joins = (i.joins, j.joins); few = omega (arith, i.few, less) }

  all_few : (n : ℕ) → AreAllFew n
  unfolding IsFactor IsImplication IsRule
  all_few zero = record { factors = λ text c h. absurd h; implications = λ text c h. absurd h; rules = λ text c h. absurd h }
  all_few (suc n) =
      let inner = all_few n in
      let disjunction = factors_few (Factor (IsFactor n) (IsRule n)) (suc n) (factor_few n inner) in
      let implications = implication_few n (Disjunction (Factor (IsFactor n) (IsRule n))) disjunction inner in
      record {
        factors = factor_few n inner;
        implications = implications;
        rules = rule_few n (Arrow (Disjunction (Factor (IsFactor n) (IsRule n))) (IsImplication n) (codes "=>") implication) implications inner;
      }

  -- a rule that is read
  pub read_joins : (text : List ℕ) (c : NamedRule) → IsRule 65 text c → JoinsTwo (seen c)
  read_joins text c h = ((all_few 65).rules text c h).joins

  pub read_few : (text : List ℕ) (c : NamedRule) → IsRule 65 text c → open_signs (seen c) ≤ 64
  read_few text c h = let less = all_more (closeness (seen c)) 0 (open_signs (seen c)) 65 ((all_few 65).rules text c h).few in omega (arith, less)
