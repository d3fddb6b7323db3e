-- Harvests of one order with the least tables are one.
use Rattle.std.proofs.Common.{◌≡◌, ℕ, zero, suc, ◌<◌, ◌≤◌, max, Bool, true, false, cond, ◌&&◌, ◌==◌, nat_lt, List, [], ◌∷◌, ◌++◌, map, length, slice_index, get_or, refl, sym, ap, ◌∙◌, subst, arith, inl, inr, ◌⊎◌, le_antisymm, eq-eqb, ne_eqb}
use Rattle.std.proofs.lemmas.Bool.{cases_lt, ltb-false}
use Rattle.std.proofs.lemmas.List.{same_lists, get_or_default}
use Rattle.vpg_trail.specs.Page.{Which, Hopeful, Dual, same_table, Literal, Decision, Entry, Lifted, literal_of, choices_of, value_at, table_of, raise_to, raises}
use Rattle.vpg_trail.proofs.PageLemmas.{value_at-append, table_of-at}
use Rattle.vpg_desk.specs.Book.{Family, Harvest, IsSettledPage, raises_of}
use Rattle.vpg_desk.specs.Lawful.{harvested}
use Rattle.vpg_desk.proofs.Raising.{raises-other}
use Rattle.vpg_desk.proofs.Below.{raised_choices}
use Rattle.vpg_engine.specs.Answers.{IsOf, Checks}

-- ---- the values that a commit leaves

own_test : (table : Which) (b : Bool) → (same_table table table && b) ≡ b
own_test Hopeful b = refl
own_test Dual b = refl

module _ (under : List Literal) (page : List Entry) (table : Which) where
  raise_to-own : (v value : ℕ) → value_at table v page ≤ value → max (value_at table v page) (value_at table v (raise_to under page table v value)) ≡ value
  raise_to-own v value above = go (nat_lt (value_at table v page) value) refl
    where
      own : (same_table table table && (v == v)) ≡ true
      own = own_test table (v == v) ∙ eq-eqb v v refl

      go : (b : Bool) → nat_lt (value_at table v page) value ≡ b →
          max (value_at table v page) (value_at table v (cond b (Lifted (record { table = table; vertex = v; old = value_at table v page; new = value; under = under }) ∷ []) [])) ≡ value
      go true e = ap (λ (t : Bool). max (value_at table v page) (max (cond t value 0) 0)) own ∙ omega (arith, above)
      go false e = omega (arith, above, ltb-false _ _ e)

  raise_to-earlier : (n v value : ℕ) → v < n → value_at table v (raise_to under page table n value) ≡ 0
  raise_to-earlier n v value l = go (nat_lt (value_at table n page) value)
    where
      apart : (same_table table table && (v == n)) ≡ false
      apart = own_test table (v == n) ∙ ne_eqb v n (λ (e : v ≡ n). omega (arith, l, e))

      go : (b : Bool) → value_at table v (cond b (Lifted (record { table = table; vertex = n; old = value_at table n page; new = value; under = under }) ∷ []) []) ≡ 0
      go true = ap (λ (t : Bool). max (cond t value 0) 0) apart ∙ omega arith
      go false = refl

  raises-own : (values : List ℕ) (n v : ℕ) → v < n → value_at table v page ≤ slice_index values v → max (value_at table v page) (value_at table v (raises under page table values n)) ≡ slice_index values v
  raises-own values zero v l above = absurd (omega (arith, l))
  raises-own values (suc n) v l above = go (cases_lt v n) (λ less. raises-own values n v less above)
    where
      split : value_at table v (raises under page table values (suc n)) ≡ max (value_at table v (raises under page table values n)) (value_at table v (raise_to under page table n (slice_index values n)))
      split = value_at-append table v (raises under page table values n) (raise_to under page table n (slice_index values n))

      go : (v < n) ⊎ (n ≤ v) → (v < n → max (value_at table v page) (value_at table v (raises under page table values n)) ≡ slice_index values v) →
          max (value_at table v page) (value_at table v (raises under page table values (suc n))) ≡ slice_index values v
      go (inl less) ih = omega (arith, split, raise_to-earlier n v (slice_index values n) less, ih less)
      go (inr more) ih =
          let same : v ≡ n = omega (arith, l, more) in
          let last : max (value_at table v page) (value_at table v (raise_to under page table n (slice_index values n))) ≡ slice_index values v =
          subst (λ (k : ℕ). max (value_at table v page) (value_at table v (raise_to under page table k (slice_index values k))) ≡ slice_index values v) same (raise_to-own v (slice_index values v) above) in
          omega (arith, split, raises-other under page table values n table v (inr more), last)

module _ (family : Family) (made : Harvest) (page : List Entry) where
  abbrev under : List Literal
  under = map literal_of made.decisions

  abbrev first : List Entry
  first = raises under page Hopeful made.hopeful family.vertices

  abbrev second : List Entry
  second = raises under page Dual made.dual family.vertices

  -- where the harvest is on or above the page, the page then has its values
  pub committed_value : (table : Which) (v : ℕ) → v < family.vertices → value_at table v page ≤ slice_index (harvested made table) v →
      value_at table v (page ++ raises_of family made page) ≡ slice_index (harvested made table) v
  committed_value Hopeful v l above =
      omega (
        arith,
        value_at-append Hopeful v page (first ++ second),
        value_at-append Hopeful v first second,
        raises-other under page Dual made.dual family.vertices Hopeful v (inl refl),
        raises-own under page Hopeful made.hopeful family.vertices v l above,
      )
  committed_value Dual v l above =
      omega (
        arith,
        value_at-append Dual v page (first ++ second),
        value_at-append Dual v first second,
        raises-other under page Hopeful made.hopeful family.vertices Dual v (inl refl),
        raises-own under page Dual made.dual family.vertices v l above,
      )

-- ---- the least of an order

module _ (family : Family) (decisions : List Decision) (hopeful dual : List ℕ) where
  abbrev Of : Harvest → Type 0
  Of made = IsOf family decisions hopeful dual made

  abbrev IsLeast : Harvest → Type 0
  IsLeast made = (other : Harvest) → Of other → (table : Which) (v : ℕ) → v < family.vertices → slice_index (harvested other table) v ≤ slice_index (harvested made table) v

  table_len : (made : Harvest) → Of made → (table : Which) → length (harvested made table) ≡ family.vertices
  table_len made of Hopeful = of.hopeful_len
  table_len made of Dual = of.dual_len

  -- harvests with equal tables are one
  pub same_harvests : (one other : Harvest) → Of one → Of other → ((table : Which) → harvested one table ≡ harvested other table) → one ≡ other
  same_harvests one other of also same =
      λ i. record {
        is_of_this_desk = (of.of_this_desk ∙ sym also.of_this_desk) i;
        decisions = (of.same_decisions ∙ sym also.same_decisions) i;
        hopeful = same Hopeful i;
        dual = same Dual i;
      }

  least_are_one : (one other : Harvest) → Of one → Of other → IsLeast one → IsLeast other → one ≡ other
  least_are_one one other of also least lower =
      same_harvests one other of also (λ table. same_lists (harvested one table) (harvested other table) (table_len one of table ∙ sym (table_len other also table)) (same table))
    where
      same : (table : Which) (v d : ℕ) → v < length (harvested one table) → get_or (harvested one table) v d ≡ get_or (harvested other table) v d
      same table v d l =
          let h : v < family.vertices = subst (λ (n : ℕ). v < n) (table_len one of table) l in
          let k : v < length (harvested other table) = subst (λ (n : ℕ). v < n) (sym (table_len other also table)) h in
          get_or_default (harvested one table) v d 0 l ∙ le_antisymm (lower one of table v h) (least other also table v h) ∙ get_or_default (harvested other table) v 0 d k

  -- one that passes `check`
  checked_least : (made : Harvest) → Of made → Checks family made → IsLeast made
  checked_least made of checks other also table v l = also.lawful table v l (harvested made table) (subst (λ (ds : List Decision). family.IsProgress (map literal_of ds) table (harvested made table)) (of.same_decisions ∙ sym also.same_decisions) (progress table))
    where
      progress : (table : Which) → family.IsProgress (map literal_of made.decisions) table (harvested made table)
      progress Hopeful = checks.0
      progress Dual = checks.1

  pub checked_are_one : (one other : Harvest) → Of one → Of other → Checks family one → Checks family other → one ≡ other
  checked_are_one one other of also checks passes = least_are_one one other of also (checked_least one of checks) (checked_least other also passes)

  module _ (page : List Entry) (present : map literal_of decisions ≡ choices_of page) (hopeful_is : hopeful ≡ table_of Hopeful page family.vertices) (dual_is : dual ≡ table_of Dual page family.vertices) where
    above : (made : Harvest) → Of made → (table : Which) (v : ℕ) → v < family.vertices → value_at table v page ≤ slice_index (harvested made table) v
    above made of Hopeful v l = subst (λ (n : ℕ). n ≤ slice_index made.hopeful v) (ap (λ (t : List ℕ). slice_index t v) hopeful_is ∙ table_of-at Hopeful page family.vertices v l) (of.hopeful_above v l)
    above made of Dual v l = subst (λ (n : ℕ). n ≤ slice_index made.dual v) (ap (λ (t : List ℕ). slice_index t v) dual_is ∙ table_of-at Dual page family.vertices v l) (of.dual_above v l)

    -- one that settles the page
    settling_least : (made : Harvest) → Of made → IsSettledPage family (page ++ raises_of family made page) → IsLeast made
    settling_least made of settled other also table v l =
        subst (λ (n : ℕ). slice_index (harvested other table) v ≤ n) (table_of-at table (page ++ raises_of family made page) family.vertices v l ∙ committed_value family made page table v l (above made of table v l))
        (also.lawful table v l (table_of table (page ++ raises_of family made page) family.vertices)
        (subst (λ (cs : List Literal). family.IsProgress cs table (table_of table (page ++ raises_of family made page) family.vertices))
        (raised_choices family made page ∙ sym present ∙ ap (map literal_of) (sym also.same_decisions)) (settled table)))

    pub settling_are_one : (one other : Harvest) → Of one → Of other → IsSettledPage family (page ++ raises_of family one page) → IsSettledPage family (page ++ raises_of family other page) → one ≡ other
    settling_are_one one other of also settled settles = least_are_one one other of also (settling_least one of settled) (settling_least other also settles)
