-- The one product of a full table.
use Rattle.std.proofs.Common.{◌≡◌, ◌↔◌, ℕ, Bool, IsTrue, true, false, List, length, map, get_or, refl, sym, ◌∙◌, subst, arith}
use Rattle.std.proofs.lemmas.List.{ext_get_or, get_or-map, length-map}
use Rattle.vpg_guards.specs.declared.tri.Tri.{Tri}
use Rattle.vpg_guards.specs.declared.tri.Tri.TheVariants.{No, Unknown, Yes}
use Rattle.vpg_guards.specs.Known.{Agrees, AreAllKnown}
use Rattle.vpg_diagram.specs.declared.clause.Literal.{Literal}
use Rattle.vpg_diagram.specs.FeatureDiagram.{Line, IsDiagram, feature_count}
use Rattle.vpg_diagram.specs.Clauses.{clauses_of, counts_of}
use Rattle.vpg_partial.specs.Known.{IsFullConfiguration}
use Rattle.vpg_partial.specs.KnownTable.{is_known_as}
use Rattle.vpg_partial.specs.TableLaws.{AreChoicesOf, IsKnownTable, IsOnlyRemaining}
use Rattle.vpg_partial.proofs.Tables.{remaining_products_complete, full_tables_are_full, full_tables_have_one_product}

-- what is known decides a value that agrees with it
decided : (t : Tri) (b : Bool) → (t ≡ Unknown → ⊥) → Agrees t b → b ≡ is_known_as t true
decided No b n a = a
decided Unknown b n a = absurd (n refl)
decided Yes b n a = a

pub only_remaining : (lines : List Line) (choices : List Literal) (known : List Tri) (features : List Bool) → IsDiagram lines → AreChoicesOf lines choices → IsKnownTable lines choices known →
    AreAllKnown (length known) known → features ≡ map (λ t. is_known_as t true) known → IsOnlyRemaining lines choices features
only_remaining lines choices known features ok below t full e =
    let one = full_tables_have_one_product lines choices known ok below t (subst (λ (n : ℕ). AreAllKnown n known) t.length_is full) in
    let lengths : length one.0 ≡ length known = one.1.product.length_is ∙ sym t.length_is in
    let same : one.0 ≡ features = ext_get_or false one.0 (map (λ x. is_known_as x true) known) (lengths ∙ sym (length-map known (λ x. is_known_as x true)))
    (λ f l. decided (get_or known f Unknown) (get_or one.0 f false) (full f (omega (arith, l, lengths))) (remaining_products_complete lines choices known one.0 ok t one.1 f)
    ∙ sym (get_or-map (λ x. is_known_as x true) known f Unknown false (omega (arith, l, lengths)))) ∙ sym e in
    subst (IsOnlyRemaining lines choices) same (record { remaining = one.1; only = one.2 })

-- a test for a full table is one for a full configuration
pub full_by_table : (lines : List Line) (choices : List Literal) (known : List Tri) (full : Bool) → IsTrue full ↔ AreAllKnown (length known) known → IsKnownTable lines choices known →
    IsTrue full ↔ IsFullConfiguration (clauses_of lines) (counts_of lines) choices (feature_count lines)
full_by_table lines choices known full e t =
    let table = full_tables_are_full lines choices known t in (
      (λ h. table.0 (subst (λ (n : ℕ). AreAllKnown n known) t.length_is (e.0 h))),
      (λ h. e.1 (subst (λ (n : ℕ). AreAllKnown n known) (sym t.length_is) (table.1 h))),
    )
