-- The fault of a row that spells no rule.
use Rattle.std.proofs.Common.{◌≡◌, ◌≢◌, ℕ, Bool, true, cond, List, refl, sym, ap, subst, ◌∙◌}
use Rattle.vpg_rules.specs.Grammar as grammar
use Rattle.vpg_rules.specs.Grammar.{NamedRule}
use Rattle.vpg_rules.specs.declared.fault.RuleFault.{RuleFault}
use Rattle.vpg_rules.specs.declared.fault.RuleFault.TheVariants as rules
use Rattle.vpg_uvl.specs.Rows.{Row}
use Rattle.vpg_uvl.specs.Arrows.{is_chained, enclosed, grouped}
use Rattle.vpg_uvl.specs.Quotes.{unquoted}
use Rattle.vpg_uvl.specs.Items.{Reason, Indentation, UnknownFeature}
use Rattle.vpg_uvl.specs.Model.{SpellsGrouped, HasReason, TextFault, Refused, Ended, Memory}
use Rattle.vpg_uvl.specs.Views.{IsOfRule, TellsRule, IsPlaced, IsRuleFault, IsRowFault}

pub grouped_chain : (text : List ℕ) → is_chained 0 text ≡ true → grouped text ≡ enclosed text
grouped_chain text e = ap (λ (b : Bool). cond b (enclosed text) text) e

-- ---- the rule of a text

pub chain_spelled : (text chain : List ℕ) (c : NamedRule) → is_chained 0 text ≡ true → chain ≡ enclosed text → SpellsGrouped text c → grammar.Spells chain c
chain_spelled text chain c e is spells = subst (λ (t : List ℕ). grammar.Spells t c) (grouped_chain text e ∙ sym is) spells.spelled

-- ---- its faults

-- a refusal within a row that spells nothing
placed_fault : (row : Row) (text : List ℕ) (fault : TextFault) → ((d : NamedRule) → SpellsGrouped text d → ⊥) → TellsRule fault → IsPlaced row fault → IsRuleFault row text fault
placed_fault row text Memory none tells h = tt
placed_fault row text Ended none tells h = h
placed_fault row text (Refused reason at) none tells h = (none, tells, h)

memory_is : (row : Row) (text : List ℕ) (told : TextFault) → told ≡ Memory → IsRuleFault row text told
memory_is row text told is = subst (IsRuleFault row text) (sym is) tt

pub rule_is_faulty : (row : Row) (text : List ℕ) (fault : RuleFault) (told : TextFault) → (fault ≢ rules.Memory → IsPlaced row told) → (fault ≡ rules.Memory → told ≡ Memory)
    → ((d : NamedRule) → SpellsGrouped text d → fault ≡ rules.Memory) → TellsRule told → IsRuleFault row text told
rule_is_faulty row text rules.Memory told placed memory only tells = memory_is row text told (memory refl)
rule_is_faulty row text (rules.Syntax at) told placed memory only tells =
    let other : rules.Syntax at ≢ rules.Memory = λ e. cc in placed_fault row text told (λ d spells. other (only d spells)) tells (placed other)
rule_is_faulty row text (rules.TooDeep at) told placed memory only tells =
    let other : rules.TooDeep at ≢ rules.Memory = λ e. cc in placed_fault row text told (λ d spells. other (only d spells)) tells (placed other)

-- ---- the fault of a row

reason_of : (names : List (List ℕ)) (row : Row) (reason : Reason) → ((d : NamedRule) → SpellsGrouped (unquoted row.bytes) d → ⊥) → IsOfRule reason → HasReason names row reason
reason_of names row Indentation none tells = absurd tells
reason_of names row UnknownFeature none tells = absurd tells
reason_of names row _ none tells = none

pub row_is_faulty : (names : List (List ℕ)) (row : Row) (text : List ℕ) (fault : TextFault) → text ≡ unquoted row.bytes → IsRuleFault row text fault → IsRowFault names row fault
row_is_faulty names row text Memory is h = tt
row_is_faulty names row text Ended is h = h
row_is_faulty names row text (Refused reason at) is h =
    let none : (d : NamedRule) → SpellsGrouped (unquoted row.bytes) d → ⊥ = λ d spells. h.0 d (subst (λ (t : List ℕ). SpellsGrouped t d) (sym is) spells) in
    ((λ c spells. none spells.rule spells.spelled), h.2, reason_of names row reason none h.1)
