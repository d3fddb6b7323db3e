-- The constraints of a feature model, by the nesting of their elements, and the model of a document: the format of
-- FeatureIDE (Thüm et al., 2014).
use Rattle.std.specs.Prelude.{◌≡◌, ℕ, zero, suc, nat_le, ◌⊎◌, List, [], ◌∷◌, ◌++◌, take, drop, Bool, true, false, not, ◌&&◌, ◌==◌, if◌then◌else◌, codes, bytes_eq, slice_get, slice_index_or, Option, Some, None, Result, Ok, Err}
use Rattle.std.specs.List.{list_all, prefix_len}
use Rattle.vpg_features.specs.Names.{index_of}
use Rattle.vpg_rules.specs.Constraint.{Constraint, Parts, feature, negation, all, any, implication, equivalence}
use Rattle.vpg_rules.specs.View.{parts_of}
use Rattle.vpg_tree.specs.Laws.{open_signs}
use Rattle.vpg_xml.specs.Elements.{Element, Document}
use Rattle.vpg_xml.specs.Tokens.{is_blank}
use Rattle.vpg_xml.specs.Nesting.{Spells}
use Rattle.vpg_xml.specs.Faults.{IsAt}
use Rattle.vpg_xml.specs.declared.fault.XmlFault.{XmlFault}
use Rattle.vpg_xml.specs.declared.fault.XmlFault.TheVariants as xml_faults
use Rattle.vpg_featureide.specs.Roles.{Role, Outside, Rule, Formula}
use Rattle.vpg_featureide.specs.Model.{Seen, Member, nothing, seen_with}
use Rattle.vpg_featureide.specs.declared.fault.ModelFault.{ModelFault}
use Rattle.vpg_featureide.specs.declared.fault.ModelFault.TheVariants as faults

infixl 10 ◌>>=◌
abbrev pub ◌>>=◌ : {A B : Type 0} → Result A ModelFault → (A → Result B ModelFault) → Result B ModelFault
(Err e) >>= f = Err e
(Ok x) >>= f = f x

abbrev pub is_child : ℕ → Option ℕ → Bool
is_child i None = false
is_child i (Some p) = p == i

abbrev pub is_formula : Role → Bool
is_formula Formula = true
is_formula _ = false

abbrev pub is_rule : Role → Bool
is_rule Rule = true
is_rule _ = false

-- whether an element at an index is an operand of the one at another index
abbrev pub is_operand : List Role → ℕ → ℕ → Element → Bool
is_operand roles i j e = is_child i e.parent && is_formula (slice_index_or roles j Outside)

-- The operands of an element, after these, among the elements from an index on. Each is read so.
abbrev pub operands_with :
    (ℕ → Result (Constraint ℕ) ModelFault) → List Role → ℕ → ℕ → List (Constraint ℕ) → Document →
    Result (List (Constraint ℕ)) ModelFault
operands_with read roles i j before [] = Ok before
operands_with read roles i j before (e ∷ rest) =
    if is_operand roles i j e
    then (read j >>= λ c. operands_with read roles i (suc j) (before ++ c ∷ []) rest)
    else operands_with read roles i (suc j) before rest

-- ---- one element

abbrev pub after_blanks : List ℕ → List ℕ
after_blanks text = drop (prefix_len is_blank text) text

abbrev pub word_len : List ℕ → ℕ
word_len text = prefix_len (λ b. not (is_blank b)) text

-- the feature whose name is the only word of a text
abbrev pub feature_in : List (List ℕ) → List ℕ → Option ℕ
feature_in names text =
    if list_all is_blank (drop (word_len text) text) then index_of names (take (word_len text) text) else None

abbrev pub known : ℕ → Option ℕ → Result (Constraint ℕ) ModelFault
known at None = Err (faults.UnknownName at)
known at (Some f) = Ok (feature f)

abbrev pub variable : List (List ℕ) → Element → List (Constraint ℕ) → Result (Constraint ℕ) ModelFault
variable names e [] = known e.at (feature_in names (after_blanks e.text))
variable names e (c ∷ cs) = Err (faults.Operands e.at)

abbrev pub alone : ℕ → (Constraint ℕ → Constraint ℕ) → List (Constraint ℕ) → Result (Constraint ℕ) ModelFault
alone at make [] = Err (faults.Operands at)
alone at make (c ∷ []) = Ok (make c)
alone at make (c ∷ d ∷ cs) = Err (faults.Operands at)

abbrev pub several : ℕ → (Parts ℕ → Constraint ℕ) → List (Constraint ℕ) → Result (Constraint ℕ) ModelFault
several at make [] = Err (faults.Operands at)
several at make (c ∷ []) = Ok c
several at make (c ∷ d ∷ cs) = Ok (make (parts_of (c ∷ d ∷ cs)))

abbrev pub pair :
    ℕ → (Constraint ℕ → Constraint ℕ → Constraint ℕ) → List (Constraint ℕ) → Result (Constraint ℕ) ModelFault
pair at make [] = Err (faults.Operands at)
pair at make (c ∷ []) = Err (faults.Operands at)
pair at make (c ∷ d ∷ []) = Ok (make c d)
pair at make (c ∷ d ∷ b ∷ cs) = Err (faults.Operands at)

-- The constraint of an element, by its operands: `var`, `not`, `conj`, `disj`, `imp`, `eq`. A conjunction or
-- disjunction of one operand is that operand.
abbrev pub joined : List (List ℕ) → Element → List (Constraint ℕ) → Result (Constraint ℕ) ModelFault
joined names e cs =
    if bytes_eq e.tag.name (codes "var") then variable names e cs
    else (if bytes_eq e.tag.name (codes "not") then alone e.at negation cs
    else (if bytes_eq e.tag.name (codes "conj") then several e.at all cs
    else (if bytes_eq e.tag.name (codes "disj") then several e.at any cs
    else (if bytes_eq e.tag.name (codes "imp") then pair e.at implication cs
    else pair e.at equivalence cs))))

abbrev pub joined_if : List (List ℕ) → Option Element → List (Constraint ℕ) → Result (Constraint ℕ) ModelFault
joined_if names None cs = Err (faults.Operands 0)
joined_if names (Some e) cs = joined names e cs

-- The constraint of the element at an index. At most this many elements nest in it.
abbrev pub formula_with :
    ℕ → List (List ℕ) → List Role → Document → ℕ → Result (Constraint ℕ) ModelFault
formula_with zero names roles d i = Err (faults.Operands 0)
formula_with (suc n) names roles d i =
    operands_with (formula_with n names roles d) roles i 0 [] d >>= λ cs. joined_if names (slice_get d i) cs

-- a constraint whose text can be read: at most 64 signs are open at one place
abbrev pub shallow : ℕ → Constraint ℕ → Result (Constraint ℕ) ModelFault
shallow at c = if nat_le (open_signs c) 64 then Ok c else Err (faults.TooDeep at)

-- the constraint of a rule, which has one operand
abbrev pub rule_at : List (List ℕ) → List Role → Document → ℕ → Element → Result (Constraint ℕ) ModelFault
rule_at names roles d i e =
    operands_with (formula_with 64 names roles d) roles i 0 [] d >>= λ cs. (alone e.at (λ c. c) cs >>= shallow e.at)

-- the constraints of the rules, after these, among the elements from an index on
abbrev pub rules_with :
    List (List ℕ) → List Role → Document → ℕ → List (Constraint ℕ) → Document → Result (List (Constraint ℕ)) ModelFault
rules_with names roles d i before [] = Ok before
rules_with names roles d i before (e ∷ rest) =
    if is_rule (slice_index_or roles i Outside)
    then (rule_at names roles d i e >>= λ c. rules_with names roles d (suc i) (before ++ c ∷ []) rest)
    else rules_with names roles d (suc i) before rest

-- ---- models

-- A feature model. `kinds` says what each feature asks of its children, and `members` where each feature below the root
-- is.
pub record FeatureModel : Type 0 where
  pub names : List (List ℕ)
  pub kinds : List Role
  pub members : List Member
  pub constraints : List (Constraint ℕ)

abbrev pub model_with : Seen → List (Constraint ℕ) → FeatureModel
model_with s cs = record { names = s.names; kinds = s.kinds; members = s.members; constraints = cs }

abbrev pub with_constraints : Document → Seen → List (List ℕ) → Result FeatureModel ModelFault
with_constraints d s [] = Err faults.NoRoot
with_constraints d s (name ∷ names) = rules_with s.names s.roles d 0 [] d >>= λ cs. Ok (model_with s cs)

-- the model of a document, or its first fault
abbrev pub model_of : Document → Result FeatureModel ModelFault
model_of d = seen_with nothing d >>= λ s. with_constraints d s s.names

-- the text spells a document of this model
pub record IsModelOf (text : List ℕ) (model : FeatureModel) : Type 0 where
  pub document : Document
  pub spells : Spells text document
  pub is : model_of document ≡ Ok model

-- the text spells a document that is refused so
pub record IsFaulty (text : List ℕ) (fault : ModelFault) : Type 0 where
  pub document : Document
  pub spells : Spells text document
  pub is : model_of document ≡ Err fault

-- memory ran out, or the document is refused so
abbrev pub IsRefusedAs : Document → ModelFault → Type 0
IsRefusedAs d fault = (fault ≡ faults.Memory) ⊎ (model_of d ≡ Err fault)

-- the fault of a model for one of XML
abbrev pub of_xml : XmlFault → ModelFault
of_xml xml_faults.Memory = faults.Memory
of_xml fault = faults.Xml fault

-- memory ran out, or the text is no document, and XML has this fault, or its document is refused so
abbrev pub IsFaultOf : List ℕ → ModelFault → Type 0
IsFaultOf text fault =
    (fault ≡ faults.Memory) ⊎ (((x : XmlFault) × (fault ≡ faults.Xml x) × IsAt text x) ⊎ IsFaulty text fault)
