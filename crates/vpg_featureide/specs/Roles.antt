-- What an element of a feature model is, by the element around it: the format of FeatureIDE (Thüm et al., 2014). Text
-- outside `var`, and attributes that no definition names, are read over.
use Rattle.std.specs.Prelude.{ℕ, List, Bool, true, false, ◌||◌, if◌then◌else◌, codes, bytes_eq, Option, Some, None}
pub use Rattle.vpg_featureide.specs.declared.role.Role.{Role}
pub use Rattle.vpg_featureide.specs.declared.role.Role.TheVariants.{Outside, Whole, Structure, And, Or, Alternative, Leaf, Constraints, Rule, Formula, Over}

-- an element that is a feature, by its children's group
abbrev pub feature_role : List ℕ → Option Role
feature_role name =
    if bytes_eq name (codes "and") then Some And
    else (if bytes_eq name (codes "or") then Some Or
    else (if bytes_eq name (codes "alt") then Some Alternative
    else (if bytes_eq name (codes "feature") then Some Leaf else None)))

-- an element of a feature that says nothing of products
abbrev pub is_remark : List ℕ → Bool
is_remark name =
    bytes_eq name (codes "description") || (bytes_eq name (codes "graphics") || bytes_eq name (codes "attribute"))

abbrev pub remark_role : List ℕ → Option Role
remark_role name = if is_remark name then Some Over else None

abbrev pub or_remark : List ℕ → Option Role → Option Role
or_remark name (Some role) = Some role
or_remark name None = remark_role name

-- an operator of a constraint
abbrev pub is_operator : List ℕ → Bool
is_operator name =
    bytes_eq name (codes "var") || (bytes_eq name (codes "not") || (bytes_eq name (codes "conj")
    || (bytes_eq name (codes "disj") || (bytes_eq name (codes "imp") || bytes_eq name (codes "eq")))))

abbrev pub formula_role : List ℕ → Option Role
formula_role name = if is_operator name then Some Formula else None

abbrev pub whole_role : List ℕ → Option Role
whole_role name =
    if bytes_eq name (codes "featureModel") || bytes_eq name (codes "extendedFeatureModel") then Some Whole else None

-- a part of a feature model: its features, its constraints, or one that is read over
abbrev pub part_role : List ℕ → Option Role
part_role name =
    if bytes_eq name (codes "struct") then Some Structure
    else (if bytes_eq name (codes "constraints") then Some Constraints
    else (if bytes_eq name (codes "properties") || (bytes_eq name (codes "calculations")
    || (bytes_eq name (codes "comments") || bytes_eq name (codes "featureOrder"))) then Some Over
    else None))

abbrev pub rule_role : List ℕ → Option Role
rule_role name = if bytes_eq name (codes "rule") then Some Rule else None

-- The role of an element with this name in an element of this role, if it may be there.
abbrev pub role_under : Role → List ℕ → Option Role
role_under Outside name = whole_role name
role_under Whole name = part_role name
role_under Structure name = feature_role name
role_under And name = or_remark name (feature_role name)
role_under Or name = or_remark name (feature_role name)
role_under Alternative name = or_remark name (feature_role name)
role_under Leaf name = remark_role name
role_under Constraints name = rule_role name
role_under Rule name = or_remark name (formula_role name)
role_under Formula name = formula_role name
role_under Over name = Some Over

abbrev pub is_feature : Role → Bool
is_feature And = true
is_feature Or = true
is_feature Alternative = true
is_feature Leaf = true
is_feature Outside = false
is_feature Whole = false
is_feature Structure = false
is_feature Constraints = false
is_feature Rule = false
is_feature Formula = false
is_feature Over = false
