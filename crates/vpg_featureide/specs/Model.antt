-- The features of a feature model, element by element: the format of FeatureIDE (Thüm et al., 2014).
use Rattle.std.specs.Prelude.{ℕ, List, [], ◌∷◌, ◌++◌, length, Bool, false, not, ◌&&◌, ◌||◌, if◌then◌else◌, codes, bytes_eq, nat_le, nat_lt, is_some, slice_index_or, Option, Some, None, Result, Ok, Err}
use Rattle.std.specs.List.{list_all}
use Rattle.vpg_features.specs.Names.{is_name_byte, starts_as_name, constant_of, index_of}
use Rattle.vpg_xml.specs.Elements.{Attribute, Element, Document}
use Rattle.vpg_featureide.specs.Roles.{Role, Outside, role_under, is_feature}
use Rattle.vpg_featureide.specs.declared.fault.ModelFault.{ModelFault}
use Rattle.vpg_featureide.specs.declared.fault.ModelFault.TheVariants as faults
pub use Rattle.vpg_featureide.specs.declared.builder.Member.{Member}

-- What the elements up to here are. `kinds` are the roles of the features, `members` the places of those below the
-- root, each in their order. `roles` are those of the elements, and `numbers` how many features begin before each.
pub record Seen : Type 0 where
  pub names : List (List ℕ)
  pub kinds : List Role
  pub members : List Member
  pub roles : List Role
  pub numbers : List ℕ

abbrev pub nothing : Seen
nothing = record { names = []; kinds = []; members = []; roles = []; numbers = [] }

-- the value of the attribute with this name
abbrev pub value_of : List ℕ → List Attribute → Option (List ℕ)
value_of key [] = None
value_of key (a ∷ rest) = if bytes_eq a.name key then Some a.value else value_of key rest

abbrev pub is_flag : List ℕ → Bool
is_flag key = bytes_eq key (codes "mandatory") || (bytes_eq key (codes "abstract") || bytes_eq key (codes "hidden"))

abbrev pub is_constant : List ℕ → Bool
is_constant value = bytes_eq value (codes "true") || bytes_eq value (codes "false")

-- the first attribute whose value is unknown
abbrev pub unknown_value : List Attribute → Option ℕ
unknown_value [] = None
unknown_value (a ∷ rest) = if is_flag a.name && not (is_constant a.value) then Some a.at else unknown_value rest

abbrev pub says_true : Option (List ℕ) → Bool
says_true None = false
says_true (Some value) = bytes_eq value (codes "true")

-- whether a feature is mandatory
abbrev pub is_mandatory : List Attribute → Bool
is_mandatory attributes = says_true (value_of (codes "mandatory") attributes)

-- whether a word is a feature name
abbrev pub is_name : List ℕ → Bool
is_name name =
    starts_as_name name && (list_all is_name_byte name && (nat_le (length name) 64 && not (is_some (constant_of name))))

-- why a name cannot be added
abbrev pub name_fault : List (List ℕ) → List ℕ → ℕ → Option ModelFault
name_fault names name at =
    if not (is_name name) then Some (faults.BadName at)
    else (if is_some (index_of names name) then Some (faults.Twice at)
    else (if nat_lt (length names) 512 then None else Some (faults.TooMany at)))

-- the role of the element around
abbrev pub around : List Role → Option ℕ → Role
around roles None = Outside
around roles (Some p) = slice_index_or roles p Outside

abbrev pub with_role : Seen → Role → Seen
with_role s kind = record {
  names = s.names;
  kinds = s.kinds;
  members = s.members;
  roles = s.roles ++ kind ∷ [];
  numbers = s.numbers ++ length s.names ∷ [];
}

-- the number of the feature of the element around
abbrev pub number_around : Seen → Option ℕ → ℕ
number_around s None = 0
number_around s (Some p) = slice_index_or s.numbers p 0

-- the place of a feature: none for the root
abbrev pub member_of : Seen → Element → Role → List Member
member_of s e outer =
    if is_feature outer
    then record { parent = number_around s e.parent; is_mandatory = is_mandatory e.tag.attributes } ∷ []
    else []

abbrev pub with_feature : Seen → Element → Role → List ℕ → Seen
with_feature s e kind name = record {
  names = s.names ++ name ∷ [];
  kinds = s.kinds ++ kind ∷ [];
  members = s.members ++ member_of s e (around s.roles e.parent);
  roles = s.roles ++ kind ∷ [];
  numbers = s.numbers ++ length s.names ∷ [];
}

abbrev pub unless_fault : Option ModelFault → Seen → Result Seen ModelFault
unless_fault (Some fault) s = Err fault
unless_fault None s = Ok s

abbrev pub named : Seen → Element → Role → Option (List ℕ) → Result Seen ModelFault
named s e kind None = Err (faults.NoName e.at)
named s e kind (Some name) = unless_fault (name_fault s.names name e.at) (with_feature s e kind name)

-- a second feature that is below none
abbrev pub is_second : Seen → Element → Bool
is_second s e = not (is_feature (around s.roles e.parent)) && nat_lt 0 (length s.names)

abbrev pub valued : Seen → Element → Role → Option ℕ → Result Seen ModelFault
valued s e kind (Some at) = Err (faults.UnknownValue at)
valued s e kind None =
    if is_second s e then Err (faults.SecondRoot e.at) else named s e kind (value_of (codes "name") e.tag.attributes)

abbrev pub with_element : Seen → Element → Option Role → Result Seen ModelFault
with_element s e None = Err (faults.UnknownElement e.at)
with_element s e (Some kind) =
    if is_feature kind then valued s e kind (unknown_value e.tag.attributes) else Ok (with_role s kind)

-- what the elements are with one more
abbrev pub step : Seen → Element → Result Seen ModelFault
step s e = with_element s e (role_under (around s.roles e.parent) e.tag.name)

abbrev pub and_then : {A : Type 0} → Result Seen ModelFault → (Seen → Result A ModelFault) → Result A ModelFault
and_then (Err e) f = Err e
and_then (Ok s) f = f s

-- what all elements are, in their order
abbrev pub seen_with : Seen → Document → Result Seen ModelFault
seen_with s [] = Ok s
seen_with s (e ∷ rest) = and_then (step s e) (λ t. seen_with t rest)
