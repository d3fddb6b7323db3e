-- The feature tree that a feature model stands for. Each feature has two groups of children: the first has those of an
-- `or`, those of an `alt`, or the mandatory ones of an `and`, the second the others. This project's own.
use Rattle.std.specs.Prelude.{◌≡◌, Ok, ℕ, suc, ◌+◌, ◌*◌, List, [], ◌∷◌, ◌++◌, map, Bool, true, false, not, ◌&&◌, ◌==◌, if◌then◌else◌, slice_index_or}
use Rattle.std.specs.List.{list_any}
use Rattle.vpg_tree.specs.Tree.{Tree}
use Rattle.vpg_tree.specs.declared.group.Group.{Group}
use Rattle.vpg_tree.specs.declared.group.Kind.{Kind}
use Rattle.vpg_tree.specs.declared.group.Kind.TheVariants as groups
use Rattle.vpg_xml.specs.Elements.{Document}
use Rattle.vpg_featureide.specs.Roles.{Role, Outside, And}
use Rattle.vpg_featureide.specs.declared.role.Role.TheVariants as roles
use Rattle.vpg_featureide.specs.Model.{Member}
use Rattle.vpg_featureide.specs.Formulas.{FeatureModel, model_of, IsModelOf}

abbrev pub has_child : List Member → ℕ → Bool
has_child members f = list_any (λ m. m.parent == f) members

-- what a feature asks of its first group; one without children asks nothing
abbrev pub kind_of : Role → Bool → Kind
kind_of roles.Or true = groups.Or
kind_of roles.Alternative true = groups.Alternative
kind_of _ _ = groups.Mandatory

-- the groups of a feature
abbrev pub groups_of : List Member → ℕ → Role → List Group
groups_of members f role =
    record { parent = f; kind = kind_of role (has_child members f) } ∷ record { parent = f; kind = groups.Optional }
    ∷ []

-- the groups of features, from the number of the first one on
abbrev pub groups_from : List Member → ℕ → List Role → List Group
groups_from members f [] = []
groups_from members f (role ∷ rest) = groups_of members f role ++ groups_from members (suc f) rest

abbrev pub is_and : Role → Bool
is_and And = true
is_and _ = false

-- the number of a member's group
abbrev pub place_of : List Role → Member → ℕ
place_of kinds m =
    if is_and (slice_index_or kinds m.parent Outside) && not m.is_mandatory then 2 * m.parent + 1 else 2 * m.parent

-- the tree of a model
abbrev pub tree_of : FeatureModel → Tree
tree_of m = record {
  names = m.names;
  groups = groups_from m.members 0 m.kinds;
  places = map (place_of m.kinds) m.members;
  constraints = m.constraints;
}

-- the text spells a document of a model that stands for this tree
pub record IsTreeOf (text : List ℕ) (tree : Tree) : Type 0 where
  pub model : FeatureModel
  pub spelled : IsModelOf text model
  pub is : tree ≡ tree_of model

-- the document is of a model that stands for this tree
pub record IsTreeIn (d : Document) (tree : Tree) : Type 0 where
  pub model : FeatureModel
  pub read : model_of d ≡ Ok model
  pub is : tree ≡ tree_of model
