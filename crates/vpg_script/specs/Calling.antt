-- The meaning of lines with names for vertices. This project's own.
use Rattle.std.specs.Prelude.{◌≡◌, ℕ, Bool, not, ◌||◌, ◌==◌, if◌then◌else◌, List, [], map, Option, Some, None, is_some, option_map, bytes_eq}
use Rattle.std.specs.List.{find, list_all, list_any}
use Rattle.vpg_features.specs.Names.{index_of}
use Rattle.vpg_script.specs.declared.look.FeatureLook.{FeatureLook}
use Rattle.vpg_script.specs.declared.look.FeatureLook.TheVariants.{Known, Uses, Why}
use Rattle.vpg_script.specs.declared.look.VertexLook.TheVariants as vertex_looks
use Rattle.vpg_script.specs.Script.{Vertex, Numbered, Named, Look, OfPage, OfVertex, OfVertices, OfClaims, OfFeature, OfChoice, Command, Lift, Looks, Request}

-- the vertex of this identifier has this name
pub record Calling : Type 0 where
  pub name : List ℕ
  pub identifier : ℕ

-- ---- names

abbrev pub is_called : List ℕ → Calling → Bool
is_called name calling = bytes_eq calling.name name

-- whether a vertex has the name
abbrev pub calls : List Calling → List ℕ → Bool
calls callings name = list_any (is_called name) callings

-- the identifier of the first vertex with the name
abbrev pub first_called : List Calling → List ℕ → Option ℕ
first_called callings name = option_map (λ calling. calling.identifier) (find (is_called name) callings)

-- whether no other vertex has the name
abbrev pub is_alone : List Calling → List ℕ → ℕ → Bool
is_alone callings name identifier =
    list_all (λ calling. not (is_called name calling) || (calling.identifier == identifier)) callings

abbrev pub if_alone : List Calling → List ℕ → Option ℕ → Option ℕ
if_alone callings name None = None
if_alone callings name (Some identifier) = if is_alone callings name identifier then Some identifier else None

-- the identifier that a name stands for: that of the vertex with the name, if there is exactly one
abbrev pub identifier_of : List Calling → List ℕ → Option ℕ
identifier_of callings name = if_alone callings name (first_called callings name)

-- ---- lines

abbrev pub numbered_or : List ℕ → Option ℕ → Vertex
numbered_or name None = Named name
numbered_or name (Some identifier) = Numbered identifier

-- A vertex of a line, by its identifier if its name stands for one. Another name stays, and no game has such a vertex.
abbrev pub meant_vertex : List Calling → Vertex → Vertex
meant_vertex callings (Numbered identifier) = Numbered identifier
meant_vertex callings (Named name) = numbered_or name (identifier_of callings name)

-- The look of `why` at a name: at the feature of this name, if there is one, or at the vertex of this name.
abbrev pub meant_name : (is_feature is_vertex : Bool) → List Calling → List ℕ → Look
meant_name is_feature is_vertex callings name =
    if is_feature || not is_vertex then OfFeature Why name
    else OfVertex vertex_looks.Why (meant_vertex callings (Named name))

-- a look at a feature, over these features: only `why` has a second meaning
abbrev pub meant_feature : List Calling → List (List ℕ) → FeatureLook → List ℕ → Look
meant_feature callings features Known name = OfFeature Known name
meant_feature callings features Uses name = OfFeature Uses name
meant_feature callings features Why name =
    meant_name (is_some (index_of features name)) (calls callings name) callings name

-- the look, over these features
abbrev pub meant_look : List Calling → List (List ℕ) → Look → Look
meant_look callings features (OfPage look) = OfPage look
meant_look callings features (OfVertex look vertex) = OfVertex look (meant_vertex callings vertex)
meant_look callings features (OfVertices vertices) = OfVertices (map (meant_vertex callings) vertices)
meant_look callings features (OfClaims vertex claims) = OfClaims (meant_vertex callings vertex) claims
meant_look callings features (OfFeature look name) = meant_feature callings features look name
meant_look callings features (OfChoice value name) = OfChoice value name

abbrev pub meant_command : List Calling → List (List ℕ) → Command → Command
meant_command callings features (Lift table vertex) = Lift table (meant_vertex callings vertex)
meant_command callings features (Looks look) = Looks (meant_look callings features look)
meant_command callings features command = command

-- The request as meant: that of the line with the identifier of each vertex in place of its name.
abbrev pub meant : List Calling → List (List ℕ) → Request → Request
meant callings features request =
    record { label = request.label; command = meant_command callings features request.command }

-- ---- without names

-- If no vertex has a name, each request means itself.
abbrev pub MeansItself : Type 0
MeansItself = (features : List (List ℕ)) (request : Request) → meant [] features request ≡ request
