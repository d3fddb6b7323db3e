-- Lines where no vertex has a name.
use Rattle.std.proofs.Common.{◌≡◌, ℕ, Bool, true, false, List, [], ◌∷◌, map, refl, ap, ap₂}
use Rattle.std.specs.Prelude.{is_some}
use Rattle.vpg_features.specs.Names.{index_of}
use Rattle.vpg_script.specs.Calling.{meant, meant_command, meant_feature, meant_look, meant_name, meant_vertex}
use Rattle.vpg_script.specs.declared.look.FeatureLook.{FeatureLook}
use Rattle.vpg_script.specs.declared.look.FeatureLook.TheVariants.{Known, Uses, Why}
use Rattle.vpg_script.specs.Script as script
use Rattle.vpg_script.specs.Script.{Request}

none_vertex : (vertex : script.Vertex) → meant_vertex [] vertex ≡ vertex
none_vertex (script.Numbered identifier) = refl
none_vertex (script.Named name) = refl

none_vertices : (vertices : List script.Vertex) → map (meant_vertex []) vertices ≡ vertices
none_vertices [] = refl
none_vertices (vertex ∷ vertices) = ap₂ (λ (v : script.Vertex) (vs : List script.Vertex). v ∷ vs) (none_vertex vertex) (none_vertices vertices)

none_name : (is_feature : Bool) (name : List ℕ) → meant_name is_feature false [] name ≡ script.OfFeature Why name
none_name true name = refl
none_name false name = refl

none_feature : (features : List (List ℕ)) (look : FeatureLook) (name : List ℕ) → meant_feature [] features look name ≡ script.OfFeature look name
none_feature features Known name = refl
none_feature features Uses name = refl
none_feature features Why name = none_name (is_some (index_of features name)) name

none_look : (features : List (List ℕ)) (look : script.Look) → meant_look [] features look ≡ look
none_look features (script.OfPage look) = refl
none_look features (script.OfVertex look vertex) = ap (λ (v : script.Vertex). script.OfVertex look v) (none_vertex vertex)
none_look features (script.OfVertices vertices) = ap (λ (vs : List script.Vertex). script.OfVertices vs) (none_vertices vertices)
none_look features (script.OfClaims vertex claims) = ap (λ (v : script.Vertex). script.OfClaims v claims) (none_vertex vertex)
none_look features (script.OfFeature look name) = none_feature features look name
none_look features (script.OfChoice value name) = refl

none_command : (features : List (List ℕ)) (command : script.Command) → meant_command [] features command ≡ command
none_command features (script.Lift table vertex) = ap (λ (v : script.Vertex). script.Lift table v) (none_vertex vertex)
none_command features (script.Looks look) = ap (λ (l : script.Look). script.Looks l) (none_look features look)
none_command features (script.Select name) = refl
none_command features (script.Exclude name) = refl
none_command features (script.Retract name) = refl
none_command features script.Reset = refl
none_command features (script.Undo s) = refl
none_command features (script.Redo s) = refl
none_command features (script.Keep s) = refl
none_command features (script.Forget s) = refl
none_command features script.Harvest = refl
none_command features (script.Commit k) = refl
none_command features (script.Settle n) = refl
none_command features script.Changed = refl

-- where no vertex has a name, a request means itself
pub none_meant : (features : List (List ℕ)) (request : Request) → meant [] features request ≡ request
none_meant features request = ap (λ (c : script.Command). record { label = request.label; command = c }) (none_command features request.command)
