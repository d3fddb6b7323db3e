-- Looks by places in the game and the diagram, and what may be missing for one. This project's own.
use Rattle.std.specs.Prelude.{ℕ, ◌<◌, ⊤, ◌==◌, Bool, true, false, All, Option, Some, None, List, length, map, Result, Ok, Err}
use Rattle.vpg_checking.specs.Behaviours.{Behaviour}
use Rattle.vpg_features.specs.Names.{index_of}
use Rattle.vpg_script.specs.Script as script
use Rattle.vpg_script.specs.Script.{all_there}
use Rattle.vpg_script.specs.declared.look.Claim.{Claim}
use Rattle.vpg_script.specs.declared.look.FeatureLook.{FeatureLook}
use Rattle.vpg_script.specs.declared.look.FeatureLook.TheVariants as feature_looks
use Rattle.vpg_script.specs.declared.look.PageLook.{PageLook}
use Rattle.vpg_script.specs.declared.look.PageLook.TheVariants as page_looks
use Rattle.vpg_script.specs.declared.look.VertexLook.{VertexLook}
use Rattle.vpg_script.specs.declared.look.VertexLook.TheVariants as vertex_looks
use Rattle.vpg_texts.specs.Scene.{Scene}
use Rattle.vpg_texts.specs.Sights.{vertex_of}
use Rattle.vpg_looks.specs.Answers.{IsOver}
use Rattle.vpg_answers.specs.declared.topic.Missing.{Missing}
use Rattle.vpg_answers.specs.declared.topic.Missing.TheVariants as missings
use Rattle.vpg_answers.specs.declared.topic.Topic as code
use Rattle.vpg_answers.specs.declared.topic.Topic.TheVariants as topics

-- A look at the page, by places in the game and the diagram: at the page as a whole, at a vertex or at the verdicts of
-- some, whether a vertex has these verdicts, at a feature, or why one more decision contradicts the page.
pub data Topic : Type 0 where
  OfPage : (look : PageLook) → Topic
  OfVertex : (look : VertexLook) → (vertex : ℕ) → Topic
  OfVertices : (vertices : List ℕ) → Topic
  OfClaims : (vertex : ℕ) → (claims : List Claim) → Topic
  OfFeature : (look : FeatureLook) → (feature : ℕ) → Topic
  OfChoice : (feature : ℕ) → (value : Bool) → Topic

-- a topic of the code, as definitions see it
abbrev pub topic_shown : code.Topic → Topic
topic_shown (topics.OfPage look) = OfPage look
topic_shown (topics.OfVertex look vertex) = OfVertex look vertex
topic_shown (topics.OfVertices vertices) = OfVertices vertices.items
topic_shown (topics.OfClaims vertex claims) = OfClaims vertex claims.items
topic_shown (topics.OfFeature look feature) = OfFeature look feature
topic_shown (topics.OfChoice feature value) = OfChoice feature value

-- so what was found of a look
abbrev pub found_shown : Result code.Topic Missing → Result Topic Missing
found_shown (Ok topic) = Ok (topic_shown topic)
found_shown (Err missing) = Err missing

-- ---- what a line looks at

-- the topic at this place, if there is one
abbrev pub topic_or : {X : Type 0} → Missing → (X → Topic) → Option X → Result Topic Missing
topic_or missing topic None = Err missing
topic_or missing topic (Some place) = Ok (topic place)

-- whether the game was made of a system over this many features
abbrev pub is_over : ℕ → Option Behaviour → Bool
is_over features None = false
is_over features (Some behaviour) = behaviour.features == features

-- whether a look at a vertex has all that it needs beside the page: a trace needs such a system
abbrev pub is_answerable : ℕ → Option Behaviour → VertexLook → Bool
is_answerable features behaviour vertex_looks.Trace = is_over features behaviour
is_answerable features behaviour _ = true

-- the look at the vertex at a place, if it can be answered
abbrev pub topic_if : Bool → VertexLook → Option ℕ → Result Topic Missing
topic_if false look place = Err missings.System
topic_if true look place = topic_or missings.Vertex (OfVertex look) place

-- the places of vertices that a line names, if the game has each
abbrev pub places_of : List ℕ → List script.Vertex → Option (List ℕ)
places_of identifiers vertices = all_there (map (vertex_of identifiers) vertices)

-- The look by places in the game and the diagram; or what they lack. A trace is first of all refused without a system
-- over the diagram's features.
abbrev pub topic_of : Option Behaviour → Scene → script.Look → Result Topic Missing
topic_of behaviour scene (script.OfPage look) = Ok (OfPage look)
topic_of behaviour scene (script.OfVertex look vertex) =
    topic_if (is_answerable (length scene.names) behaviour look) look (vertex_of scene.identifiers vertex)
topic_of behaviour scene (script.OfVertices vertices) =
    topic_or missings.Vertex OfVertices (places_of scene.identifiers vertices)
topic_of behaviour scene (script.OfClaims vertex claims) =
    topic_or missings.Vertex (λ v. OfClaims v claims) (vertex_of scene.identifiers vertex)
topic_of behaviour scene (script.OfFeature look name) =
    topic_or missings.Feature (OfFeature look) (index_of scene.names name)
topic_of behaviour scene (script.OfChoice value name) =
    topic_or missings.Feature (λ f. OfChoice f value) (index_of scene.names name)

-- ---- what an answer takes

-- whether a look at the page takes an order, and searches
abbrev pub page_takes_order : PageLook → Bool
page_takes_order page_looks.Forced = true
page_takes_order page_looks.Empty = true
page_takes_order page_looks.Number = true
page_takes_order _ = false

-- whether a look at a feature does
abbrev pub feature_takes_order : FeatureLook → Bool
feature_takes_order feature_looks.Known = false
feature_takes_order feature_looks.Why = true
feature_takes_order feature_looks.Uses = true

-- whether a topic's answer takes an order, and searches; else it takes the page with its games
abbrev pub takes_order : Topic → Bool
takes_order (OfPage look) = page_takes_order look
takes_order (OfVertex look vertex) = true
takes_order (OfVertices vertices) = false
takes_order (OfClaims vertex claims) = false
takes_order (OfFeature look feature) = feature_takes_order look
takes_order (OfChoice feature value) = true

-- the vertices and the feature of a topic are below these counts
abbrev pub IsWithin : (vertices features : ℕ) → Topic → Type 0
IsWithin vertices features (OfPage look) = ⊤
IsWithin vertices features (OfVertex look vertex) = vertex < vertices
IsWithin vertices features (OfVertices places) = All (λ v. v < vertices) places
IsWithin vertices features (OfClaims vertex claims) = vertex < vertices
IsWithin vertices features (OfFeature look feature) = feature < features
IsWithin vertices features (OfChoice feature value) = feature < features

-- a trace is of such a system
abbrev pub HasItsSystem : ℕ → Option Behaviour → VertexLook → Type 0
HasItsSystem features behaviour vertex_looks.Trace = IsOver features behaviour
HasItsSystem features behaviour _ = ⊤

-- so is the trace that a topic asks for
abbrev pub TopicHasSystem : ℕ → Option Behaviour → Topic → Type 0
TopicHasSystem features behaviour (OfVertex look vertex) = HasItsSystem features behaviour look
TopicHasSystem features behaviour _ = ⊤
