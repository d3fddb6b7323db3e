-- Looks by places.
use Rattle.std.proofs.Common.{◌≡◌, ℕ, ◌<◌, Bool, true, false, List, length, Option, Some, None, refl}
use Rattle.std.proofs.lemmas.Bool.{eqb-true, false≢true}
use Rattle.std.specs.Prelude.{IfSome, slice_get}
use Rattle.std.proofs.lemmas.Option.{slice_get_within}
use Rattle.vpg_checking.specs.Behaviours.{Behaviour}
use Rattle.vpg_script.specs.declared.look.VertexLook.{VertexLook}
use Rattle.vpg_script.specs.declared.look.VertexLook.TheVariants as vertex_looks
use Rattle.vpg_answers.specs.Topics.{HasItsSystem, OfVertex, is_answerable, topic_if, topic_or}
use Rattle.vpg_answers.specs.declared.topic.Missing.TheVariants as missings

pub name_within : (names : List (List ℕ)) (name : List ℕ) (found : Option ℕ) → IfSome found (λ f. slice_get names f ≡ Some name) → IfSome found (λ f. f < length names)
name_within names name None h = tt
name_within names name (Some f) h = slice_get_within names f name h

-- ---- what a look needs beside the page

pub has_system : (features : ℕ) (behaviour : Option Behaviour) (look : VertexLook) → is_answerable features behaviour look ≡ true → HasItsSystem features behaviour look
has_system features None vertex_looks.Trace is = absurd (false≢true is)
has_system features (Some b) vertex_looks.Trace is = eqb-true b.features features is
has_system features behaviour other is = tt

-- what is asked of a vertex with it, and without
pub asked_if : (answerable : Bool) (look : VertexLook) (place : Option ℕ) → answerable ≡ true → topic_if answerable look place ≡ topic_or missings.Vertex (OfVertex look) place
asked_if true look place is = refl
asked_if false look place is = absurd (false≢true is)
