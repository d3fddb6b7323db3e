-- The forms of commands: the word that names each, the arguments after it, and what it looks at. This project's own.
use Rattle.std.specs.Prelude.{◌≡◌, ℕ, Bool, List, [], ◌∷◌, map, Option, Some, None, codes, bytes_eq}
use Rattle.std.specs.List.{find}
use Rattle.vpg_sides.specs.declared.which.Which.TheVariants as tables
use Rattle.vpg_script.specs.declared.forms.Verb.{Verb}
use Rattle.vpg_script.specs.declared.forms.Verb.TheVariants as verbs
use Rattle.vpg_script.specs.declared.forms.Parameter.{Parameter}
use Rattle.vpg_script.specs.declared.forms.Parameter.TheVariants.{Feature, Serial, Harvest, Sweeps, Table, Vertex, Subject, Asserted, Verdict}
use Rattle.vpg_script.specs.declared.forms.CommandForm.{CommandForm}
use Rattle.vpg_script.specs.declared.look.FeatureLook.{FeatureLook}
use Rattle.vpg_script.specs.declared.look.FeatureLook.TheVariants as feature_looks
use Rattle.vpg_script.specs.declared.look.PageLook.{PageLook}
use Rattle.vpg_script.specs.declared.look.PageLook.TheVariants as page_looks
use Rattle.vpg_script.specs.declared.look.VertexLook.{VertexLook}
use Rattle.vpg_script.specs.declared.look.VertexLook.TheVariants as vertex_looks

-- A command's word, the parameters of its arguments, the least number of these, and the parameter of further ones, if
-- there may be any. Its verb, if it does more than the looks behind. Its look at the page, if it stands alone, that at
-- the vertex that is its argument, and that at the feature whose name is its argument.
pub record Form : Type 0 where
  pub word : List ℕ
  pub parameters : List Parameter
  pub least : ℕ
  pub rest : Option Parameter
  pub verb : Option Verb
  pub of_page : Option PageLook
  pub of_vertex : Option VertexLook
  pub of_feature : Option FeatureLook

-- a word with these arguments
abbrev pub form_with : List ℕ → List Parameter → (least : ℕ) → Form
form_with word parameters least = record {
  word = word;
  parameters = parameters;
  least = least;
  rest = None;
  verb = None;
  of_page = None;
  of_vertex = None;
  of_feature = None;
}

-- a form with this verb
abbrev pub with_verb : Form → Verb → Form
with_verb form verb = record form { verb = Some verb }

-- a word without arguments
abbrev pub alone : List ℕ → Form
alone word = form_with word [] 0

-- a word and one argument
abbrev pub with_one : List ℕ → Parameter → Form
with_one word parameter = form_with word (parameter ∷ []) 1

-- a word, and one argument or none
abbrev pub with_one_at_most : List ℕ → Parameter → Form
with_one_at_most word parameter = form_with word (parameter ∷ []) 0

-- a word that looks at the page
abbrev pub page_look : List ℕ → PageLook → Form
page_look word look = record (alone word) { of_page = Some look }

-- a word that looks at a vertex
abbrev pub vertex_look : List ℕ → VertexLook → Form
vertex_look word look = record (with_one word Vertex) { of_vertex = Some look }

-- a word that looks at a feature
abbrev pub feature_look : List ℕ → FeatureLook → Form
feature_look word look = record (with_one word Feature) { of_feature = Some look }

-- a word that looks at the page, and with an argument at a vertex
abbrev pub page_or_vertex_look : List ℕ → PageLook → VertexLook → Form
page_or_vertex_look word whole look =
    record (with_one_at_most word Vertex) { of_page = Some whole; of_vertex = Some look }

-- a word that looks at a vertex, or at a feature
abbrev pub vertex_or_feature_look : List ℕ → VertexLook → FeatureLook → Form
vertex_or_feature_look word vertex feature =
    record (with_one word Subject) { of_vertex = Some vertex; of_feature = Some feature }

-- the forms of all commands, in the order of their help
abbrev pub forms : List Form
forms =
    with_verb (with_one (codes "select") Feature) verbs.Select ∷
    with_verb (with_one (codes "exclude") Feature) verbs.Exclude ∷
    with_verb (with_one (codes "retract") Feature) verbs.Retract ∷
    with_verb (alone (codes "reset")) verbs.Reset ∷
    with_verb (with_one_at_most (codes "undo") Serial) verbs.Undo ∷
    with_verb (with_one_at_most (codes "redo") Serial) verbs.Redo ∷
    with_verb (with_one (codes "keep") Serial) verbs.Keep ∷
    with_verb (with_one (codes "forget") Serial) verbs.Forget ∷
    with_verb (form_with (codes "lift") (Table ∷ Vertex ∷ []) 2) verbs.Lift ∷
    with_verb (alone (codes "harvest")) verbs.Harvest ∷
    with_verb (with_one (codes "commit") Harvest) verbs.Commit ∷
    with_verb (with_one_at_most (codes "settle") Sweeps) verbs.Settle ∷
    record (page_look (codes "show") page_looks.Show) { rest = Some Vertex; verb = Some verbs.Show } ∷
    page_look (codes "trail") page_looks.Trail ∷
    page_look (codes "products") page_looks.Products ∷
    page_or_vertex_look (codes "plan") page_looks.Plan (vertex_looks.Moves tables.Hopeful) ∷
    page_look (codes "count") page_looks.Count ∷
    page_or_vertex_look (codes "draw") page_looks.Draw vertex_looks.Draw ∷
    with_verb (alone (codes "changed")) verbs.Changed ∷
    feature_look (codes "known") feature_looks.Known ∷
    record (with_one (codes "assert") Asserted) { rest = Some Verdict; verb = Some verbs.Assert } ∷
    vertex_or_feature_look (codes "why") vertex_looks.Why feature_looks.Why ∷
    vertex_look (codes "example") (vertex_looks.Example tables.Hopeful) ∷
    vertex_look (codes "counterexample") (vertex_looks.Example tables.Dual) ∷
    vertex_look (codes "lost") (vertex_looks.Lost tables.Hopeful) ∷
    vertex_look (codes "won") (vertex_looks.Lost tables.Dual) ∷
    vertex_look (codes "offer") vertex_looks.Offer ∷
    vertex_look (codes "needs") vertex_looks.Needs ∷
    vertex_look (codes "repair") vertex_looks.Repair ∷
    vertex_look (codes "spoil") (vertex_looks.Moves tables.Dual) ∷
    vertex_look (codes "trace") vertex_looks.Trace ∷
    vertex_look (codes "winners") vertex_looks.Winners ∷
    vertex_look (codes "decide") vertex_looks.Decide ∷
    page_look (codes "forced") page_looks.Forced ∷
    page_look (codes "empty") page_looks.Empty ∷
    page_look (codes "number") page_looks.Number ∷
    vertex_look (codes "edges") vertex_looks.Edges ∷
    feature_look (codes "uses") feature_looks.Uses ∷
    []

-- whether this word names the form
abbrev pub is_named : List ℕ → Form → Bool
is_named word form = bytes_eq form.word word

-- the form that a word names
abbrev pub form_named : List ℕ → Option Form
form_named word = find (is_named word) forms

-- Each form is the one that its word names.
abbrev pub EachWordNamesItsCommand : Type 0
EachWordNamesItsCommand = map (λ form. form_named form.word) forms ≡ map Some forms

-- a form of the code as definitions see it
abbrev pub form_shown : CommandForm → Form
form_shown form = record {
  word = form.word.now;
  parameters = form.parameters.now;
  least = form.least;
  rest = form.rest;
  verb = form.verb;
  of_page = form.of_page;
  of_vertex = form.of_vertex;
  of_feature = form.of_feature;
}
