-- The lines of some vertices of a page, and the answers to assertions and to `plan`. This project's own.
use Rattle.std.specs.Prelude.{◌≡◌, ◌⊎◌, ℕ, Bool, not, ◌&&◌, ◌==◌, if◌then◌else◌, List, [], ◌++◌, Option, None, flat_map, position, slice_index, codes}
use Rattle.std.specs.List.{list_all}
use Rattle.vpg_script.specs.declared.look.Claim.{Claim}
use Rattle.vpg_script.specs.declared.look.Claim.TheVariants as claims
use Rattle.vpg_script.specs.Script as script
use Rattle.vpg_measure.specs.TwoGames.{top_for}
use Rattle.vpg_script.specs.Answer.{Answer, IsDone, done, failed, refused}
use Rattle.vpg_trail.specs.Page.{Hopeful, Dual, Decision}
use Rattle.vpg_texts.specs.declared.showing.plans.PlanFault.TheVariants.{NotFull, NotSettled}
use Rattle.vpg_texts.specs.Labels.{label_of}
use Rattle.vpg_texts.specs.Plan.{IsPlanned, IsPlanFault}
use Rattle.vpg_texts.specs.Scene.{Scene, UnderKnown, TellsUnder}
use Rattle.vpg_texts.specs.Text.{vertex_line}

-- ---- vertices that lines name

-- the place of a vertex: that of its identifier; a name is none of the game's
abbrev pub vertex_of : List ℕ → script.Vertex → Option ℕ
vertex_of identifiers (script.Numbered identifier) = position (λ n. n == identifier) identifiers
vertex_of identifiers (script.Named name) = None

-- the line of the vertex at a place
abbrev pub line_at : ℕ → ℕ → List ℕ → (labels : List (List ℕ)) → (hopeful dual : List ℕ) → ℕ → List ℕ
line_at hopeful_top dual_top identifiers labels hopeful dual v =
    vertex_line hopeful_top dual_top (slice_index identifiers v) (label_of labels v) (slice_index hopeful v)
    (slice_index dual v)

-- the lines of the vertices at these places
abbrev pub lines_at : ℕ → ℕ → List ℕ → (labels : List (List ℕ)) → (hopeful dual : List ℕ) → List ℕ → List ℕ
lines_at hopeful_top dual_top identifiers labels hopeful dual vertices =
    flat_map (line_at hopeful_top dual_top identifiers labels hopeful dual) vertices

-- the lines of the vertices at these places of a scene, by these tables
abbrev pub sight_lines : Scene → (hopeful dual : List ℕ) → (vertices : List ℕ) → List ℕ
sight_lines scene hopeful dual vertices =
    lines_at (top_for Hopeful scene.game) (top_for Dual scene.game) scene.identifiers scene.labels hopeful dual vertices

-- ---- assertions

-- Whether a claim about a vertex is right. Once a vertex has the top it keeps it; only a settled page shows that it
-- stays below the top.
abbrev pub holds : (settled hopeless sure : Bool) → Claim → Bool
holds settled hopeless sure claims.Hopeless = hopeless
holds settled hopeless sure claims.Possible = settled && not hopeless
holds settled hopeless sure claims.Sure = sure
holds settled hopeless sure claims.Unsure = settled && not sure

-- whether settling the page could still change a claim's truth
abbrev pub is_open : (settled hopeless sure : Bool) → Claim → Bool
is_open settled hopeless sure claims.Hopeless = not settled && not hopeless
is_open settled hopeless sure claims.Possible = not settled && not hopeless
is_open settled hopeless sure claims.Sure = not settled && not sure
is_open settled hopeless sure claims.Unsure = not settled && not sure

abbrev pub claim_text : Claim → List ℕ
claim_text claims.Hopeless = codes " hopeless"
claim_text claims.Possible = codes " possible"
claim_text claims.Sure = codes " sure"
claim_text claims.Unsure = codes " unsure"

-- a claim, if it is wrong
abbrev pub failing_text : (settled hopeless sure : Bool) → Claim → List ℕ
failing_text settled hopeless sure claim = if holds settled hopeless sure claim then [] else claim_text claim

-- the end of a line: whether settling the page could still change one of the claims
abbrev pub open_text : Bool → List ℕ
open_text none = if none then codes "\n" else codes " unsettled\n"

-- what is asserted holds
abbrev pub holding : Answer
holding = done (codes "holds\n")

-- that all hold, or those that fail
abbrev pub verdicts_answer : (settled hopeless sure : Bool) → List Claim → Answer
verdicts_answer settled hopeless sure asserted =
    if list_all (holds settled hopeless sure) asserted then holding
    else failed (codes "fails" ++ flat_map (failing_text settled hopeless sure) asserted
    ++ open_text (list_all (λ claim. not (is_open settled hopeless sure claim)) asserted))

-- the answer to claims about the vertex at a place
abbrev pub verdicts_at : ℕ → ℕ → (hopeful dual : List ℕ) → Bool → List Claim → (vertex : ℕ) → Answer
verdicts_at hopeful_top dual_top hopeful dual settled asserted v =
    verdicts_answer settled (slice_index hopeful v == hopeful_top) (slice_index dual v == dual_top) asserted

abbrev pub full_answer : Bool → Answer
full_answer full = if full then holding else failed (codes "fails full\n")

abbrev pub settled_answer : Bool → Answer
settled_answer settled = if settled then holding else failed (codes "fails settled\n")

-- It answers an assertion by these tables, under what the decisions make known: by whether each feature is known, and
-- whether both are progress tables.
abbrev pub IsAsserted : Scene → ((full settled : Bool) → Answer) → List Decision → (hopeful dual : List ℕ) → Answer →
    Type 0
IsAsserted scene answer_of decisions hopeful dual answer =
    UnderKnown scene decisions (λ known. TellsUnder scene.game known hopeful dual answer_of answer)

-- It answers whether the vertex has these verdicts.
abbrev pub AreClaimed : Scene → (vertex : ℕ) → List Claim → List Decision → (hopeful dual : List ℕ) → Answer → Type 0
AreClaimed scene vertex asserted decisions hopeful dual answer =
    IsAsserted scene
    (λ full settled.
    verdicts_at (top_for Hopeful scene.game) (top_for Dual scene.game) hopeful dual settled asserted vertex)
    decisions hopeful dual answer

-- It answers whether each feature is known.
abbrev pub IsFullAnswer : Scene → List Decision → (hopeful dual : List ℕ) → Answer → Type 0
IsFullAnswer scene decisions hopeful dual answer =
    IsAsserted scene (λ full settled. full_answer full) decisions hopeful dual answer

-- It answers whether both tables are progress tables.
abbrev pub IsSettledAnswer : Scene → List Decision → (hopeful dual : List ℕ) → Answer → Type 0
IsSettledAnswer scene decisions hopeful dual answer =
    IsAsserted scene (λ full settled. settled_answer settled) decisions hopeful dual answer

-- ---- plans

-- a plan, or why there is none
abbrev pub IsPlanAnswer : Scene → List Decision → (hopeful dual : List ℕ) → Answer → Type 0
IsPlanAnswer scene decisions hopeful dual answer =
    IsDone (IsPlanned scene decisions hopeful dual) answer
    ⊎ (IsPlanFault scene decisions hopeful dual NotFull × (answer ≡ refused (codes "NotFull")))
    ⊎ (IsPlanFault scene decisions hopeful dual NotSettled × (answer ≡ refused (codes "NotSettled")))
