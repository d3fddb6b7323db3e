-- The meaning of each look, and the answer to it on a page. This project's own.
use Rattle.std.specs.Prelude.{ℕ, true, Option}
use Rattle.vpg_checking.specs.Behaviours.{Behaviour}
use Rattle.vpg_diagram.specs.FeatureDiagram.{IsDiagram}
use Rattle.vpg_measure.specs.Orders.{other_table}
use Rattle.vpg_sides.specs.declared.which.Which.TheVariants.{Hopeful}
use Rattle.vpg_partial.specs.TableLaws.{AreChoicesOf}
use Rattle.vpg_script.specs.declared.look.FeatureLook.{FeatureLook}
use Rattle.vpg_script.specs.declared.look.FeatureLook.TheVariants as feature_looks
use Rattle.vpg_script.specs.declared.look.PageLook.{PageLook}
use Rattle.vpg_script.specs.declared.look.PageLook.TheVariants as page_looks
use Rattle.vpg_script.specs.declared.look.VertexLook.{VertexLook}
use Rattle.vpg_script.specs.declared.look.VertexLook.TheVariants as vertex_looks
use Rattle.vpg_script.specs.Answer.{Answer}
use Rattle.vpg_texts.specs.Picture.{IsDrawn}
use Rattle.vpg_texts.specs.Scene as scenes
use Rattle.vpg_texts.specs.Scene.{Scene, IsShown, TellsKnown, table_in}
use Rattle.vpg_texts.specs.Sights.{IsFullAnswer, IsPlanAnswer, IsSettledAnswer, full_answer, settled_answer, sight_lines}
use Rattle.vpg_texts.specs.Text.{trail_text}
use Rattle.vpg_texts.proofs.Seen.{asserted_one, drawn_one, feature_one as known_one, planned_one, products_one, shown_one}
use Rattle.vpg_why.specs.Explained.{choices}
use Rattle.vpg_why.specs.declared.question.Aim.TheVariants as aims
use Rattle.vpg_why.specs.declared.question.Limits.{Limits}
use Rattle.vpg_looks.specs.Answers.{TellsChoice, TellsDecided, TellsExample, TellsFeature, TellsForced, TellsLost, TellsMoves, TellsNumber, TellsOffers, TellsRepair, TellsTraced, TellsVertex, TellsWinners}
use Rattle.vpg_looks.specs.Asserted.{TellsExact}
use Rattle.vpg_looks.specs.Edges.{TellsEdges}
use Rattle.vpg_looks.specs.Looked.{IsCountAnswer, TellsClaims}
use Rattle.vpg_looks.specs.Meanings.{IsDoubtfulIf, Meaning, Seen, Sight, answered, equal, searched, shown}
use Rattle.vpg_looks.specs.Parts.{TellsPart}
use Rattle.vpg_looks.specs.Uses.{TellsUses}
use Rattle.vpg_looks.proofs.Asserted.{exact_one}
use Rattle.vpg_looks.proofs.Looked.{claims_one, count_one}
use Rattle.vpg_looks.proofs.OneEdges.{edges_one}
use Rattle.vpg_looks.proofs.OneMoves.{tells_moves_one}
use Rattle.vpg_looks.proofs.OneNumbers.{tells_number_one}
use Rattle.vpg_looks.proofs.OneOffers.{offers_one}
use Rattle.vpg_looks.proofs.OneParts.{tells_part_one}
use Rattle.vpg_looks.proofs.OneReasons.{choice_one, example_one, feature_one, lost_one, vertex_one}
use Rattle.vpg_looks.proofs.OneRepairs.{forced_one, repair_one}
use Rattle.vpg_looks.proofs.OneTraces.{traced_one}
use Rattle.vpg_looks.proofs.OneUses.{uses_one}
use Rattle.vpg_looks.proofs.OneWinners.{tells_decided_one, tells_winners_one}
use Rattle.vpg_answers.specs.Topics.{Topic, OfPage, OfVertex, OfVertices, OfClaims, OfFeature, OfChoice, feature_takes_order, page_takes_order, takes_order}

-- ---- each look's meaning, and the law that there is one such answer

-- the meaning of a look at the page as a whole
abbrev pub page_meaning : (look : PageLook) → Meaning (page_takes_order look)
page_meaning page_looks.Show =
    shown (λ s. IsShown s.scene s.page.decisions s.page.hopeful s.page.dual)
    (λ s. shown_one s.scene s.page.decisions s.page.hopeful s.page.dual)
page_meaning page_looks.Trail =
    equal (λ s. trail_text s.scene.names s.scene.identifiers s.scene.labels s.page.entries)
page_meaning page_looks.Products =
    shown (λ s. TellsKnown s.scene s.page.decisions) (λ s. products_one s.scene s.page.decisions)
page_meaning page_looks.Plan =
    answered (λ s limits. IsPlanAnswer s.scene s.page.decisions s.page.hopeful s.page.dual)
    (λ s limits others is one other a b sure also.
    planned_one s.scene s.page.decisions s.page.hopeful s.page.dual one other a b)
page_meaning page_looks.Count =
    answered (λ s limits. IsCountAnswer s.scene limits s.page.decisions s.page.hopeful s.page.dual)
    (λ s limits others is. count_one s.scene limits others s.page.decisions s.page.hopeful s.page.dual)
page_meaning page_looks.Draw =
    shown (λ s. IsDrawn s.scene s.page.decisions s.page.hopeful s.page.dual)
    (λ s. drawn_one s.scene s.page.decisions s.page.hopeful s.page.dual)
page_meaning page_looks.Full =
    answered (λ s limits. IsFullAnswer s.scene s.page.decisions s.page.hopeful s.page.dual)
    (λ s limits others is one other a b sure also.
    asserted_one s.scene s.page.decisions s.page.hopeful s.page.dual (λ full settled. full_answer full) one other
    a b)
page_meaning page_looks.Settled =
    answered (λ s limits. IsSettledAnswer s.scene s.page.decisions s.page.hopeful s.page.dual)
    (λ s limits others is one other a b sure also.
    asserted_one s.scene s.page.decisions s.page.hopeful s.page.dual (λ full settled. settled_answer settled) one
    other a b)
-- the features that all products left have or lack
page_meaning page_looks.Forced =
    searched (λ s limits. TellsForced s.scene limits aims.Any s.page.decisions)
    (λ s limits others is. forced_one s.scene limits others aims.Any s.page.decisions)
-- the decisions that leave none
page_meaning page_looks.Empty =
    searched (λ s limits. TellsLost s.scene limits aims.Any s.page.decisions)
    (λ s limits others is. lost_one s.scene limits others s.page.decisions is.diagram is.named aims.Any)
page_meaning page_looks.Number =
    searched (λ s limits. TellsNumber s.scene limits s.page.decisions)
    (λ s limits others is. tells_number_one s.scene limits others s.page.decisions)

-- the meaning of a look at a vertex
abbrev pub vertex_meaning : Option Behaviour → VertexLook → (vertex : ℕ) → Meaning true
vertex_meaning behaviour vertex_looks.Why v =
    searched (λ s limits. TellsVertex s.scene limits v s.page.decisions s.page.hopeful s.page.dual)
    (λ s limits others is.
    vertex_one s.scene limits others s.page.decisions is.diagram is.named v s.page.hopeful s.page.dual)
vertex_meaning behaviour (vertex_looks.Example which) v =
    searched (λ s limits. TellsExample s.scene limits (aims.Won which v) s.page.decisions)
    (λ s limits others is.
    example_one s.scene limits others s.page.decisions is.diagram is.named (aims.Won which v))
vertex_meaning behaviour vertex_looks.Offer v =
    searched (λ s limits. TellsOffers s.scene limits v s.page.decisions)
    (λ s limits others is. offers_one s.scene limits others v s.page.decisions)
vertex_meaning behaviour vertex_looks.Needs v =
    searched (λ s limits. TellsForced s.scene limits (aims.Won Hopeful v) s.page.decisions)
    (λ s limits others is. forced_one s.scene limits others (aims.Won Hopeful v) s.page.decisions)
vertex_meaning behaviour vertex_looks.Repair v =
    searched (λ s limits. TellsRepair s.scene limits v s.page.decisions s.page.hopeful)
    (λ s limits others is.
    repair_one s.scene limits others v s.page.decisions is.diagram is.named s.page.hopeful)
vertex_meaning behaviour (vertex_looks.Lost which) v =
    searched (λ s limits. TellsLost s.scene limits (aims.Won which v) s.page.decisions)
    (λ s limits others is. lost_one s.scene limits others s.page.decisions is.diagram is.named (aims.Won which v))
vertex_meaning behaviour (vertex_looks.Moves mover) v =
    searched
    (λ s limits. TellsMoves s.scene limits mover v s.page.decisions
    (table_in s.page.hopeful s.page.dual (other_table mover)))
    (λ s limits others is. tells_moves_one s.scene limits others mover v s.page.decisions
    (table_in s.page.hopeful s.page.dual (other_table mover)))
vertex_meaning behaviour vertex_looks.Draw v =
    searched (λ s limits. TellsPart s.scene limits v s.page.decisions s.page.hopeful s.page.dual)
    (λ s limits others is. tells_part_one s.scene limits others v s.page.decisions s.page.hopeful s.page.dual)
vertex_meaning behaviour vertex_looks.Trace v =
    searched (λ s limits. TellsTraced behaviour s.scene limits v s.page.decisions s.page.hopeful s.page.dual)
    (λ s limits others is.
    traced_one s.scene limits others v s.page.decisions s.page.hopeful s.page.dual behaviour)
vertex_meaning behaviour vertex_looks.Winners v =
    searched (λ s limits. TellsWinners s.scene limits v s.page.decisions)
    (λ s limits others is. tells_winners_one s.scene limits others v s.page.decisions)
vertex_meaning behaviour vertex_looks.Decide v =
    searched (λ s limits. TellsDecided s.scene limits v s.page.decisions)
    (λ s limits others is. tells_decided_one s.scene limits others v s.page.decisions)
vertex_meaning behaviour (vertex_looks.Is verdict) v =
    answered (λ s limits. TellsExact s.scene limits verdict v s.page.decisions)
    (λ s limits others is. exact_one s.scene limits others verdict v s.page.decisions)
vertex_meaning behaviour vertex_looks.Edges v =
    shown (λ s. TellsEdges s.scene v s.page.decisions) (λ s. edges_one s.scene v s.page.decisions)

-- the meaning of a look at a feature
abbrev pub feature_meaning : (look : FeatureLook) → (feature : ℕ) → Meaning (feature_takes_order look)
feature_meaning feature_looks.Known feature =
    shown (λ s. scenes.TellsFeature s.scene s.page.decisions feature)
    (λ s. known_one s.scene s.page.decisions feature)
feature_meaning feature_looks.Why feature =
    answered (λ s limits. TellsFeature s.scene feature s.page.decisions)
    (λ s limits others is one other a b sure also.
    feature_one s.scene limits others s.page.decisions is.diagram is.named feature one other a b)
feature_meaning feature_looks.Uses feature =
    shown (λ s. TellsUses s.scene feature) (λ s. uses_one s.scene feature)

-- the meaning of any look
abbrev pub meaning : Option Behaviour → (topic : Topic) → Meaning (takes_order topic)
meaning behaviour (OfPage look) = page_meaning look
meaning behaviour (OfVertex look vertex) = vertex_meaning behaviour look vertex
meaning behaviour (OfVertices vertices) = equal (λ s. sight_lines s.scene s.page.hopeful s.page.dual vertices)
meaning behaviour (OfClaims vertex claims) =
    answered (λ s limits. TellsClaims s.scene limits vertex claims s.page.decisions s.page.hopeful s.page.dual)
    (λ s limits others is.
    claims_one s.scene limits others vertex claims s.page.decisions s.page.hopeful s.page.dual)
meaning behaviour (OfFeature look feature) = feature_meaning look feature
meaning behaviour (OfChoice feature value) =
    answered (λ s limits. TellsChoice s.scene feature value s.page.decisions)
    (λ s limits others is one other a b sure also.
    choice_one s.scene limits others s.page.decisions is.diagram is.named feature value one other a b)

-- ---- the answer to a look

-- a page with its scene
abbrev pub seen : Scene → Sight → Seen
seen scene page = record { scene = scene; page = page }

-- the answer to a look at the page as a whole
abbrev pub TellsOfPage : Scene → Limits → PageLook → Sight → Answer → Type 0
TellsOfPage scene limits look page answer = (page_meaning look).tells (seen scene page) limits answer

-- the answer to a look at a vertex
abbrev pub TellsOfVertex : Option Behaviour → Scene → Limits → VertexLook → (vertex : ℕ) → Sight → Answer → Type 0
TellsOfVertex behaviour scene limits look vertex page answer =
    (vertex_meaning behaviour look vertex).tells (seen scene page) limits answer

-- the answer to a look at a feature
abbrev pub TellsOfFeature : Scene → Limits → FeatureLook → (feature : ℕ) → Sight → Answer → Type 0
TellsOfFeature scene limits look feature page answer =
    (feature_meaning look feature).tells (seen scene page) limits answer

-- the answer to any look
abbrev pub Tells : Option Behaviour → Scene → Limits → Topic → Sight → Answer → Type 0
Tells behaviour scene limits topic page answer = (meaning behaviour topic).tells (seen scene page) limits answer

-- It answers the look within these limits, on this page: its decisions are on a diagram's features. Traces are of the
-- system that the game was made of.
pub record IsTold (behaviour : Option Behaviour) (scene : Scene) (limits : Limits) (topic : Topic) (page : Sight)
    (answer : Answer) : Type 0 where
  pub diagram : IsDiagram scene.lines
  pub named : AreChoicesOf scene.lines (choices page.decisions)
  pub tells : Tells behaviour scene limits topic page answer

-- A limit was met in the answer to this look.
abbrev pub IsDoubtful : Topic → Answer → Type 0
IsDoubtful topic answer = IsDoubtfulIf (takes_order topic) answer
