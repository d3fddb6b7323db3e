-- What is told of an order's page.
use Rattle.std.proofs.Common.{ℕ, ◌<◌, List, ◌++◌, length, refl, ap, ◌∙◌, inl, inr, append_assoc}
use Rattle.std.specs.Prelude.{All, IsTrue}
use Rattle.std.proofs.lemmas.List.Elements.{All-from_recursion}
use Rattle.vpg_diagram.specs.FeatureDiagram.{feature_count}
use Rattle.vpg_diagram.specs.declared.clause.Literal.{Literal}
use Rattle.vpg_measure.specs.Orders.{OrderView, IsOrder}
use Rattle.vpg_sides.specs.declared.which.Which.TheVariants.{Hopeful, Dual}
use Rattle.vpg_partial.specs.TableLaws.{AreAmong, AreChoicesOf}
use Rattle.vpg_partial.specs.declared.decision.Decision.{Decision}
use Rattle.vpg_texts.specs.Scene.{Scene, scene_of}
use Rattle.vpg_texts.proofs.Shown.{named_below}
use Rattle.vpg_why.specs.Explained.{choices}
use Rattle.vpg_why.specs.Found.{AreFoundNeeds, AreNeedsExact, IsFoundProduct, IsFound, IsFoundExact, IsWhyLost, IsWhyLostExact, IsWhyLostShown}
use Rattle.vpg_why.specs.Suffices.{AimSettles, EachIsSettled, IsSettled}
use Rattle.vpg_why.specs.declared.forcing.Demand.{Demand}
use Rattle.vpg_why.specs.declared.forcing.Demand.TheVariants as demands
use Rattle.vpg_why.specs.declared.question.Aim.{Aim}
use Rattle.vpg_why.specs.declared.question.Aim.TheVariants as aims
use Rattle.vpg_why.specs.declared.searching.Example.{Example}
use Rattle.vpg_why.specs.declared.searching.Found.{Found}
use Rattle.vpg_why.specs.declared.searching.Found.TheVariants as founds
use Rattle.vpg_why.specs.declared.telling.WhyLost.{WhyLost}
use Rattle.vpg_why.specs.declared.telling.WhyLost.TheVariants as whys
use Rattle.vpg_why.specs.declared.question.Limits.{Limits}
use Rattle.vpg_why.specs.declared.question.Question.TheVariants as asks
use Rattle.vpg_why.proofs.Listing.{among_named}
use Rattle.vpg_looks.specs.Texts.{demand_text, found_text, product_line, why_text}
use Rattle.vpg_looks.specs.Answers.{TellsVerdict, TellsVertex, TellsExample, TellsLost, TellsForced, TellsProduct, lost_for, lost_label, forced_word, Appends}
use Rattle.vpg_looks.specs.Room.{RoundsSettleFor, SearchEnds}

module _ (order : OrderView) (is : IsOrder order) where
  -- decisions of a reason name features of the diagram
  pub listed_below : (listed : List Decision) → AreAmong (choices listed) (choices order.decisions) → All (λ d. d.feature < length order.diagram.names) listed
  listed_below listed among =
      named_below order.diagram.lines (length order.diagram.names) listed
      (among_named order.diagram.lines (choices listed) (choices order.decisions) among is.named) is.diagram.each_named

  -- so do literals of the diagram
  pub needs_below : (listed : List Literal) → AreChoicesOf order.diagram.lines listed → All (λ l. l.feature < length order.diagram.names) listed
  needs_below listed named =
      rw is.diagram.each_named (All-from_recursion (λ (l : Literal). l.feature < feature_count order.diagram.lines) listed named)

module _ (labels : List (List ℕ)) (order : OrderView) (limits : Limits) where
  abbrev page : Scene
  page = scene_of labels order.game order.diagram

  -- ---- products that meet an aim

  aim_settles : (aim : Aim) (cs : List Literal) → RoundsSettleFor page limits.rounds aim cs → AimSettles limits.rounds order.game order.diagram aim cs
  aim_settles aims.Any cs settles = λ more known is. tt
  aim_settles (aims.Won which vertex) cs settles = settles

  module _ (aim : Aim) where
    -- where the limits leave room, the question is settled
    room : (cs : List Literal) → SearchEnds page limits aim cs → IsSettled order.game order.diagram limits (asks.Lost aim) cs
    room cs (settles, enough) = (aim_settles aim cs settles, enough)

    abbrev Settles : Type 0
    Settles = IsSettled order.game order.diagram limits (asks.Lost aim) (choices order.decisions)

    product_told : (e : Example) → IsFoundProduct order.game order.diagram aim (choices order.decisions) e.features.items e.first → (Settles → IsTrue e.first) →
        TellsProduct page limits aim order.decisions (product_line order.diagram.names e.features.items e.first)
    product_told e is settled =
        (e.features.items, e.first, is.remaining, is.meets, is.is_first, refl, λ ends. settled (room (choices order.decisions) ends))

    pub example_told : (found : Found) → IsFound order.game order.diagram aim (choices order.decisions) found → (Settles → IsFoundExact found) →
        TellsExample page limits aim order.decisions (found_text order.diagram.names found)
    example_told (founds.Product e) is settled = inl (product_told e is settled)
    example_told founds.Nothing is settled = inr (inl (is, refl))
    example_told founds.Unsettled is settled = inr (inr (λ ends. settled (room (choices order.decisions) ends), refl))

    pub loss_told : (found : WhyLost) → IsWhyLost order.game order.diagram aim order.decisions found → (Settles → IsWhyLostShown found) →
        (EachIsSettled order.game order.diagram limits (asks.Lost aim) (choices order.decisions) → IsWhyLostExact found) →
        TellsLost page limits aim order.decisions (why_text (lost_for page aim) (lost_label page aim) order.diagram.names found)
    loss_told (whys.Because e) is shown exact =
        inl (e.decisions.items, e.exact, is, refl, λ ends. exact (λ own among. room own (ends own among)))
    loss_told (whys.Unless e) is shown exact = inr (inl (product_told e is shown))
    loss_told whys.Unsettled is shown exact = inr (inr (λ ends. shown (room (choices order.decisions) ends), refl))

    pub forced_told : (found : Demand) → AreFoundNeeds order.game order.diagram aim (choices order.decisions) found → (Settles → AreNeedsExact found) →
        TellsForced page limits aim order.decisions (demand_text (forced_word aim) order.diagram.names found)
    forced_told (demands.These f) is settled =
        inl (f.literals.items, f.exact, is.0.0, is.0.1, is.0.2, is.1, refl, λ ends. settled (room (choices order.decisions) ends))
    forced_told demands.Nothing is settled = inr (inl (is, refl))
    forced_told demands.Unsettled is settled = inr (inr (λ ends. settled (room (choices order.decisions) ends), refl))

  -- ---- both verdicts

  pub told_vertex : (vertex : ℕ) (before between after : List ℕ) → Appends (TellsVerdict page limits Hopeful vertex order.decisions order.hopeful) before between →
      Appends (TellsVerdict page limits Dual vertex order.decisions order.dual) between after → Appends (TellsVertex page limits vertex order.decisions order.hopeful order.dual) before after
  told_vertex vertex before between after (first, (a, one)) (second, (b, two)) =
      (first ++ second, ((first, second, a, b, refl), two ∙ ap (λ (bytes : List ℕ). bytes ++ second) one ∙ append_assoc before first second))
