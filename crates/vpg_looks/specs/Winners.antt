-- The winners at a vertex in the products left. This project's own.
use Rattle.std.specs.Prelude.{ℕ, Bool, List, IsTrue}
use Rattle.std.specs.List.{AllByRecursion}
use Rattle.vpg_diagram.specs.declared.clause.Literal.{Literal}
use Rattle.vpg_partial.specs.KnownLaws.{IsRemaining}
use Rattle.vpg_texts.specs.Scene.{Scene}
use Rattle.vpg_why.specs.Products.{MeetsIn, IsFirstIn}
use Rattle.vpg_why.specs.declared.question.Aim.{Aim}
use Rattle.vpg_why.specs.declared.question.Limits.{Limits}
use Rattle.vpg_winners.specs.Joined.{PartView}
use Rattle.vpg_winners.specs.Winners.{AreJoined, ArePartition, AreSettled, AreSplit, HasProduct, IsCutOut, IsExactPart}
use Rattle.vpg_looks.specs.Room.{SplitEnds}

-- Parts of the products that agree with the choices, by the winner at the vertex.
pub record AreWinners (scene : Scene) (limits : Limits) (vertex : ℕ) (choices : List Literal)
    (parts : List PartView) : Type 0 where
  -- each product is in exactly one part
  pub partition : ArePartition scene.lines choices parts
  -- in each product of a part its winner has a strategy that wins from the vertex
  pub exact : AllByRecursion (IsExactPart scene.game scene.lines choices vertex) parts
  -- there is such a product, unless the part is unsettled
  pub some : AllByRecursion (HasProduct scene.lines choices) parts
  -- a part's literals are of features that are not known, in the order of the features, each once
  pub cut_out : AllByRecursion (IsCutOut scene.lines choices) parts
  -- no two parts of one winner differ in the sign of one literal alone
  pub joined : AreJoined parts
  -- they are made by the rule, so there is one such list if no part is unsettled
  pub rule : AreSplit scene.game scene.lines vertex choices parts
  -- if the limits leave room, no part is unsettled
  pub settled : SplitEnds scene limits choices → AreSettled parts

-- A product that agrees with the choices and meets the aim; it is the first one, if that is shown.
pub record IsExample (scene : Scene) (aim : Aim) (choices : List Literal) (set : List Bool) (first : Bool) :
    Type 0 where
  pub remaining : IsRemaining scene.lines choices set
  pub meets : MeetsIn scene.game aim set
  pub is_first : IsTrue first → IsFirstIn scene.game scene.lines aim choices set
