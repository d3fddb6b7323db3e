-- The law of answers, as a statement.
use Rattle.std.specs.Prelude.{◌≡◌, Option}
use Rattle.vpg_checking.specs.Behaviours.{Behaviour}
use Rattle.vpg_script.specs.Answer.{Answer}
use Rattle.vpg_texts.specs.Scene.{Scene}
use Rattle.vpg_why.specs.declared.question.Limits.{Limits}
use Rattle.vpg_looks.specs.Meanings.{Sight}
use Rattle.vpg_answers.specs.Told.{IsDoubtful, IsTold}
use Rattle.vpg_answers.specs.Topics.{Topic}

-- Two answers to one look at one page are the same if no limit was met, whatever the limits were.
abbrev pub AnswersAreOne : Type 0
AnswersAreOne =
    (behaviour : Option Behaviour) (scene : Scene) (limits others : Limits) (topic : Topic) (page : Sight)
    (one other : Answer) →
    IsTold behaviour scene limits topic page one →
    IsTold behaviour scene others topic page other →
    ¬ (IsDoubtful topic one) → ¬ (IsDoubtful topic other) → one ≡ other
