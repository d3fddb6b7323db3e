-- Two answers are one text.
use Rattle.vpg_answers.specs.Laws.{AnswersAreOne}
use Rattle.vpg_answers.specs.Told.{meaning, seen}

pub answers_are_one : AnswersAreOne
answers_are_one behaviour scene limits others topic page one other a b sure also =
    (meaning behaviour topic).one (seen scene page) limits others (record { diagram = a.diagram; named = a.named }) one other a.tells b.tells sure also
