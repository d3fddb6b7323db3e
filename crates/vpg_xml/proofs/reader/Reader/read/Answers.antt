use Rattle.std.proofs.Common.{[], ap, ◌∙◌}
use Rattle.vpg_xml.specs.Elements.{character, closing, opening}
use Rattle.vpg_xml.specs.Tokens.{pieces_of}
use Rattle.vpg_xml.specs.Reading.{State, run}
use Rattle.vpg_xml.specs.View.{state_of, token_of, tag_of}
use Rattle.vpg_xml.proofs.StepCode.{run_one, run_none, step_error, start_first, if_ok_by, if_err_by}
use Rattle.vpg_xml.proofs.reader.Reader.read.Goals as goal

pub returns-in-Character-clause-ok : goal.returns-in-Character-clause-ok
returns-in-Character-clause-ok c =
    let s : State = state_of c.args.self.now in
    if_ok_by c.character.result (λ e. ap (λ t. run (pieces_of c.args.at (token_of t)) s) c.in-Character.is ∙ run_one s (state_of c.character.new.self) c.args.at (character c.in-Character.c) e) c.character.ensures.ok

pub returns-in-Character-clause-err : goal.returns-in-Character-clause-err
returns-in-Character-clause-err c =
    let s : State = state_of c.args.self.now in
    if_err_by c.character.result (λ e h. step_error s c.args.at (token_of c.args.token) (character c.in-Character.c) [] e (ap (λ t. pieces_of c.args.at (token_of t)) c.in-Character.is) h) c.character.ensures.err

pub returns-in-Comment-clause-ok : goal.returns-in-Comment-clause-ok
returns-in-Comment-clause-ok c = ap (λ t. run (pieces_of c.args.at (token_of t)) (state_of c.args.self.now)) c.in-Comment.is ∙ run_none (state_of c.args.self.now)

pub returns-in-Start-clause-err : goal.returns-in-Start-clause-err
returns-in-Start-clause-err c =
    let s : State = state_of c.args.self.now in
    let first = start_first c.args.at (tag_of c.in-Start.tag) c.in-Start.is_empty in
    if_err_by c.start.result (λ e h. step_error s c.args.at (token_of c.args.token) (opening (tag_of c.in-Start.tag)) first.0 e (ap (λ t. pieces_of c.args.at (token_of t)) c.in-Start.is ∙ first.1) h) c.start.ensures.err

pub returns-in-End-clause-ok : goal.returns-in-End-clause-ok
returns-in-End-clause-ok c =
    let s : State = state_of c.args.self.now in
    if_ok_by c.end.result (λ e. ap (λ t. run (pieces_of c.args.at (token_of t)) s) c.in-End.is ∙ run_one s (state_of c.end.new.self) c.args.at (closing c.in-End.name.now) e) c.end.ensures.ok

pub returns-in-End-clause-err : goal.returns-in-End-clause-err
returns-in-End-clause-err c =
    let s : State = state_of c.args.self.now in
    if_err_by c.end.result (λ e h. step_error s c.args.at (token_of c.args.token) (closing c.in-End.name.now) [] e (ap (λ t. pieces_of c.args.at (token_of t)) c.in-End.is) h) c.end.ensures.err
