use Rattle.std.proofs.Common.{◌≡◌, ◌∙◌, Option, Some, None, sym, ap}
use Rattle.std.specs.Prelude.{IsSomeAnd}
use Rattle.vpg_engine.specs.Client.{ClientState}
use Rattle.vpg_engine.proofs.Committing.{committed_within}
use Rattle.vpg_engine.proofs.Logged.{own_tells, unless_stray}
use Rattle.vpg_engine.proofs.client.Client.commit_own.Goals as goal

some_and : {A : Type 0} (o : Option A) (a : A) → IsSomeAnd o (λ x. x ≡ a) → o ≡ Some a
some_and (Some x) a is = ap Some is
some_and None a is = absurd is

pub call-requires : goal.call-requires
call-requires g c = record { takes = λ own. (c.requires.ours.0 ∙ ap (λ (s : ClientState). s.desk.game) (sym c.self.view_is), c.requires.ours.1 ∙ ap (λ (s : ClientState). s.desk.diagram) (sym c.self.view_is)) }

pub returns-in-Err : goal.returns-in-Err
returns-in-Err g c =
    let fault = own_tells g.L.Terms.game g.L.Terms.diagram g.L.Terms.limit c.args.self.now c.call.new.self c.args.label c.args.harvest c.in-Err.field-0.fault (c.requires.ours.0 ∙ c.call.ensures.of.0, c.requires.ours.1 ∙ c.call.ensures.of.1) c.in-Err.ensures.fault c.in-Err.ensures.named in
    record {
      accepted = tt;
      game = c.call.ensures.game;
      diagram = c.call.ensures.diagram;
      fault = fault;
      astray = c.in-Err.ensures.astray;
      named = λ own. committed_within g.L.Terms.limit c.args.self.now c.call.new.self c.args.label c.args.harvest c.in-Err.field-0.fault own fault;
      back = unless_stray c.in-Err.field-0.fault _ _ c.in-Err.ensures.back (λ is. some_and c.taken.result c.args.harvest (c.taken.ensures.back _ is));
    }
