use Rattle.vpg_office.proofs.session.Session.page_with_games.Goals as goal

pub returns-in-Ok : goal.returns-in-Ok
returns-in-Ok g c =
    let gives = c.in-Ok.ensures.gives in
    record {
      done = c.in-Ok.ensures.done;
      decisions = gives.decided;
      hopeful = gives.hopeful_is;
      dual = gives.dual_is;
      games = gives.are_games;
      below = gives.below;
      tells = gives.tells;
      setting = gives.is_setting;
      reached = gives.reached;
      fault = tt;
      same = c.call.ensures.same;
      counted = c.in-Ok.ensures.counted;
      fault_counted = tt;
    }
