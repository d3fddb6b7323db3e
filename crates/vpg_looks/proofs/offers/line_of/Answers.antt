use Rattle.vpg_looks.proofs.offers.line_of.Goals as goal

pub returns : goal.returns
returns c = record {
  won = c.in_ok-won.ensures.won;
  lost = c.in_ok-won.ensures.lost;
  spared = c.in_ok-spared.ensures.spared;
}
