use Rattle.vpg_office.proofs.tokens.SpendCallCall.carry_out.Goals as goal

pub returns-clause-made : goal.returns-clause-made
returns-clause-made g c = c.spend_one.ensures.step g.L.Terms.game g.L.Terms.diagram c.args._session
