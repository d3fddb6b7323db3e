use Rattle.std.specs.Prelude.{IsTrue}
use Rattle.vpg_office.specs.Token.{EndsWith}
use Rattle.vpg_office.proofs.token.Token.serial.Goals as goal

pub returns-clause-own : goal.returns-clause-own
returns-clause-own g c = coe 0 1 (k. EndsWith (λ reply. IsTrue (g.T.Kind.gives (c.self.view_is k).serial reply)) (c.self.view_is k).history) c.self.invariant.2
