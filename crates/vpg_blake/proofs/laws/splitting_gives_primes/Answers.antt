use Rattle.vpg_blake.proofs.AllPrimes.{splitting_gives_primes}
use Rattle.vpg_blake.proofs.laws.splitting_gives_primes.Goals as goal

pub returns : goal.returns
returns c = splitting_gives_primes
