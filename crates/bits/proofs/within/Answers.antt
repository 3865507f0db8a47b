-- bits::within meets its contract.
use Rattle.numbers.specs.Bits.{within_and}
use Rattle.numbers.specs.Decides.{decides_eqb}
use Rattle.bits.proofs.within.Goals as goal

pub returns : goal.returns
returns c = decides_eqb _ _ (within_and c.args.a c.args.b)
