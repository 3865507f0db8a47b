-- bits::size meets its contract.
use Rattle.numbers.specs.Bits.{ones_size}
use Rattle.bits.proofs.size.Goals as goal

pub returns : goal.returns
returns c = ones_size 16 c.args.set c.ranges.set.fits
