-- bits::with meets its contract.
use native.Mathlib.Nat.{one-mul}
use native.Mathlib.Omega.{arith}
use lib.Dec.{lit<}
use lib.Pow.{shl_exact}
use Rattle.numbers.specs.Bits.{has_adding}
use Rattle.bits.proofs.with.Goals as goal

pub returns : goal.returns
returns c = rw (shl_exact 1 c.args.i 16 (lit< tt) (omega arith), one-mul) (has_adding c.args.set c.args.i)
