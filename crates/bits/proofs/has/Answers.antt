-- bits::has meets its contract.
use Prim.Native.Nat.{◌/◌, ◌^◌}
use lib.Dec.{ltb→lt}
use native.Mathlib.Omega.{arith}
use lib.Bits.{and_mask}
use Rattle.numbers.specs.Bits.{bit, bit_shift, bit_out}
use Rattle.numbers.specs.Decides.{decides_eqb}
use Rattle.bits.proofs.has.Goals as goal

pub returns-then-i-lt16 : goal.returns-then-i-lt16
returns-then-i-lt16 c =
    let s = c.args in rw (and_mask (s.set / 2 ^ s.i) 1, bit_shift s.set s.i) (decides_eqb (bit s.set s.i) 1 ((λ h. h), (λ h. h)))

pub returns-else-i-lt16 : goal.returns-else-i-lt16
returns-else-i-lt16 c =
    let s = c.args in (λ t. absurd (omega (arith, ltb→lt s.i 16 t)), λ h. absurd (omega (arith, h, bit_out 16 s.set s.i c.ranges.set.fits c.if-i-lt16.false)))
