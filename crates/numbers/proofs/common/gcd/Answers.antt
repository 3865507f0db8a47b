-- numbers::common::gcd meets its contract. The invariant: x and y are odd, and their greatest common divisor, with the shared zeros put back, is that of a and b.
-- The measure is their sum.
use Prim.Native.Nat.{◌-◌, ◌^◌}
use native.Mathlib.Nat.{pos_of_ne-zero}
use native.Mathlib.Omega.{arith}
use Rattle.numbers.proofs.Halving.{ends_in, halved_first, halved_swap, halved_next, halved_last}
use Rattle.numbers.proofs.common.gcd.Goals.{then-x-y, else-x-y}
use Rattle.numbers.proofs.common.gcd.Goals as goal

pub loop-x-init : goal.loop-x-init
loop-x-init c =
    halved_first (ends_in 64 c.args.a (pos_of_ne-zero c.if-a-eq0.false) c.ranges.a.fits)
    (ends_in 64 c.args.b (pos_of_ne-zero c.if-b-eq0.false) c.ranges.b.fits) c.min-shared.ensures

-- the lesser goes from the greater, and the zeros that their difference ends in are dropped
pub loop-x-preserved : goal.loop-x-preserved
loop-x-preserved c =
    let d = c.if-x-y.x - c.if-x-y.y in
    elim c.if-x-y.branch [
      | then-x-y w ↦ halved_next (omega arith) (ends_in 64 d (omega arith) (omega arith)) (rw (w.x-is, w.y-is) (halved_swap c.loop-x.invariant))
      | else-x-y w ↦ halved_next (omega arith) (ends_in 64 d (omega arith) (omega arith)) (rw (w.x-is, w.y-is) c.loop-x.invariant)
    ]

pub returns : goal.returns
returns c =
    halved_last (2 ^ 64) c.loop-x-test.false c.ranges.a.fits c.ranges.b.fits c.loop-x.invariant
