-- rate::pace::step_of meets its contract.
use native.Mathlib.Nat.{le-div_iff_mul-le, le_of_dvd}
use native.Mathlib.Omega.{arith}
use Rattle.numbers.specs.Euclid.{gcd_pos}
use Rattle.rate.proofs.pace.step_of.Goals as goal

pub nonzero_div-tokens : goal.nonzero_div-tokens
nonzero_div-tokens c = gcd_pos c.gcd-common.ensures (omega arith)

pub nonzero_div-ticks : goal.nonzero_div-ticks
nonzero_div-ticks c =
    (le-div_iff_mul-le {x = 1} (gcd_pos c.gcd-common.ensures (omega arith))).1 (omega (arith, le_of_dvd (omega arith) c.gcd-common.ensures.left))
