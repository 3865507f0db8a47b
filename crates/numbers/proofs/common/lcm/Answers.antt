-- numbers::common::lcm meets its contract.
use Prim.Native.Nat.{zero-le}
use native.Mathlib.Nat.{pos_of_ne-zero, lt_of_lt_of_le, le_of_eq, le-div_iff_mul-le, div-lt_iff_lt-mul}
use Rattle.numbers.specs.Euclid.{gcd_pos}
use Rattle.numbers.specs.Multiples.{lcm_unique, lcm_zero, lcm_of_gcd}
use Rattle.numbers.proofs.common.lcm.Goals as goal

pub returns-then-b-eq0 : goal.returns-then-b-eq0
returns-then-b-eq0 c = (lcm_zero c.args.a c.if-b-eq0.true, zero-le)

pub nonzero_div-q : goal.nonzero_div-q
nonzero_div-q c = gcd_pos c.gcd.ensures (pos_of_ne-zero c.if-b-eq0.false)

pub returns-then-q-limit : goal.returns-then-q-limit
returns-then-q-limit c =
    let p = pos_of_ne-zero c.if-b-eq0.false in
    (lcm_of_gcd (gcd_pos c.gcd.ensures p) c.gcd.ensures, (le-div_iff_mul-le p).0 c.if-q-limit.true)

pub returns-else-q-limit : goal.returns-else-q-limit
returns-else-q-limit c =
    let p = pos_of_ne-zero c.if-b-eq0.false in
    λ l q. lt_of_lt_of_le ((div-lt_iff_lt-mul p).0 c.if-q-limit.false)
    (le_of_eq (lcm_unique (lcm_of_gcd (gcd_pos c.gcd.ensures p) c.gcd.ensures) q))
