-- bits::without meets its contract.
use mathlib.Core.Path.{◌≡◌, ap, ◌∙◌}
use Prim.Native.Nat.{ℕ, zero, suc, ◌-◌, ◌*◌, ◌/◌, ◌%◌, ◌^◌, ◌≤◌, ◌<◌}
use native.Mathlib.Nat.{one-mul, pow-suc, le_of_suc-le-suc, not-suc-le-zero}
use native.Mathlib.Omega.{arith}
use lib.Dec.{lit<}
use lib.Pow.{shl_exact, pow_pos}
use Rattle.numbers.specs.Bits.{bit, Has, Without, has_and, has_below, has_removing}
use Rattle.bits.proofs.without.Goals as goal

-- the shifted 1
place : (i : ℕ) → i ≤ 15 → 1 * 2 ^ i % 2 ^ 16 ≡ 2 ^ i
place i h = shl_exact 1 i 16 (lit< tt) (omega arith) ∙ one-mul (2 ^ i)

-- the set of all numbers below k
all : (k j : ℕ) → j < k → Has (2 ^ k - 1) j
unfolding bit
all zero j h = absurd (not-suc-le-zero h)
all (suc k) zero h = rw pow-suc (omega (arith, pow_pos k))
all (suc k) (suc j) h = let e : (2 ^ suc k - 1) / 2 ≡ 2 ^ k - 1 = rw pow-suc (omega (arith, pow_pos k)) in ap (λ (x : ℕ). bit x j) e ∙ all k j (le_of_suc-le-suc h)

-- all numbers but i
others : (i : ℕ) → i ≤ 15 → Without 65535 i (65535 - 2 ^ i)
others i h = rw (all 16 i (omega arith), one-mul) at (has_removing 65535 i)

pub returns : goal.returns
returns c =
    let s = c.args in rw (place s.i (omega arith)) (λ j. let o = others s.i (omega arith) j in let a = has_and s.set (65535 - 2 ^ s.i) j in (
      (λ h. let (in_set, in_rest) = a.0 h in ((o.0 in_rest).0, in_set)),
      (λ (n, h). a.1 (h, o.1 (n, all 16 j (has_below 16 s.set j c.ranges.set.fits h)))),
    ))
