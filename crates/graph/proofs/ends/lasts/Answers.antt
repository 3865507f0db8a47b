-- graph::ends::lasts meets its contract.
use mathlib.Core.Path.{◌≡◌, ap, ◌∙◌}
use mathlib.Core.Bool.{not}
use Prim.Native.Nat.{ℕ, zero, suc, ◌-◌, ◌/◌, ◌^◌, ◌<◌}
use native.Mathlib.Nat.{pow-suc, le_of_suc-le-suc, not-suc-le-zero}
use native.Mathlib.Omega.{arith}
use lib.Bits.{bit_and}
use lib.Pow.{pow_pos}
use Rattle.numbers.specs.Bits.{bit, Has, hasb, bit_lt, has_and, has_below, has_decides, same_set}
use Rattle.numbers.specs.Decides.{decides_not}
use Rattle.units.specs.Limits.{ACTORS}
use Rattle.graph.specs.Rounds.{chosen}
use Rattle.graph.proofs.Bounds.{chosen_has}
use Rattle.graph.proofs.ends.lasts.Goals as goal

-- the numbers below k that g has not
others : (k g j : ℕ) → g < 2 ^ k → j < k → bit (2 ^ k - 1 - g) j ≡ 1 - bit g j
unfolding bit
others zero g j f h = absurd (not-suc-le-zero h)
others (suc k) g zero f h = omega (arith, pow-suc 2 k, pow_pos k, f)
others (suc k) g (suc j) f h =
    let e : (2 ^ suc k - 1 - g) / 2 ≡ 2 ^ k - 1 - g / 2 = omega (arith, pow-suc 2 k, pow_pos k, f) in
    ap (λ (x : ℕ). bit x j) e ∙ others k (g / 2) j (omega (arith, pow-suc 2 k, f)) (le_of_suc-le-suc h)

lasts_are : (active g : ℕ) → active < 2 ^ 16 → g < 2 ^ 16 → bit_and active (65535 - g) ≡ chosen (λ i. not (hasb g i)) active ACTORS
lasts_are active g fits few = same_set _ _ (λ i.
    let both = has_and active (65535 - g) i in
    let has = chosen_has (λ i. not (hasb g i)) (λ i. Has g i → ⊥) (λ i. decides_not (hasb g i) (has_decides g i)) active ACTORS i in (
      (λ h. let (a, n) = both.0 h in let l = has_below 16 active i fits a in has.1 (l, a, λ y. omega (arith, others 16 g i few l, n, y))),
      (λ h. let (l, a, n) = has.0 h in both.1 (a, omega (arith, others 16 g i few l, bit_lt g i, n))),
    ))

pub returns : goal.returns
returns c = rw (← c.givers.ensures) (lasts_are _ _ c.ranges.active.fits c.givers.type_inv)
