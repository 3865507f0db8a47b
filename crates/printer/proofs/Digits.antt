-- How many digits a number has. Assumes nothing.
use mathlib.Core.Path.{◌≡◌, refl}
use mathlib.Core.Bool.{Bool, true, false}
use mathlib.Core.List.{[], ◌∷◌}
use Prim.Native.Nat.{ℕ, zero, suc, ◌+◌, ◌/◌, ◌%◌, ◌^◌, ◌≤◌, ◌<◌}
use native.Mathlib.Omega.{arith}
use lib.Dec.{ltb}
use lib.ListN.{length, length-append}
use borrow.Author.Tests.{ltb-true, ltb-false}
use Rattle.numbers.specs.Digits.{digits, digits_above, digits_some}
use Rattle.rfc4180.specs.Decimal.{decimal}
use Rattle.rfc4180.proofs.Decimals.{decimal_one, decimal_more}

-- a number below 10 to the k has at most k digits
pub digits_most : (k n : ℕ) → n < 10 ^ suc k → length (decimal n) ≤ suc k
digits_most zero n h = rw (decimal_one n (omega arith)) (omega arith)
digits_most (suc k) n h = go (ltb n 10) refl (digits_most k (n / 10))
  where
    go : (x : Bool) → ltb n 10 ≡ x → (n / 10 < 10 ^ suc k → length (decimal (n / 10)) ≤ suc k) → length (decimal n) ≤ suc (suc k)
    go true e ih = rw (decimal_one n (ltb-true n 10 e)) (omega arith)
    go false e ih =
        rw (decimal_more n (ltb-false n 10 e))
        (omega (arith, ih (omega arith), length-append (decimal (n / 10)) ((48 + n % 10) ∷ [])))

-- and one that is at most another has at most as many
pub digits_within : (n most : ℕ) → most < 10 ^ 20 → n ≤ most → length (decimal n) ≤ digits most
digits_within n most small h = go (digits most) (digits_above 19 most small) (digits_some 19 most)
  where
    go : (d : ℕ) → most < 10 ^ d → 0 < d → length (decimal n) ≤ d
    go zero l some = absurd (omega arith)
    go (suc k) l some = digits_most k n (omega (arith, l))
