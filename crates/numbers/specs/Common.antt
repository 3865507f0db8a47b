-- Common divisors and common multiples. a ∣ b says that a divides b; every number divides 0.
use Rattle.std.specs.Prelude.{ℕ, ◌≤◌, ◌<◌, Option, Some, None}
use Rattle.std.specs.Int.{◌∣◌}

-- g is the greatest common divisor of a and b: it divides both, and every number that divides both divides it
pub record IsGcd (a b g : ℕ) : Type 0 where
  pub left : g ∣ a
  pub right : g ∣ b
  pub greatest : (d : ℕ) → d ∣ a → d ∣ b → d ∣ g

-- l is the least common multiple of a and b: both divide it, and it divides every number that both divide
pub record IsLcm (a b l : ℕ) : Type 0 where
  pub left : a ∣ l
  pub right : b ∣ l
  pub least : (m : ℕ) → a ∣ m → b ∣ m → l ∣ m

-- the least common multiple under a limit: it, where it is within the limit, and none where it is above
abbrev pub IsLcmWithin : ℕ → ℕ → ℕ → Option ℕ → Type 0
IsLcmWithin a b limit (Some l) = IsLcm a b l × (l ≤ limit)
IsLcmWithin a b limit None = (l : ℕ) → IsLcm a b l → limit < l
