-- Model: common divisors and multiples, as they are reckoned.
use Rattle.std.specs.Prelude.{refl, ℕ, zero, suc, ◌*◌, ◌/◌, ◌%◌, ◌<◌}
use Rattle.std.proofs.Common.{not-suc-le-zero, mod-lt, zero-lt-suc, lt_of_lt_of_le, le_of_suc-le-suc, lt-suc_self}
use Rattle.numbers.specs.Common.{IsGcd, IsLcm}
use Rattle.numbers.specs.Euclid.{gcd_zero, gcd_step, gcd_pos}
use Rattle.numbers.specs.Multiples.{lcm_of_gcd}

-- Euclid's steps, at most n
unfoldable pub gcd_from : ℕ → ℕ → ℕ → ℕ
gcd_from zero a b = a
gcd_from (suc n) a zero = a
gcd_from (suc n) a (suc b) = gcd_from n (suc b) (a % suc b)

abbrev pub gcd_of : ℕ → ℕ → ℕ
gcd_of a b = gcd_from (suc b) a b

gcd_from_law : (n a b : ℕ) → b < n → IsGcd a b (gcd_from n a b)
unfolding gcd_from
gcd_from_law zero a b h = absurd (not-suc-le-zero h)
gcd_from_law (suc n) a zero h = gcd_zero a refl
gcd_from_law (suc n) a (suc b) h = gcd_step (gcd_from_law n (suc b) (a % suc b) (lt_of_lt_of_le (mod-lt a (zero-lt-suc b)) (le_of_suc-le-suc h)))

pub gcd_of_law : (a b : ℕ) → IsGcd a b (gcd_of a b)
gcd_of_law a b = gcd_from_law (suc b) a b (lt-suc_self b)

abbrev pub lcm_of : ℕ → ℕ → ℕ
lcm_of a b = a / gcd_of a b * b

pub lcm_of_law : (a b : ℕ) → 0 < b → IsLcm a b (lcm_of a b)
lcm_of_law a b pos = lcm_of_gcd (gcd_pos (gcd_of_law a b) pos) (gcd_of_law a b)
