-- Halving: what is kept of the common divisors of two numbers where the zeros that a number ends in are dropped, and how the shared ones are put back.
use mathlib.Core.Path.{◌≡◌, refl, sym, ap, subst, subst₂, ◌∙◌}
use Prim.Native.Nat.{ℕ, zero, suc, ◌+◌, ◌-◌, ◌*◌, ◌/◌, ◌%◌, ◌^◌, ◌≤◌, ◌<◌, ◌∣◌, min, suc-le-suc, zero-le}
use native.Mathlib.Nat.{dvd_refl, dvd-sub, dvd-sub_iff_left, dvd-mul_left_of_dvd, dvd-mul_right_of_dvd, div-div-eq-div-mul, div-one, mod-eq_of_lt}
use native.Mathlib.Nat.{mul-one, mul_assoc, mul_comm, mul_left_comm, pow-suc, pow-succ', min-eq_left, min-eq_right}
use native.Mathlib.Omega.{arith}
use native.Mathlib.Decide.{dec_le}
use lib.Arith.{lt-one}
use lib.Pow.{pow_pos, pow-add}
use lib.Count.{count_trailing_zeros, under}
use Rattle.numbers.specs.Common.{IsGcd}
use Rattle.numbers.specs.Euclid.{gcd_comm, gcd_scale, gcd_lt}

-- x is odd
abbrev pub Odd : ℕ → Type 0
Odd x = x % 2 ≡ 1

-- n, a number of k binary places, ends in t zeros: without them it is odd, and with them put back it is n
pub record EndsIn (k n t : ℕ) : Type 0 where
  pub fewer : t < k
  pub odd : Odd (n / 2 ^ t)
  pub whole : n / 2 ^ t * 2 ^ t ≡ n

pub ends_in : (k n : ℕ) → zero < n → n < 2 ^ k → EndsIn k n (count_trailing_zeros k n)
unfolding count_trailing_zeros
ends_in zero n pos h = absurd (omega (arith, lt-one h))
ends_in (suc k) n pos h =
    let h' : n < 2 ^ k * 2 = rw pow-suc at h in
    go (n % 2) refl (λ e. ends_in k (n / 2) (omega arith) (omega arith))
  where
    go : (r : ℕ) → n % 2 ≡ r → (n % 2 ≡ 0 → EndsIn k (n / 2) (count_trailing_zeros k (n / 2))) → EndsIn (suc k) n (under r (count_trailing_zeros k (n / 2)))
    go zero e half =
        let t : ℕ = count_trailing_zeros k (n / 2) in
        let p : EndsIn k (n / 2) t = half e in
        let q : n / 2 ^ suc t ≡ n / 2 / 2 ^ t = ap (λ (x : ℕ). n / x) (pow-succ' 2 t) ∙ sym (div-div-eq-div-mul n 2 (2 ^ t)) in
        record {
          fewer = suc-le-suc p.fewer;
          odd = rw q p.odd;
          whole = rw (q, pow-suc) (sym (mul_assoc (n / 2 / 2 ^ t) (2 ^ t) 2) ∙ rw p.whole (omega arith));
        }
    go (suc r) e half = record { fewer = suc-le-suc zero-le; odd = rw div-one (omega arith); whole = rw (div-one, mul-one) }

-- what divides an odd number and twice another one divides that other one
odd_half : (d x y : ℕ) → Odd x → d ∣ x → d ∣ y * 2 → d ∣ y
odd_half d x y o l r =
    let h : x / 2 * 2 + 1 ≡ x = omega arith in
    let e : y * x - x / 2 * (y * 2) ≡ y = omega (arith, ap (λ (w : ℕ). y * w) h) in
    subst (λ (w : ℕ). d ∣ w) e (dvd-sub d (dvd-mul_left_of_dvd d l y) (dvd-mul_left_of_dvd d r (x / 2)))

-- zeros behind one of two numbers count for nothing where the other is odd: one zero, and any number of them
gcd_double : {x y g : ℕ} → Odd x → IsGcd x y g → IsGcd x (y * 2) g
gcd_double {x} {y} {g} o p =
    record { left = p.left; right = dvd-mul_right_of_dvd g p.right 2; greatest = λ d l r. p.greatest d l (odd_half d x y o l r) }

gcd_zeros : (t : ℕ) {x y g : ℕ} → Odd x → IsGcd x y g → IsGcd x (y * 2 ^ t) g
gcd_zeros zero {y = y} o p = rw (mul-one y) p
gcd_zeros (suc t) {y = y} o p = rw (pow-suc, ← mul_assoc y (2 ^ t) 2) (gcd_double o (gcd_zeros t o p))

-- the difference in the place of the greater
gcd_difference : {x y g : ℕ} → y ≤ x → IsGcd (x - y) y g → IsGcd x y g
gcd_difference {g = g} h p =
    record { left = (dvd-sub_iff_left g h p.right).0 p.left; right = p.right; greatest = λ d l r. p.greatest d (dvd-sub d l r) r }

gcd_same : {x y : ℕ} → x ≡ y → IsGcd x y x
gcd_same {x} e = record { left = dvd_refl x; right = rw (← e) (dvd_refl x); greatest = λ d l r. l }

-- the zeros that both end in are put back
one_shared : (i j : ℕ) {x y g : ℕ} → i ≤ j → Odd x → IsGcd x y g → IsGcd (x * 2 ^ i) (y * 2 ^ j) (g * 2 ^ i)
one_shared i j {x} {y} {g} h o p =
    let e : i + (j - i) ≡ j = omega arith in
    let f : 2 ^ i * (y * 2 ^ (j - i)) ≡ y * 2 ^ j =
    mul_left_comm (2 ^ i) y (2 ^ (j - i)) ∙ ap (λ (w : ℕ). y * w) (sym (pow-add 2 i (j - i)) ∙ ap (λ (w : ℕ). 2 ^ w) e) in
    rw (mul_comm x (2 ^ i), mul_comm g (2 ^ i), ← f) (gcd_scale (2 ^ i) (pow_pos i) (gcd_zeros (j - i) o p))

gcd_shared : (i j : ℕ) {x y g : ℕ} → Odd x → Odd y → IsGcd x y g → IsGcd (x * 2 ^ i) (y * 2 ^ j) (g * 2 ^ min i j)
gcd_shared i j {x} {y} {g} o q p = go (dec_le i j)
  where
    go : Dec (i ≤ j) → IsGcd (x * 2 ^ i) (y * 2 ^ j) (g * 2 ^ min i j)
    go (yes h) = rw (min-eq_left h) (one_shared i j h o p)
    go (no n) = let h : j ≤ i = omega arith in rw (min-eq_right h) (gcd_comm (one_shared j i h q (gcd_comm p)))

-- x and y are odd, and their greatest common divisor, with s zeros put behind it, is that of a and b
pub record Halved (a b s x y : ℕ) : Type 0 where
  pub left : Odd x
  pub right : Odd y
  pub common : (g : ℕ) → IsGcd x y g → IsGcd a b (g * 2 ^ s)

module _ {a b s : ℕ} where
  pub halved_first : {k i j : ℕ} → EndsIn k a i → EndsIn k b j → s ≡ min i j → Halved a b s (a / 2 ^ i) (b / 2 ^ j)
  halved_first {i = i} {j = j} p q e =
      record {
        left = p.odd;
        right = q.odd;
        common = λ g h. rw e (subst₂ (λ (m n : ℕ). IsGcd m n (g * 2 ^ min i j)) p.whole q.whole (gcd_shared i j p.odd q.odd h));
      }

  pub halved_swap : {x y : ℕ} → Halved a b s x y → Halved a b s y x
  halved_swap p = record { left = p.right; right = p.left; common = λ g h. p.common g (gcd_comm h) }

  pub halved_next : {k x y t : ℕ} → y ≤ x → EndsIn k (x - y) t → Halved a b s x y → Halved a b s ((x - y) / 2 ^ t) y
  halved_next {y = y} {t = t} l e p =
      record {
        left = e.odd;
        right = p.right;
        common = λ g h. p.common g (gcd_difference l (subst (λ (n : ℕ). IsGcd n y g) e.whole (gcd_comm (gcd_zeros t p.right (gcd_comm h)))));
      }

  pub halved_last : (m : ℕ) {x y : ℕ} → x ≡ y → a < m → b < m → Halved a b s x y → IsGcd a b (x * 2 ^ s % m)
  halved_last m {x} e la lb p =
      let g : IsGcd a b (x * 2 ^ s) = p.common x (gcd_same e) in
      rw (mod-eq_of_lt (gcd_lt m g la lb)) g
