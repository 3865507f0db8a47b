-- The sum of the first values of a function, and its laws.
use Rattle.std.specs.Prelude.{◌≡◌, refl}
use Rattle.std.proofs.Common.{sym, ap, ap₂, ◌∙◌, add-le-add, add-zero, add-suc, zero-mul, le_refl, add-mul, lt_of_not-le, add-one}
use Prim.Native.Nat.{ℕ, zero, suc, ◌+◌, ◌*◌, ◌≤◌, ◌<◌}
use Rattle.std.proofs.Math.Nat.{le_dest}
use native.Mathlib.Omega.{arith}

-- f 0 + f 1 + .. + f (n - 1)
unfoldable pub sum : (ℕ → ℕ) → ℕ → ℕ
sum f zero = 0
sum f (suc n) = sum f n + f n

-- one value more, as a loop counts
pub sum_next : (f : ℕ → ℕ) (n : ℕ) → sum f (n + 1) ≡ sum f n + f n
unfolding sum
sum_next f n = rw add-one

pub sum_same : (f g : ℕ → ℕ) (n : ℕ) → ((i : ℕ) → i < n → f i ≡ g i) → sum f n ≡ sum g n
unfolding sum
sum_same f g zero h = refl
sum_same f g (suc n) h = ap₂ (λ (x y : ℕ). x + y) (sum_same f g n (λ i l. h i (omega arith))) (h n (le_refl (suc n)))

pub sum_le : (f g : ℕ → ℕ) (n : ℕ) → ((i : ℕ) → i < n → f i ≤ g i) → sum f n ≤ sum g n
unfolding sum
sum_le f g zero h = le_refl 0
sum_le f g (suc n) h = add-le-add (sum_le f g n (λ i l. h i (omega arith))) (h n (le_refl (suc n)))

-- where no value is above b, the sum of n is not above n times b
pub sum_most : (f : ℕ → ℕ) (b n : ℕ) → ((i : ℕ) → i < n → f i ≤ b) → sum f n ≤ n * b
unfolding sum
sum_most f b zero h = omega arith
sum_most f b (suc n) h = omega (arith, sum_most f b n (λ i l. h i (omega arith)), h n (le_refl (suc n)))

-- and where none is below b, not below it
pub sum_least : (f : ℕ → ℕ) (b n : ℕ) → ((i : ℕ) → i < n → b ≤ f i) → n * b ≤ sum f n
unfolding sum
sum_least f b zero h = omega arith
sum_least f b (suc n) h = omega (arith, sum_least f b n (λ i l. h i (omega arith)), h n (le_refl (suc n)))

-- of values that are all 0
pub sum_none : (f : ℕ → ℕ) (n : ℕ) → ((i : ℕ) → i < n → f i ≡ 0) → sum f n ≡ 0
unfolding sum
sum_none f zero h = refl
sum_none f (suc n) h = omega (arith, sum_none f n (λ i l. h i (omega arith)), h n (le_refl (suc n)))

pub sum_times : (f : ℕ → ℕ) (c n : ℕ) → sum (λ i. f i * c) n ≡ sum f n * c
unfolding sum
sum_times f c zero = sym (zero-mul c)
sum_times f c (suc n) = ap (λ (x : ℕ). x + f n * c) (sum_times f c n) ∙ sym (add-mul (sum f n) (f n) c)

-- values summed in pairs, and in rows or in columns
pub sum_plus : (f g : ℕ → ℕ) (n : ℕ) → sum (λ i. f i + g i) n ≡ sum f n + sum g n
unfolding sum
sum_plus f g zero = refl
sum_plus f g (suc n) = omega (arith, sum_plus f g n)

pub sum_swap : (g : ℕ → ℕ → ℕ) (n k : ℕ) → sum (λ t. sum (g t) k) n ≡ sum (λ i. sum (λ t. g t i) n) k
unfolding sum
sum_swap g n zero = sum_none (λ t. 0) n (λ t l. refl)
sum_swap g n (suc k) = sum_plus (λ t. sum (g t) k) (λ t. g t k) n ∙ ap (λ (x : ℕ). x + sum (λ t. g t k) n) (sum_swap g n k)

-- the first m, and then as many as are left
pub sum_parts : (f : ℕ → ℕ) (m k : ℕ) → sum f (m + k) ≡ sum f m + sum (λ i. f (m + i)) k
unfolding sum
sum_parts f m zero = rw add-zero (omega arith)
sum_parts f m (suc k) = rw add-suc (omega (arith, sum_parts f m k))

pub sum_more : (f : ℕ → ℕ) (m n : ℕ) → m ≤ n → sum f m ≤ sum f n
sum_more f m n h = rw (← (le_dest h).1) (omega (arith, sum_parts f m (le_dest h).0))

-- a greater sum is one of more values
pub sum_longer : (f : ℕ → ℕ) (m n : ℕ) → sum f m < sum f n → m < n
sum_longer f m n h = lt_of_not-le (λ (l : n ≤ m). omega (arith, sum_more f n m l))

-- no value is above the sum
pub sum_one : (f : ℕ → ℕ) (i n : ℕ) → i < n → f i ≤ sum f n
unfolding sum
sum_one f i n h = omega (arith, sum_more f (suc i) n h)

-- values that repeat after p: each further round adds the same
module _ (f : ℕ → ℕ) (p : ℕ) (round : (n : ℕ) → f (n + p) ≡ f n) where
  pub rounds : (n k : ℕ) → f (n + k * p) ≡ f n
  rounds n zero = rw (zero-mul p, add-zero n)
  rounds n (suc k) = let e : n + suc k * p ≡ (n + k * p) + p = omega arith in rw e (round (n + k * p) ∙ rounds n k)

  sum_round : (m : ℕ) → sum f (m + p) ≡ sum f m + sum f p
  unfolding sum
  sum_round zero = let e : 0 + p ≡ p = omega arith in rw e (omega arith)
  sum_round (suc m) = let e : suc m + p ≡ suc (m + p) = omega arith in rw e (omega (arith, sum_round m, round m))

  pub sum_rounds : (m k : ℕ) → sum f (m + k * p) ≡ sum f m + k * sum f p
  sum_rounds m zero = rw (zero-mul p, zero-mul (sum f p), add-zero m) (omega arith)
  sum_rounds m (suc k) =
      let e : m + suc k * p ≡ (m + k * p) + p = omega arith in
      rw e (omega (arith, sum_round (m + k * p), sum_rounds m k))
