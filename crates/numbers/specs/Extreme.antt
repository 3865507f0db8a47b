-- The least and the greatest number with a property, and how many there are where they come first. Each is one number at most.
use Rattle.std.specs.Prelude.{◌≡◌, refl, List, ◌↔◌, ◌⊎◌, length, get_or}
use Rattle.std.proofs.Common.{ap₂, inl, inr, le_antisymm, lt_of_lt_of_le, not-suc-le-zero, le_of_suc-le-suc, eq-or-lt_of_le, le_refl}
use Rattle.std.proofs.Math.Logic.{⊎_elim}
use Prim.Native.Nat.{ℕ, zero, suc, ◌≤◌, ◌<◌, max, ◌+◌}
use native.Mathlib.Omega.{arith}
use Rattle.std.proofs.Math.Decide.{dec_le, dec_lt}
use Rattle.std.proofs.Math.Numerals.{add-one}
use Rattle.std.proofs.Math.ListN.{get_or-eq_default}

-- n has the property P, and no smaller number has it
pub record Least (P : ℕ → Type 0) (n : ℕ) : Type 0 where
  pub holds : P n
  pub least : (m : ℕ) → P m → n ≤ m

-- n has the property P, and no greater number has it
pub record Greatest (P : ℕ → Type 0) (n : ℕ) : Type 0 where
  pub holds : P n
  pub greatest : (m : ℕ) → P m → m ≤ n

-- n numbers have the property P: those below n, and no others
abbrev pub ExactlyFirst : (ℕ → Type 0) → ℕ → Type 0
ExactlyFirst P n = (k : ℕ) → (k < n) ↔ P k

-- the greatest of the first n values of a function; 0 where there is none
unfoldable pub most_of : (ℕ → ℕ) → ℕ → ℕ
most_of f zero = 0
most_of f (suc n) = max (most_of f n) (f n)

-- the greatest of the numbers of a list and 0
abbrev pub GreatestIn : List ℕ → ℕ → Type 0
GreatestIn l = Greatest (λ v. (v ≡ 0) ⊎ ((i : ℕ) × (i < length l) × (v ≡ get_or l i 0)))

pub least_unique : (P : ℕ → Type 0) {n m : ℕ} → Least P n → Least P m → n ≡ m
least_unique P {n} {m} p q = le_antisymm (p.least m q.holds) (q.least n p.holds)

pub greatest_unique : (P : ℕ → Type 0) {n m : ℕ} → Greatest P n → Greatest P m → n ≡ m
greatest_unique P {n} {m} p q = le_antisymm (q.greatest n p.holds) (p.greatest m q.holds)

module _ (f : ℕ → ℕ) where
  -- one value more, as a loop counts
  pub most_next : (n : ℕ) → most_of f (n + 1) ≡ max (most_of f n) (f n)
  unfolding most_of
  most_next n = rw add-one

  -- no value is above it, no smaller number has this, and one value is it
  pub most_above : (n i : ℕ) → i < n → f i ≤ most_of f n
  unfolding most_of
  most_above zero i h = absurd (not-suc-le-zero h)
  most_above (suc n) i h =
      ⊎_elim (λ (e : i ≡ n). rw e (omega arith)) (λ (g : i < n). omega (arith, most_above n i g)) (eq-or-lt_of_le (le_of_suc-le-suc h))

  pub most_within : (b n : ℕ) → ((i : ℕ) → i < n → f i ≤ b) → most_of f n ≤ b
  unfolding most_of
  most_within b zero h = omega arith
  most_within b (suc n) h = omega (arith, most_within b n (λ i l. h i (omega arith)), h n (le_refl (suc n)))

  pub most_at : (n : ℕ) → 0 < most_of f n → (i : ℕ) × (i < n) × (f i ≡ most_of f n)
  unfolding most_of
  most_at zero h = absurd (not-suc-le-zero h)
  most_at (suc n) h = go (dec_le (f n) (most_of f n)) (most_at n)
    where
      go : Dec (f n ≤ most_of f n) → (0 < most_of f n → (i : ℕ) × (i < n) × (f i ≡ most_of f n))
          → (i : ℕ) × (i < suc n) × (f i ≡ max (most_of f n) (f n))
      go (yes g) before = let (i, l, e) = before (omega arith) in (i, omega arith, omega arith)
      go (no g) before = (n, omega arith, omega arith)

  -- the greatest of the values at places that have the property P, where one of these is above 0, and no other value is
  pub most_greatest : (P : ℕ → Type 0) (n i : ℕ) → (i < n) × P i → 0 < f i → ((j : ℕ) → j < n → 0 < f j → P j)
      → Greatest (λ v. (j : ℕ) × ((j < n) × P j) × (f j ≡ v)) (most_of f n)
  most_greatest P n i a pos only =
      let (j, l, e) = most_at n (lt_of_lt_of_le pos (most_above n i a.0)) in
      record {
        holds = (j, (l, only j l (omega (arith, most_above n i a.0))), e);
        greatest = λ v (k, b, d). omega (arith, most_above n k b.0);
      }

-- the greatest of a list's elements is the greatest in it
module _ (l : List ℕ) where
  abbrev at : ℕ → ℕ
  at i = get_or l i 0

  pub most_in : GreatestIn l (most_of at (length l))
  most_in =
      record {
        holds =
            ⊎_elim (λ (z : 0 ≡ most_of at (length l)). inl (omega arith)) (λ (p : 0 < most_of at (length l)). let (i, h, e) = most_at at (length l) p in inr (i, h, omega arith))
            (eq-or-lt_of_le (omega arith));
        greatest = λ m. ⊎_elim (λ (z : m ≡ 0). omega arith) (λ ((i, h, e) : (i : ℕ) × (i < length l) × (m ≡ at i)). omega (arith, most_above at (length l) i h));
      }

  -- no element is above what is the greatest in it, and this is below what all elements are below
  module _ (r : ℕ) (most : GreatestIn l r) where
    pub greatest_above : (i : ℕ) → get_or l i 0 ≤ r
    greatest_above i = go (dec_lt i (length l))
      where
        go : Dec (i < length l) → at i ≤ r
        go (yes h) = most.greatest (at i) (inr (i, h, refl))
        go (no h) = omega (arith, get_or-eq_default l 0 {n = i} (omega arith))

    pub greatest_below : (b : ℕ) → 0 < b → ((i : ℕ) → get_or l i 0 < b) → r < b
    greatest_below b some h =
        ⊎_elim (λ (z : r ≡ 0). omega arith) (λ ((i, g, e) : (i : ℕ) × (i < length l) × (r ≡ at i)). omega (arith, h i)) most.holds

-- the same values have the same greatest
pub most_same : (f g : ℕ → ℕ) (n : ℕ) → ((i : ℕ) → i < n → f i ≡ g i) → most_of f n ≡ most_of g n
unfolding most_of
most_same f g zero h = refl
most_same f g (suc n) h = ap₂ max (most_same f g n (λ i l. h i (omega arith))) (h n (le_refl (suc n)))
