-- The lowest number that passes a test, and its laws.
use Rattle.std.specs.Prelude.{◌≡◌, Bool, true, false, cond, ◌⊎◌}
use Rattle.std.proofs.Math.Path.{refl}
use Rattle.std.proofs.Common.{sym, ◌∙◌, inl, inr, le_refl, eq-or-lt_of_le}
use Rattle.std.proofs.Math.Logic.{⊎_elim}
use Prim.Native.Nat.{ℕ, zero, suc, ◌+◌, ◌-◌, ◌≤◌, ◌<◌}
use Rattle.std.proofs.Math.Numerals.{add-one}
use native.Mathlib.Omega.{arith}

-- among the k numbers from i on; d where none passes
unfoldable pub lowest_or : (ℕ → Bool) → ℕ → ℕ → ℕ → ℕ
lowest_or f d zero i = d
lowest_or f d (suc k) i = cond (f i) i (lowest_or f d k (suc i))

module _ (f : ℕ → Bool) where
  -- none of them passes; and j passes, and none before it
  abbrev pub NonePasses : ℕ → ℕ → Type 0
  NonePasses k i = (l : ℕ) → i ≤ l → l < i + k → f l ≡ false

  pub record FirstPasses (k i j : ℕ) : Type 0 where
    pub from : i ≤ j
    pub below : j < i + k
    pub passes : f j ≡ true
    pub first : (l : ℕ) → i ≤ l → l < j → f l ≡ false

  -- one number passed, as a loop counts
  pub lowest_next : (d k i : ℕ) → i < k → lowest_or f d (k - i) i ≡ cond (f i) i (lowest_or f d (k - (i + 1)) (i + 1))
  unfolding lowest_or
  lowest_next d k i h = let e : k - i ≡ suc (k - (i + 1)) = omega arith in rw (e, add-one i)

  -- one number more that does not pass
  pub none_more : (k i j : ℕ) → j ≡ i + k → f j ≡ false → NonePasses k i → NonePasses (k + 1) i
  none_more k i j e h p l a b =
      ⊎_elim (λ (s : l ≡ i + k). rw (s ∙ sym e) h) (λ (c : l < i + k). p l a c) (eq-or-lt_of_le (omega arith))

  pub lowest_none : (d k i : ℕ) → NonePasses k i → lowest_or f d k i ≡ d
  unfolding lowest_or
  lowest_none d zero i h = refl
  lowest_none d (suc k) i h = rw (h i (le_refl i) (omega arith)) (lowest_none d k (suc i) (λ l a b. h l (omega arith) (omega arith)))

  pub lowest_is : (d k i j : ℕ) → FirstPasses k i j → lowest_or f d k i ≡ j
  unfolding lowest_or
  lowest_is d zero i j p = absurd (omega (arith, p.from, p.below))
  lowest_is d (suc k) i j p =
      ⊎_elim (λ (e : i ≡ j). rw (e, p.passes))
      (λ (l : i < j). rw (p.first i (le_refl i) l) (lowest_is d k (suc i) j (record {
        from = l;
        below = omega (arith, p.below);
        passes = p.passes;
        first = λ n a b. p.first n (omega arith) b;
      })))
      (eq-or-lt_of_le p.from)

  -- one of the two holds
  pub sought : (k i : ℕ) → ((j : ℕ) × FirstPasses k i j) ⊎ NonePasses k i
  sought zero i = inr (λ l a b. absurd (omega arith))
  sought (suc k) i = go (f i) refl (sought k (suc i))
    where
      go : (x : Bool) → f i ≡ x → ((j : ℕ) × FirstPasses k (suc i) j) ⊎ NonePasses k (suc i) → ((j : ℕ) × FirstPasses (suc k) i j) ⊎ NonePasses (suc k) i
      go true e r = inl (i, record { from = le_refl i; below = omega arith; passes = e; first = λ l a b. absurd (omega arith) })
      go false e (inl (j, p)) =
          inl (j, record { from = omega (arith, p.from); below = omega (arith, p.below); passes = p.passes; first = λ l a b. past l a (λ c. p.first l c b) })
        where
          past : (l : ℕ) → i ≤ l → (suc i ≤ l → f l ≡ false) → f l ≡ false
          past l a h = ⊎_elim (λ (s : i ≡ l). rw (← s) e) h (eq-or-lt_of_le a)
      go false e (inr n) = inr (λ l a b. ⊎_elim (λ (s : i ≡ l). rw (← s) e) (λ (c : i < l). n l c (omega arith)) (eq-or-lt_of_le a))
