-- A test that goes through the numbers below n.
use Rattle.std.specs.Prelude.{◌≡◌, Bool, true, false, ◌&&◌, ℕ, zero, suc, ◌<◌}
use Rattle.std.proofs.Common.{⊎_elim, eq-or-lt_of_le, le_of_suc-le-suc, not-suc-le-zero, le_refl, arith}
use Rattle.numbers.specs.Decides.{Decides, decides_yes, decides_no}

-- every number below n has the property P
abbrev pub Below : (ℕ → Type 0) → ℕ → Type 0
Below P n = (i : ℕ) → i < n → P i

-- where f answers whether a number has it, the test of them all answers whether every one has it
module _ (P : ℕ → Type 0) (all f : ℕ → Bool) (none : all 0 ≡ true) (next : (n : ℕ) → all (suc n) ≡ all n && f n) (each : (i : ℕ) → Decides (P i) (f i)) where
  pub all_decides : (n : ℕ) → Decides (Below P n) (all n)
  all_decides zero = rw none (decides_yes (λ i h. absurd (not-suc-le-zero h)))
  all_decides (suc n) = rw (next n) (go (all n) (f n) (all_decides n) (each n))
    where
      go : (a b : Bool) → Decides (Below P n) a → Decides (P n) b → Decides (Below P (suc n)) (a && b)
      go true b p q = (
        λ t i h. ⊎_elim (λ (e : i ≡ n). rw e (q.0 t)) (λ (l : i < n). p.0 tt i l) (eq-or-lt_of_le (le_of_suc-le-suc h)),
        λ w. q.1 (w n (le_refl (suc n))),
      )
      go false b p q = decides_no (λ w. p.1 (λ i h. w i (omega arith)))
