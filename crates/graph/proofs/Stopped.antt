-- Steps that have come to nothing find nothing from then on.
use mathlib.Core.Path.{◌≡◌, refl, subst}
use mathlib.Core.Bool.{Bool, true, false, cond}
use mathlib.Core.Logic.{⊎_elim}
use Prim.Native.Nat.{ℕ, zero, suc, ◌≤◌, ◌<◌}
use native.Mathlib.Nat.{not-suc-le-zero, le_of_suc-le-suc, eq-or-lt_of_le}
use Rattle.std.specs.Prelude.{Option, None}

module _ {A : Type 0} where
  pub cond_none : (b : Bool) → ◌≡◌ {A = Option A} (cond b None None) None
  cond_none true = refl
  cond_none false = refl

  module _ (f : ℕ → Option A) (step : (n : ℕ) → f n ≡ None → f (suc n) ≡ None) where
    pub none_stays : (n k : ℕ) → n ≤ k → f n ≡ None → f k ≡ None
    none_stays zero zero h e = e
    none_stays (suc n) zero h e = absurd (not-suc-le-zero h)
    none_stays n (suc k) h e =
        ⊎_elim (λ (q : n ≡ suc k). subst (λ (j : ℕ). f j ≡ None) q e) (λ (l : n < suc k). step k (none_stays n k (le_of_suc-le-suc l) e)) (eq-or-lt_of_le h)
