-- Laws of the least common multiple.
use Rattle.std.specs.Prelude.{◌≡◌, refl, ℕ, zero, suc, ◌*◌, ◌/◌, ◌<◌, Option, Some, None}
use Rattle.std.proofs.Common.{sym, subst, ap, ◌∙◌, ⊎_elim, mul_assoc, not-le_of_lt, mul-pos, le_refl, le_of_suc-le-suc, not-suc-le-zero, lt-suc_self, eq-or-lt_of_le}
use Rattle.std.specs.Int.{◌∣◌}
use Rattle.std.proofs.Math.Nat.{dvd_antisymm, dvd-zero, dvd_refl, dvd-mul_left, dvd-mul_right, mul-dvd-mul_right, mul-div_cancel', div-mul_cancel, dvd_trans, one-dvd, pos_of_dvd_of_pos, le_step}
use Rattle.numbers.specs.Common.{IsGcd, IsLcm, IsLcmWithin}
use Rattle.numbers.specs.Euclid.{gcd_comm, gcd_exists, gcd_pos, euclid}

-- l is the least common multiple of the numbers q i, for each i below n that has the property P
pub record LcmOfAll (P : ℕ → Type 0) (q : ℕ → ℕ) (n l : ℕ) : Type 0 where
  pub each : (i : ℕ) → (i < n) × P i → q i ∣ l
  pub least : (m : ℕ) → ((i : ℕ) → (i < n) × P i → q i ∣ m) → l ∣ m

pub lcm_unique : {a b l m : ℕ} → IsLcm a b l → IsLcm a b m → l ≡ m
lcm_unique {l = l} {m = m} p q = dvd_antisymm (p.least m q.left q.right) (q.least l p.left p.right)

pub lcm_within_unique : (a b limit : ℕ) (r s : Option ℕ) → IsLcmWithin a b limit r → IsLcmWithin a b limit s → r ≡ s
lcm_within_unique a b limit (Some l) (Some m) p q = ap Some (lcm_unique p.0 q.0)
lcm_within_unique a b limit (Some l) None p q = absurd (not-le_of_lt (q l p.0) p.1)
lcm_within_unique a b limit None (Some m) p q = absurd (not-le_of_lt (p m q.0) q.1)
lcm_within_unique a b limit None None p q = refl

pub lcm_zero : (a : ℕ) {b : ℕ} → b ≡ 0 → IsLcm a b 0
lcm_zero a e = rw e (record { left = dvd-zero a; right = dvd_refl 0; least = λ m l r. r })

-- a divided by the greatest common divisor, times b
pub lcm_of_gcd : {a b g : ℕ} → zero < g → IsGcd a b g → IsLcm a b (a / g * b)
lcm_of_gcd {a} {b} {g} pos p =
    let whole : a * (b / g) ≡ a / g * b =
    ap (λ (x : ℕ). x * (b / g)) (sym (div-mul_cancel g p.left)) ∙ mul_assoc (a / g) g (b / g) ∙ ap (λ (x : ℕ). a / g * x) (mul-div_cancel' g p.right) in
    record {
      left = subst (λ (x : ℕ). a ∣ x) whole (dvd-mul_right a (b / g));
      right = dvd-mul_left b (a / g);
      least = λ m l r.
          let e : m / b * b ≡ m = div-mul_cancel b r in
          subst (λ (x : ℕ). a / g * b ∣ x) e (mul-dvd-mul_right (a / g) (euclid (m / b) pos (gcd_comm p) (subst (λ (x : ℕ). a ∣ x) (sym e) l)) b);
    }

-- of numbers above 0 it is above 0
pub lcm_pos : {a b l : ℕ} → zero < a → zero < b → IsLcm a b l → zero < l
lcm_pos {a} {b} pa pb p = pos_of_dvd_of_pos (p.least (a * b) (dvd-mul_right a b) (dvd-mul_left b a)) (mul-pos pa pb)

module _ (P : ℕ → Type 0) (q : ℕ → ℕ) where
  pub lcm_none : LcmOfAll P q 0 1
  lcm_none = record { each = λ i a. absurd (not-suc-le-zero a.0); least = λ m h. one-dvd m }

  -- with n, which has the property, or has it not
  pub lcm_more : (n : ℕ) {l k : ℕ} → P n → IsLcm l (q n) k → LcmOfAll P q n l → LcmOfAll P q (suc n) k
  lcm_more n h c p =
      record {
        each = λ i a.
            ⊎_elim (λ (e : i ≡ n). rw e c.right) (λ (g : i < n). dvd_trans (q i) (p.each i (g, a.1)) c.left) (eq-or-lt_of_le (le_of_suc-le-suc a.0));
        least = λ m f. c.least m (p.least m (λ i a. f i (le_step a.0, a.1))) (f n (le_refl (suc n), h));
      }

  pub lcm_past : (n : ℕ) {l : ℕ} → (P n → ⊥) → LcmOfAll P q n l → LcmOfAll P q (suc n) l
  lcm_past n h p =
      record {
        each = λ i a.
            ⊎_elim (λ (e : i ≡ n). absurd (h (rw e at a.1))) (λ (g : i < n). p.each i (g, a.1)) (eq-or-lt_of_le (le_of_suc-le-suc a.0));
        least = λ m f. p.least m (λ i a. f i (le_step a.0, a.1));
      }

  -- numbers above 0 have one, above 0
  pub lcm_exists : (decide : (i : ℕ) → Dec (P i)) (n : ℕ) → ((i : ℕ) → (i < n) × P i → zero < q i) → (l : ℕ) × LcmOfAll P q n l × (zero < l)
  lcm_exists decide zero pos = (1, lcm_none, lt-suc_self 0)
  lcm_exists decide (suc n) pos = go (decide n) (lcm_exists decide n (λ i a. pos i (le_step a.0, a.1)))
    where
      go : Dec (P n) → (l : ℕ) × LcmOfAll P q n l × (zero < l) → (l : ℕ) × LcmOfAll P q (suc n) l × (zero < l)
      go (no h) (l, p, a) = (l, lcm_past n h p, a)
      go (yes h) (l, p, a) =
          let b : zero < q n = pos n (le_refl (suc n), h) in
          let (g, is) = gcd_exists l (q n) in
          let c : IsLcm l (q n) (l / g * q n) = lcm_of_gcd (gcd_pos is b) is in
          (l / g * q n, lcm_more n h c p, lcm_pos a b c)
