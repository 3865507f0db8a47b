-- Two ends that go round in step, in numbers: how far the cycles of the one lie from those of the other, and what a pair of phases then says.
use Rattle.std.specs.Prelude.{◌≡◌, ℕ, zero, suc, ◌+◌, ◌-◌, ◌*◌, ◌/◌, ◌≤◌, ◌<◌}
use Rattle.std.proofs.Common.{sym, ap, subst, le-div_iff_mul-le, div-mul-le_self, arith}
use Rattle.std.proofs.Math.Nat.{div-mul_cancel, div-eq_of_eq-mul_left, eq_of_mul-eq-mul_left, eq_of_mul-eq-mul_right, le_of_mul-le-mul_left}
use Rattle.std.proofs.Math.Decide.{dec_le}
use Rattle.numbers.specs.Common.{IsGcd}
use Rattle.numbers.specs.Euclid.{Ahead, bezout, gcd_pos, ahead_times, ahead_from}

-- The tokens of a cycle of the producer and of the consumer (a and b) are A and B times g, with nothing else in common;
-- the cycles last A and B times G ticks (u and v). So g tokens last G ticks at both ends.
pub record Matched (a b u v g G : ℕ) : Type 0 where
  pub A : ℕ
  pub B : ℕ
  pub tokens_p : a ≡ A * g
  pub tokens_c : b ≡ B * g
  pub ticks_p : u ≡ A * G
  pub ticks_c : v ≡ B * G
  pub some_g : 0 < g
  pub some_G : 0 < G
  pub some_B : 0 < B
  pub coprime : Ahead A B 1

-- a factor of a number above 0
pub factor_pos : (n m k : ℕ) → 0 < n → n ≡ m * k → 0 < m
factor_pos n zero k h e = absurd (omega (arith, h, e))
factor_pos n (suc m) k h e = omega arith

-- ends that are even in x and y cycles are matched
module _ (a b u v x y g : ℕ) (ha : 0 < a) (hb : 0 < b) (hu : 0 < u) (hx : 0 < x) (tokens : x * a ≡ y * b) (ticks : x * u ≡ y * v) (is : IsGcd a b g) where
  pub matched : Matched a b u v g (u / (a / g))
  matched =
      let A : ℕ = a / g in
      let B : ℕ = b / g in
      let ea : A * g ≡ a = div-mul_cancel g is.left in
      let eb : B * g ≡ b = div-mul_cancel g is.right in
      let hg : 0 < g = gcd_pos is hb in
      let hA : 0 < A = factor_pos a A g ha (sym ea) in
      let hB : 0 < B = factor_pos b B g hb (sym eb) in
      let (α, β, bez) = bezout ha is in
      let one : α * A ≡ β * B + 1 =
      eq_of_mul-eq-mul_right g hg _ _ (omega (arith, bez, ap (λ (z : ℕ). α * z) ea, ap (λ (z : ℕ). β * z) eb)) in
      let cross : x * A ≡ y * B =
      eq_of_mul-eq-mul_right g hg _ _ (omega (arith, tokens, ap (λ (z : ℕ). x * z) ea, ap (λ (z : ℕ). y * z) eb)) in
      let same : B * u ≡ A * v =
      eq_of_mul-eq-mul_left x hx _ _ (omega (arith, ap (λ (z : ℕ). B * z) ticks, ap (λ (z : ℕ). z * v) cross)) in
      let fits : β * v ≤ α * u =
      le_of_mul-le-mul_left {k = A} (omega (arith, ap (λ (z : ℕ). z * u) one, ap (λ (z : ℕ). β * z) same)) hA in
      let G : ℕ = α * u - β * v in
      let eG : G + β * v ≡ α * u = omega arith in
      let tp : u ≡ A * G = omega (arith, ap (λ (z : ℕ). A * z) eG, ap (λ (z : ℕ). z * u) one, ap (λ (z : ℕ). β * z) same) in
      let tc : v ≡ B * G = omega (arith, ap (λ (z : ℕ). B * z) eG, ap (λ (z : ℕ). z * v) one, ap (λ (z : ℕ). α * z) same) in
      let at : u / A ≡ G = div-eq_of_eq-mul_left hA (omega arith) in
      subst (λ (w : ℕ). Matched a b u v g w) (sym at)
      (record {
        A = A;
        B = B;
        tokens_p = sym ea;
        tokens_c = sym eb;
        ticks_p = tp;
        ticks_c = tc;
        some_g = hg;
        some_G = factor_pos u G A hu (omega arith);
        some_B = hB;
        coprime = (α, β, one);
      })

-- Counts of one kind (tokens, or ticks): cycles of a and b, which are A and B times g. y of the producer's cycle k stand against x of the consumer's
-- cycle c, and K cycles of the producer are added to x. How often g then fits into the difference is how far the producer may lie ahead.
module _ (a b g A B K x y : ℕ) (ea : a ≡ A * g) (eb : b ≡ B * g) (hg : 0 < g) where
  -- no distance at which y is still below x is greater
  pub covered : (k c : ℕ) → y + k * a ≤ x + c * b → (K + k) * A ≤ (x + K * a - y) / g + c * B
  covered k c h = go (dec_le (c * B) ((K + k) * A))
    where
      go : Dec (c * B ≤ (K + k) * A) → (K + k) * A ≤ (x + K * a - y) / g + c * B
      go (no i) = omega arith
      go (yes i) =
          let d : ℕ = (K + k) * A - c * B in
          let e : d + c * B ≡ (K + k) * A = omega arith in
          let w : d ≤ (x + K * a - y) / g =
          (le-div_iff_mul-le hg).1 (omega (arith, h, ap (λ (z : ℕ). z * g) e, ap (λ (z : ℕ). (K + k) * z) ea, ap (λ (z : ℕ). c * z) eb))
          in omega arith

  -- at that distance it is still below
  pub reached : (k c : ℕ) → y ≤ x + K * a → (K + k) * A ≡ c * B + (x + K * a - y) / g → y + k * a ≤ x + c * b
  reached k c h e =
      omega (arith, h, div-mul-le_self (x + K * a - y) g, ap (λ (z : ℕ). z * g) e, ap (λ (z : ℕ). (K + k) * z) ea, ap (λ (z : ℕ). c * z) eb)

-- two cycles lie at every distance, for ever
pub apart : {a b u v g G : ℕ} (m : Matched a b u v g G) (K L : ℕ) → (k : ℕ) × (c : ℕ) × ((K + k) * m.A ≡ c * m.B + L)
apart m K L =
    let (k, c, e) = ahead_from m.A m.B (L * 1) K m.some_B (ahead_times m.A m.B 1 L m.coprime) in
    (k, c, omega (arith, e))
