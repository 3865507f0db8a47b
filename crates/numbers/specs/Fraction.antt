-- Exact fractions: `over` parts of a whole that is cut in `under` parts.
use Rattle.std.specs.Prelude.{◌≡◌, refl, ◌↔◌, ℕ, zero, suc, ◌+◌, ◌*◌, ◌/◌, ◌%◌, ◌≤◌, ◌<◌, ltb, leb, Bool}
use Rattle.std.proofs.Common.{ap, ap₂, mul-pos, mul-le-mul_left, mul-le-mul_right, mul-lt-mul_of_pos_right, le_refl, le_of_lt, lt_of_not-le, div-mul-le_self, div-add-mod', pos_of_ne-zero, arith, ltb→lt, lt→ltb}
use Rattle.std.proofs.Math.Nat.{le_of_mul-le-mul_left, lt-div-mul-add}
use Rattle.numbers.specs.Decides.{Decides, decides_leb}
use Rattle.numbers.specs.Sum.{sum}
use Rattle.numbers.specs.declared.fraction.Fraction.{Fraction}

-- a fraction of a whole that is cut at all
abbrev pub Proper : Fraction → Type 0
Proper a = 0 < a.under

-- a is at most b: each brought to the other's cut
abbrev pub AtMost : Fraction → Fraction → Type 0
AtMost a b = a.over * b.under ≤ b.over * a.under

-- whether it is, as a test
abbrev pub at_mostb : Fraction → Fraction → Bool
at_mostb a b = leb (a.over * b.under) (b.over * a.under)

-- a and b are the same part
abbrev pub Same : Fraction → Fraction → Type 0
Same a b = a.over * b.under ≡ b.over * a.under

-- no part at all
abbrev pub nothing : Fraction
nothing = record { over = 0; under = 1 }

-- the sum of two, and of the first n values of a function
abbrev pub plus : Fraction → Fraction → Fraction
plus a b = record { over = a.over * b.under + b.over * a.under; under = a.under * b.under }

unfoldable pub sum_of : (ℕ → Fraction) → ℕ → Fraction
sum_of f zero = nothing
sum_of f (suc n) = plus (sum_of f n) (f n)

pub at_most_decides : (a b : Fraction) → Decides (AtMost a b) (at_mostb a b)
at_most_decides a b = decides_leb (a.over * b.under) (b.over * a.under)

pub sum_proper : (f : ℕ → Fraction) (n : ℕ) → ((i : ℕ) → i < n → Proper (f i)) → Proper (sum_of f n)
unfolding sum_of
sum_proper f zero h = omega arith
sum_proper f (suc n) h = mul-pos (sum_proper f n (λ i l. h i (omega arith))) (h n (le_refl (suc n)))

pub sum_alike : (f g : ℕ → Fraction) (n : ℕ) → ((i : ℕ) → i < n → f i ≡ g i) → sum_of f n ≡ sum_of g n
unfolding sum_of
sum_alike f g zero h = refl
sum_alike f g (suc n) h = ap₂ plus (sum_alike f g n (λ i l. h i (omega arith))) (h n (le_refl (suc n)))

-- fractions of one whole of h parts are summed by their parts
pub sum_common : (f : ℕ → Fraction) (s : ℕ → ℕ) (h n : ℕ) → ((i : ℕ) → i < n → Same (f i) (record { over = s i; under = h })) → Same (sum_of f n) (record { over = sum s n; under = h })
unfolding sum_of sum
sum_common f s h zero e = omega arith
sum_common f s h (suc n) e =
    let a = sum_of f n in
    let b = f n in
    omega (
      arith,
      ap (λ (x : ℕ). x * b.under) (sum_common f s h n (λ i l. e i (omega arith))),
      ap (λ (x : ℕ). x * a.under) (e n (le_refl (suc n))),
    )

pub same_plus : (a b c d : Fraction) → Same a c → Same b d → Same (plus a b) (plus c d)
same_plus a b c d p q = omega (arith, ap (λ (x : ℕ). x * (b.under * d.under)) p, ap (λ (x : ℕ). x * (a.under * c.under)) q)

-- what is the same part is at most the same
pub same_at_most : (a b l : Fraction) → Proper a → Proper b → Same a b → AtMost a l ↔ AtMost b l
same_at_most a b l pa pb e = (
  (λ h. le_of_mul-le-mul_left {k = a.under} (omega (arith, mul-le-mul_left b.under h, ap (λ (x : ℕ). x * l.under) e)) pa),
  (λ h. le_of_mul-le-mul_left {k = b.under} (omega (arith, mul-le-mul_left a.under h, ap (λ (x : ℕ). x * l.under) e)) pb),
)

-- Two fractions by their whole parts and what remains of them.
module _ (x y : Fraction) (px : Proper x) (py : Proper y) where
  -- a smaller whole part: the smaller fraction
  part_less : x.over / x.under < y.over / y.under → AtMost x y
  part_less h =
      omega (
        arith,
        mul-le-mul_right y.under (le_of_lt (lt-div-mul-add {a = x.over} px)),
        mul-le-mul_right (x.under * y.under) h,
        mul-le-mul_right x.under (div-mul-le_self y.over y.under),
      )

  part_more : y.over / y.under < x.over / x.under → AtMost x y → ⊥
  part_more h le =
      omega (
        arith,
        mul-lt-mul_of_pos_right (lt-div-mul-add {a = y.over} py) px,
        mul-le-mul_right (x.under * y.under) h,
        mul-le-mul_right y.under (div-mul-le_self x.over x.under),
      )

  pub parts_differ : (x.over / x.under ≡ y.over / y.under → ⊥) → Decides (AtMost x y) (ltb (x.over / x.under) (y.over / y.under))
  parts_differ n = (
    (λ t. part_less (ltb→lt _ _ t)),
    (λ le. lt→ltb _ _ (lt_of_not-le (λ (g : y.over / y.under ≤ x.over / x.under). part_more (omega arith) le))),
  )

  module _ (e : x.over / x.under ≡ y.over / y.under) where
    -- equal whole parts: the remainders decide, turned over
    pub parts_same : AtMost (record { over = y.under; under = y.over % y.under }) (record { over = x.under; under = x.over % x.under }) ↔ AtMost x y
    parts_same =
        let ex : x.over / x.under * x.under + x.over % x.under ≡ x.over = div-add-mod' x.over x.under in
        let ey : x.over / x.under * y.under + y.over % y.under ≡ y.over = rw e (div-add-mod' y.over y.under) in (
          (λ h. omega (arith, h, ap (λ (z : ℕ). z * y.under) ex, ap (λ (z : ℕ). z * x.under) ey)),
          (λ h. omega (arith, h, ap (λ (z : ℕ). z * y.under) ex, ap (λ (z : ℕ). z * x.under) ey)),
        )

    pub nothing_left : x.over % x.under ≡ 0 → AtMost x y
    nothing_left z = parts_same.0 (rw z (omega arith))

    pub nothing_there : (x.over % x.under ≡ 0 → ⊥) → y.over % y.under ≡ 0 → AtMost x y → ⊥
    nothing_there n z h =
        let pos : 0 < y.under * (x.over % x.under) = mul-pos py (pos_of_ne-zero n) in
        omega (arith, pos, parts_same.1 h, ap (λ (w : ℕ). x.under * w) z)
