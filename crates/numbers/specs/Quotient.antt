-- The quotient rounded up, and its laws.
use Rattle.std.specs.Prelude.{◌≡◌, refl, ℕ, zero, ◌+◌, ◌*◌, ◌/◌, ◌%◌, ◌≤◌, ◌<◌, ◌-◌, Bool, true, false, cond, leb, eqb}
use Rattle.std.proofs.Common.{subst, ap, div-add-mod', le-mul_of_pos_right, mul-le-mul_left, mul-le-mul_right, mul_comm, add-mul, one-mul, lt_of_not-le, mod-lt, arith, leb-true, leb-false, eqb-true}
use Rattle.std.proofs.Math.Nat.{div-le_of_le-mul, lt-div-mul-add, le_of_mul-le-mul_left, div-eq_of_lt-le}
use Rattle.numbers.specs.Extreme.{Least}
use Rattle.std.proofs.Math.Decide.{dec_lt}
use Rattle.std.proofs.lemmas.Bool.{eqb-false}

-- n is a / b rounded up: the least number whose b-fold is at least a
abbrev pub RoundedUp : ℕ → ℕ → ℕ → Type 0
RoundedUp a b = Least (λ n. a ≤ n * b)

-- a / b rounded up: the quotient, and one more where something remains
abbrev pub rounded_of : ℕ → ℕ → ℕ
rounded_of a b = cond (eqb (a % b) 0) (a / b) (a / b + 1)

-- the quotient, where b divides a
pub rounded_exact : (a b : ℕ) → zero < b → a % b ≡ 0 → RoundedUp a b (a / b)
rounded_exact a b pos e =
    record { holds = omega (arith, div-add-mod' a b); least = λ m h. div-le_of_le-mul b (subst (λ (x : ℕ). a ≤ x) (mul_comm m b) h) }

-- and one more, where it does not
pub rounded_more : (a b : ℕ) → zero < b → (a % b ≡ 0 → ⊥) → RoundedUp a b (a / b + 1)
rounded_more a b pos f =
    record {
      holds = omega (arith, lt-div-mul-add {a = a} pos, add-mul (a / b) 1 b, one-mul b);
      least = λ m h. omega (arith, lt_of_not-le (λ (g : m ≤ a / b). f (omega (arith, mul-le-mul_right b g, div-add-mod' a b))));
    }

pub rounded_fits : (a b : ℕ) → zero < b → (a % b ≡ 0 → ⊥) → a / b + 1 ≤ a
rounded_fits a b pos f = omega (arith, f, le-mul_of_pos_right (a / b) pos, div-add-mod' a b)

-- it is
pub rounded_of_law : (a b : ℕ) → zero < b → RoundedUp a b (rounded_of a b)
rounded_of_law a b pos = go (eqb (a % b) 0) refl
  where
    go : (x : Bool) → eqb (a % b) 0 ≡ x → RoundedUp a b (cond x (a / b) (a / b + 1))
    go true e = rounded_exact a b pos (eqb-true _ _ e)
    go false e = rounded_more a b pos (eqb-false _ _ e)

-- a common factor goes out
pub rounded_times : (c a b : ℕ) {n : ℕ} → zero < c → RoundedUp a b n → RoundedUp (c * a) (c * b) n
rounded_times c a b pos p =
    record {
      holds = omega (arith, mul-le-mul_left c p.holds);
      least = λ m h. p.least m (le_of_mul-le-mul_left {k = c} (omega (arith, h)) pos);
    }

-- the quotient of a number by that of a part of it and that of the rest: one more where the remainder is below the part's
pub div_difference : (x y g : ℕ) → zero < g → y ≤ x → x / g ≡ (x - y) / g + y / g + cond (leb (y % g) (x % g)) 0 1
div_difference x y g pos h = go (dec_lt ((x - y) % g + y % g) g) (leb (y % g) (x % g)) refl
  where
    low : (x - y) % g + y % g < g → x / g ≡ (x - y) / g + y / g
    low l = div-eq_of_lt-le g (omega (arith, div-add-mod' (x - y) g, div-add-mod' y g)) (omega (arith, l, div-add-mod' (x - y) g, div-add-mod' y g))

    high : g ≤ (x - y) % g + y % g → x / g ≡ (x - y) / g + y / g + 1
    high l =
        div-eq_of_lt-le g (omega (arith, l, div-add-mod' (x - y) g, div-add-mod' y g))
        (omega (arith, mod-lt (x - y) pos, mod-lt y pos, div-add-mod' (x - y) g, div-add-mod' y g))

    go : Dec ((x - y) % g + y % g < g) → (b : Bool) → leb (y % g) (x % g) ≡ b → x / g ≡ (x - y) / g + y / g + cond b 0 1
    go (yes l) true e = omega (arith, low l)
    go (yes l) false e =
        absurd (omega (arith, leb-false (y % g) (x % g) e, ap (λ (z : ℕ). z * g) (low l), div-add-mod' x g, div-add-mod' (x - y) g, div-add-mod' y g))
    go (no l) true e =
        absurd (omega (arith, leb-true (y % g) (x % g) e, mod-lt (x - y) pos, ap (λ (z : ℕ). z * g) (high (omega arith)), div-add-mod' x g, div-add-mod' (x - y) g, div-add-mod' y g))
    go (no l) false e = high (omega arith)
