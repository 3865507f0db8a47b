-- Laws of the greatest common divisor: there is one and only one; a common factor goes through; Euclid's lemma; Bézout's numbers.
use Rattle.std.specs.Prelude.{◌≡◌, refl, ℕ, zero, suc, ◌+◌, ◌-◌, ◌*◌, ◌/◌, ◌%◌, ◌<◌}
use Rattle.std.proofs.Common.{sym, ap, subst, subst₂, div-add-mod', mul_comm, zero-mul, mod-lt, le_of_suc-le-suc, not-suc-le-zero, lt_of_lt_of_le, lt_of_le_of_lt, le_of_eq, zero-lt-suc, lt-suc_self, le-mul_of_pos_right, arith}
use Rattle.std.specs.Int.{◌∣◌}
use Rattle.std.proofs.Math.Nat.{dvd_refl, dvd-zero, dvd_antisymm, dvd-mod_iff, dvd-mul_left, dvd-mul_right, mul-dvd-mul_left, dvd_of_mul-dvd-mul_left, mul-div_cancel', pos_of_dvd_of_pos, le_of_dvd}
use Rattle.numbers.specs.Common.{IsGcd}

-- u times a is v times b, and g more
abbrev pub Ahead : ℕ → ℕ → ℕ → Type 0
Ahead a b g = (u : ℕ) × (v : ℕ) × (u * a ≡ v * b + g)

pub gcd_unique : {a b g h : ℕ} → IsGcd a b g → IsGcd a b h → g ≡ h
gcd_unique {g = g} {h = h} p q = dvd_antisymm (q.greatest g p.left p.right) (p.greatest h q.left q.right)

pub gcd_zero : (a : ℕ) {b : ℕ} → b ≡ 0 → IsGcd a b a
gcd_zero a e = rw e (record { left = dvd_refl a; right = dvd-zero a; greatest = λ d l r. l })

-- a step of Euclid's
pub gcd_step : {a b g : ℕ} → IsGcd b (a % b) g → IsGcd a b g
gcd_step {a} {b} {g} p =
    record {
      left = (dvd-mod_iff g {m = a} {n = b} p.left).0 p.right;
      right = p.left;
      greatest = λ d l r. p.greatest d r ((dvd-mod_iff d {m = a} {n = b} r).1 l);
    }

pub gcd_comm : {a b g : ℕ} → IsGcd a b g → IsGcd b a g
gcd_comm p = record { left = p.right; right = p.left; greatest = λ d l r. p.greatest d r l }

pub gcd_pos : {a b g : ℕ} → IsGcd a b g → zero < b → zero < g
gcd_pos p pos = pos_of_dvd_of_pos p.right pos

-- it is below any bound that both are below
pub gcd_lt : {a b g : ℕ} (m : ℕ) → IsGcd a b g → a < m → b < m → g < m
gcd_lt {a} {b} {g} m p ha hb = go a b p ha hb
  where
    go : (a b : ℕ) → IsGcd a b g → a < m → b < m → g < m
    go zero zero p ha hb = lt_of_le_of_lt (le_of_eq (dvd_antisymm (dvd-zero g) (p.greatest 0 (dvd_refl 0) (dvd_refl 0)))) ha
    go zero (suc b) p ha hb = lt_of_le_of_lt (le_of_dvd (zero-lt-suc b) p.right) hb
    go (suc a) b p ha hb = lt_of_le_of_lt (le_of_dvd (zero-lt-suc a) p.left) ha

-- the greatest common divisor, and Bézout's numbers for it where a is not 0
abbrev Found : ℕ → ℕ → Type 0
Found a b = (g : ℕ) × IsGcd a b g × (zero < a → Ahead a b g)

ahead_swap : (a b g : ℕ) → zero < a → zero < b → Ahead b a g → Ahead a b g
ahead_swap a b g ha hb (u, v, e) =
    let j : ℕ = u + v in
    let x : ℕ = j * b - v in
    let y : ℕ = j * a - u in
    let ex : x + v ≡ j * b = omega (arith, le-mul_of_pos_right j hb) in
    let ey : y + u ≡ j * a = omega (arith, le-mul_of_pos_right j ha) in
    (x, y, omega (arith, e, ap (λ (z : ℕ). z * a) ex, ap (λ (z : ℕ). z * b) ey))

ahead_step : (a b g : ℕ) → Ahead b (a % b) g → Ahead b a g
ahead_step a b g (u, v, e) = (u + v * (a / b), v, omega (arith, e, ap (λ (z : ℕ). v * z) (div-add-mod' a b)))

found : (n a b : ℕ) → b < n → Found a b
found zero a b h = absurd (not-suc-le-zero h)
found (suc n) a zero h = (a, gcd_zero a refl, λ pos. (1, 0, omega arith))
found (suc n) a (suc b) h =
    let (g, is, ahead) = found n (suc b) (a % suc b) (lt_of_lt_of_le (mod-lt a (zero-lt-suc b)) (le_of_suc-le-suc h)) in
    (g, gcd_step is, λ pos. ahead_swap a (suc b) g pos (zero-lt-suc b) (ahead_step a (suc b) g (ahead (zero-lt-suc b))))

pub gcd_exists : (a b : ℕ) → (g : ℕ) × IsGcd a b g
gcd_exists a b = let (g, is, ahead) = found (suc b) a b (lt-suc_self b) in (g, is)

-- Bézout: some multiple of a is some multiple of b, and the greatest common divisor more
pub bezout : {a b g : ℕ} → zero < a → IsGcd a b g → Ahead a b g
bezout {a} {b} {g} pos p =
    let (h, is, ahead) = found (suc b) a b (lt-suc_self b) in
    subst (λ (x : ℕ). Ahead a b x) (gcd_unique is p) (ahead pos)

-- r times as far ahead, and ahead from K times a on
pub ahead_times : (a b g r : ℕ) → Ahead a b g → Ahead a b (r * g)
ahead_times a b g r (u, v, e) = (r * u, r * v, omega (arith, ap (λ (z : ℕ). r * z) e))

pub ahead_from : (a b g K : ℕ) → zero < b → Ahead a b g → (k : ℕ) × (v : ℕ) × ((K + k) * a ≡ v * b + g)
ahead_from a b g K pos (u, v, e) =
    let k : ℕ = u + K * b - K in
    let ek : K + k ≡ u + K * b = omega (arith, le-mul_of_pos_right K pos) in
    (k, v + K * a, omega (arith, e, ap (λ (z : ℕ). z * a) ek))

-- a common factor goes through
pub gcd_scale : (k : ℕ) {a b g : ℕ} → zero < k → IsGcd a b g → IsGcd (k * a) (k * b) (k * g)
gcd_scale k {a} {b} {g} pos p =
    let (h, q) = gcd_exists (k * a) (k * b) in
    let m : ℕ = h / k in
    let e : k * m ≡ h = mul-div_cancel' k (q.greatest k (dvd-mul_right k a) (dvd-mul_right k b)) in
    let left : m ∣ a = dvd_of_mul-dvd-mul_left m pos (subst (λ (x : ℕ). x ∣ k * a) (sym e) q.left) in
    let right : m ∣ b = dvd_of_mul-dvd-mul_left m pos (subst (λ (x : ℕ). x ∣ k * b) (sym e) q.right) in
    let up : h ∣ k * g = subst (λ (x : ℕ). x ∣ k * g) e (mul-dvd-mul_left m k (p.greatest m left right)) in
    let down : k * g ∣ h = q.greatest (k * g) (mul-dvd-mul_left g k p.left) (mul-dvd-mul_left g k p.right) in
    subst (λ (x : ℕ). IsGcd (k * a) (k * b) x) (dvd_antisymm up down) q

-- what divides k * a and k * b divides k times their greatest common divisor
pub dvd_scale : (k d : ℕ) {a b g : ℕ} → IsGcd a b g → d ∣ k * a → d ∣ k * b → d ∣ k * g
dvd_scale zero d {g = g} p l r = subst (λ (x : ℕ). d ∣ x) (sym (zero-mul g)) (dvd-zero d)
dvd_scale (suc k) d p l r = (gcd_scale (suc k) (zero-lt-suc k) p).greatest d l r

-- Euclid's lemma: where b divides k times a, what is left of b beside their greatest common divisor divides k
pub euclid : (k : ℕ) {a b g : ℕ} → zero < g → IsGcd a b g → b ∣ k * a → b / g ∣ k
euclid k {a} {b} {g} pos p h =
    dvd_of_mul-dvd-mul_left (b / g) pos
    (subst₂ (λ (x y : ℕ). x ∣ y) (sym (mul-div_cancel' g p.right)) (mul_comm k g) (dvd_scale k b p h (dvd-mul_left b k)))
