-- The rate rule: the tokens that an actor makes on a channel, or takes from it.
use Rattle.std.specs.Prelude.{◌≡◌, refl, Bool, true, false, cond, List, ℕ, zero, suc, ◌+◌, ◌*◌, ◌/◌, ◌%◌, ◌≤◌, ◌<◌, min, ltb, length, get_or, take, sum as list_sum}
use Rattle.std.proofs.Common.{sym, ap, subst, ◌∙◌, ltb-true, ltb-false, length-take-le, get_or-take, add-one, le_refl, le_of_lt, mod-lt, mod-eq_of_lt, div-add-mod', arith}
use Rattle.std.specs.Int.{◌∣◌}
use Rattle.std.proofs.Math.ListN.{get_or-eq_default}
use Rattle.std.proofs.Math.Seq.{take_all}
use Rattle.std.proofs.lemmas.List.Sums.{sum_by_more}
use Rattle.std.proofs.Math.Nat.{add-mod_right, dvd_antisymm, dvd-mul_left, div-mul_cancel, mul-div_cancel', eq_of_mul-eq-mul_right}
use Rattle.numbers.specs.Common.{IsGcd}
use Rattle.numbers.specs.Euclid.{gcd_pos, euclid}
use Rattle.numbers.specs.Sum.{sum, sum_next, sum_rounds}
use Rattle.units.specs.declared.Firing.{Firing}
use Rattle.units.specs.declared.Token.{Token}
use Rattle.units.specs.Firings.{firing}
use Rattle.units.specs.Tokens.{token, times_tokens}
use Rattle.rate.specs.declared.Meeting.{Meeting}

-- the rate of firing k, by a list that has one rate for each phase and is used cyclically
abbrev pub rate_of : List ℕ → ℕ → ℕ
rate_of rates k = get_or rates (k % length rates) 0

-- the tokens of the first n firings
abbrev pub tokens_of : List ℕ → Firing → Token
tokens_of rates n = token (sum (rate_of rates) n.0)

-- the firings of n cycles of an actor with so many phases
abbrev pub cycles_of : ℕ → ℕ → Firing
cycles_of phases n = firing (phases * n)

-- the least numbers at which a consumer takes what a producer makes: r's, and every other pair that does is a multiple of it
pub record Meets (makers : ℕ) (made taken : Token) (r : Meeting) : Type 0 where
  pub even : times_tokens (r.times * makers) made ≡ times_tokens r.takers taken
  pub each : (c y : ℕ) → times_tokens (c * makers) made ≡ times_tokens y taken → (k : ℕ) × (c ≡ k * r.times) × (y ≡ k * r.takers)

-- within the first cycle, the rates as they are listed
pub rate_in : (rates : List ℕ) (k : ℕ) → k < length rates → rate_of rates k ≡ get_or rates k 0
rate_in rates k h = rw (mod-eq_of_lt h)

-- the list used cyclically
pub rate_cycle : (rates : List ℕ) (k : ℕ) → rate_of rates (k + length rates) ≡ rate_of rates k
rate_cycle rates k = rw (add-mod_right k (length rates))

-- the first rates of a list, summed
pub tokens_first : (rates : List ℕ) (k : ℕ) → k ≤ length rates → sum (rate_of rates) k ≡ list_sum (take k rates)
unfolding sum
tokens_first rates zero h = refl
tokens_first rates (suc k) h = omega (arith, tokens_first rates k (omega arith), rate_in rates k h, rw add-one at (sum_by_more (λ x. x) rates k 0 h))

-- whole cycles, and the phases of the last one
pub tokens_cycles : (rates : List ℕ) (n : ℕ) → sum (rate_of rates) n ≡ n / length rates * sum (rate_of rates) (length rates) + sum (rate_of rates) (n % length rates)
tokens_cycles rates n =
    let e : n % length rates + n / length rates * length rates ≡ n = omega (arith, div-add-mod' n (length rates)) in
    omega (arith, rw e at (sum_rounds (rate_of rates) (length rates) (rate_cycle rates) (n % length rates) (n / length rates)))

-- one phase more of a cycle: it adds its rate where it is one of the actor's phases, and nothing behind them
pub cycle_next : (rates : List ℕ) (phases k : ℕ) → phases ≤ length rates
    → sum (rate_of (take phases rates)) (min (k + 1) phases) ≡ sum (rate_of (take phases rates)) (min k phases) + cond (ltb k phases) (get_or rates k 0) 0
cycle_next rates phases k h = go (ltb k phases) refl
  where
    cycle : List ℕ
    cycle = take phases rates

    go : (b : Bool) → ltb k phases ≡ b → sum (rate_of cycle) (min (k + 1) phases) ≡ sum (rate_of cycle) (min k phases) + cond b (get_or rates k 0) 0
    go true e =
        let l : k < phases = ltb-true k phases e in
        let here : min k phases ≡ k = omega arith in
        let next : min (k + 1) phases ≡ k + 1 = omega arith in
        rw (here, next) (omega (arith, sum_next (rate_of cycle) k, rate_in cycle k (rw (length-take-le phases rates h) l), get_or-take phases rates k 0 l))
    go false e =
        let l : phases ≤ k = ltb-false k phases e in
        let same : min (k + 1) phases ≡ min k phases = omega arith in
        rw same (omega arith)

-- the same, by the sums of lists
pub tokens_summed : (rates : List ℕ) (n : ℕ) → zero < length rates
    → sum (rate_of rates) n ≡ n / length rates * list_sum rates + list_sum (take (n % length rates) rates)
tokens_summed rates n some =
    let whole : sum (rate_of rates) (length rates) ≡ list_sum rates = tokens_first rates (length rates) (le_refl (length rates)) ∙ ap list_sum (take_all (length rates) rates (le_refl (length rates))) in
    omega (
      arith,
      tokens_cycles rates n,
      ap (λ (x : ℕ). n / length rates * x) whole,
      tokens_first rates (n % length rates) (le_of_lt (mod-lt n some)),
    )

-- no list, no tokens
pub tokens_none : (rates : List ℕ) (n : ℕ) → length rates ≡ 0 → sum (rate_of rates) n ≡ 0
unfolding sum
tokens_none rates zero e = refl
tokens_none rates (suc n) e = omega (arith, tokens_none rates n e, get_or-eq_default rates 0 {n = n % length rates} (omega arith))

pub meets_unique : (makers : ℕ) (made taken : Token) (x y : Meeting) → Meets makers made taken x → Meets makers made taken y → x ≡ y
meets_unique makers made taken x y p q =
    let (k, a, b) = p.each y.times y.takers q.even in
    let (l, c, d) = q.each x.times x.takers p.even in
    λ i. record {
      times = dvd_antisymm (dvd_of x.times k a) (dvd_of y.times l c) i;
      takers = dvd_antisymm (dvd_of x.takers k b) (dvd_of y.takers l d) i;
    }
  where
    dvd_of : (a k : ℕ) {b : ℕ} → b ≡ k * a → a ∣ b
    dvd_of a k e = subst (λ (n : ℕ). a ∣ n) (sym e) (dvd-mul_left a k)

-- the numbers divided by their greatest common divisor
pub meets_reduced : (makers g : ℕ) (made taken : Token) → 0 < taken.0 → IsGcd (times_tokens makers made).0 taken.0 g
    → Meets makers made taken (record { times = taken.0 / g; takers = (times_tokens makers made).0 / g })
meets_reduced makers g made taken pos p =
    record {
      even = λ i. record { 0 = even (makers * made.0) refl p.left i };
      each = λ c y e.
          let h : c * (makers * made.0) ≡ y * taken.0 = omega (arith, ap (λ (t : Token). t.0) e) in
          let d : taken.0 / g ∣ c = euclid c (gcd_pos p pos) p (subst (λ (n : ℕ). taken.0 ∣ n) (sym h) (dvd-mul_left taken.0 y)) in
          let k : ℕ = c / (taken.0 / g) in
          let ek : c ≡ k * (taken.0 / g) = sym (div-mul_cancel (taken.0 / g) d) in
          (k, ek, cancel (makers * made.0) k c y p.left h ek);
    }
  where
    even : (a : ℕ) → a ≡ makers * made.0 → g ∣ a → taken.0 / g * makers * made.0 ≡ a / g * taken.0
    even a e d =
        omega (
          arith,
          ap (λ (n : ℕ). taken.0 / g * n) (mul-div_cancel' g d ∙ e),
          ap (λ (n : ℕ). a / g * n) (mul-div_cancel' g p.right),
        )

    cancel : (a k c y : ℕ) → g ∣ a → c * a ≡ y * taken.0 → c ≡ k * (taken.0 / g) → y ≡ k * (a / g)
    cancel a k c y d h e =
        eq_of_mul-eq-mul_right taken.0 pos y (k * (a / g))
        (omega (
          arith,
          h,
          ap (λ (n : ℕ). n * a) e,
          ap (λ (n : ℕ). k * (taken.0 / g) * n) (mul-div_cancel' g d),
          ap (λ (n : ℕ). k * (a / g) * n) (mul-div_cancel' g p.right),
        ))
