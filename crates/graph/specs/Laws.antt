-- Laws of the iteration of balancing counts.
use Rattle.std.specs.Prelude.{◌≡◌, refl, ℕ, ◌*◌, ◌/◌, ◌≤◌, ◌<◌}
use Rattle.std.proofs.Common.{sym, ap, subst, subst₂, ◌∙◌, le-div_iff_mul-le, mul-pos, mul-le-mul_left, le-mul_of_pos_right, le_refl, le_trans, mul_comm, one-mul, arith}
use Rattle.std.specs.Int.{◌∣◌}
use Rattle.std.proofs.Math.Nat.{dvd-mul_right, dvd_trans, dvd_antisymm, dvd_of_mul-dvd-mul_left, mul-dvd-mul_left, mul-div_cancel', div-mul_cancel, le_of_dvd}
use Rattle.numbers.specs.Extreme.{greatest_unique}
use Rattle.numbers.specs.Quotient.{RoundedUp, rounded_times}
use Rattle.units.specs.declared.Tick.{Tick}
use Rattle.units.specs.Ticks.{tick}
use Rattle.units.specs.Firings.{firing}
use Rattle.period.specs.Period.{period_of, iteration_unique}
use Rattle.tables.specs.Shape.{Mode, actor_at, Active}
use Rattle.tables.specs.Proper.{ProperMode}
use Rattle.graph.specs.Balance.{Balances, Iteration, firings_of, work_in}

module _ (m : Mode) (x : ℕ → ℕ) where
  -- counts have one iteration length
  pub iteration_one : {h g : Tick} → Iteration m x h → Iteration m x g → h ≡ g
  iteration_one {h} {g} (l, w, common, most, is) (k, v, shared, top, also) =
      let e : l.0 ≡ k.0 = dvd_antisymm (common.least k.0 shared.each) (shared.least l.0 common.each) in
      iteration_unique l w is
      (subst₂ (λ (a b : ℕ). (r : ℕ) × RoundedUp b a r × (g.0 ≡ a * r)) (sym e) (sym (greatest_unique _ most top)) also)

  -- counts that are n times as many have an iteration n times as long
  pub iteration_scaled : (y : ℕ → ℕ) (n : ℕ) {h : Tick} → 1 ≤ n → ((i : ℕ) → Active m i → y i ≡ n * x i) → Iteration m x h → Iteration m y (tick (n * h.0))
  iteration_scaled y n {h} pos scaled (l, w, common, most, (r, rounded, e)) = (
    firing (n * l.0),
    tick (n * w.0),
    record {
      each = λ i a. subst (λ (k : ℕ). k ∣ n * l.0) (sym (firings i a)) (mul-dvd-mul_left (firings_of m x i).0 n (common.each i a));
      least = λ k f.
          let whole : n * (k / n) ≡ k
          = mul-div_cancel' n (dvd_trans n (dvd-mul_right n (firings_of m x i₀).0) (subst (λ (z : ℕ). z ∣ k) (firings i₀ a₀) (f i₀ a₀))) in
          subst (λ (z : ℕ). n * l.0 ∣ z) whole
          (mul-dvd-mul_left l.0 n
          (common.least (k / n) (λ i a. dvd_of_mul-dvd-mul_left (firings_of m x i).0 pos (subst₂ (λ (u v : ℕ). u ∣ v) (firings i a) (sym whole) (f i a)))));
    },
    record {
      holds = (i₀, a₀, work i₀ a₀ ∙ ap (λ (k : ℕ). n * k) most.holds.2);
      greatest = λ v (i, a, q). omega (arith, work i a, mul-le-mul_left n (most.greatest (work_in m x i).0 (i, a, refl)));
    },
    (r, rounded_times n w.0 l.0 pos rounded, omega (arith, ap (λ (k : ℕ). n * k) e)),
  )
    where
      i₀ : ℕ
      i₀ = most.holds.0

      a₀ : Active m i₀
      a₀ = most.holds.1

      firings : (i : ℕ) → Active m i → (firings_of m y i).0 ≡ n * (firings_of m x i).0
      firings i a = omega (arith, ap (λ (k : ℕ). (actor_at m i).phases * k) (scaled i a))

      work : (i : ℕ) → Active m i → (work_in m y i).0 ≡ n * (work_in m x i).0
      work i a = omega (arith, ap (λ (k : ℕ). k * (actor_at m i).wcet.0) (firings i a))

  -- only the counts of actors matter
  pub iteration_same : (y : ℕ → ℕ) {h : Tick} → ((i : ℕ) → Active m i → x i ≡ y i) → Iteration m x h → Iteration m y h
  iteration_same y {h} same iteration =
      subst (λ (n : ℕ). Iteration m y (tick n)) (one-mul h.0)
      (iteration_scaled y 1 (le_refl 1) (λ i a. sym (same i a) ∙ sym (one-mul (x i))) iteration)

  module _ {h : Tick} (iteration : Iteration m x h) where
    divides : (i : ℕ) → Active m i → (firings_of m x i).0 ∣ h.0
    divides i a =
        let (l, w, common, most, (r, rounded, e)) = iteration in
        subst (λ (n : ℕ). (firings_of m x i).0 ∣ n) (sym e) (dvd_trans (firings_of m x i).0 (common.each i a) (dvd-mul_right l.0 r))

    within : (i : ℕ) → Active m i → (work_in m x i).0 ≤ h.0
    within i a =
        let (l, w, common, most, (r, rounded, e)) = iteration in
        omega (arith, e, rounded.holds, most.greatest (work_in m x i).0 (i, a, refl))

    -- T is whole: q times T is H
    pub period_whole : (i : ℕ) → Active m i → (period_of h (firings_of m x i)).0 * (firings_of m x i).0 ≡ h.0
    period_whole i a = div-mul_cancel (firings_of m x i).0 (divides i a)

module _ (m : Mode) (proper : ProperMode m) (x : ℕ → ℕ) (some : (i : ℕ) → Active m i → 1 ≤ x i) where
  fires : (i : ℕ) → Active m i → 0 < (firings_of m x i).0
  fires i a = mul-pos (proper.actor i a.0 a.1).some_phase (some i a)

  works : (i : ℕ) → Active m i → 0 < (work_in m x i).0
  works i a = omega (arith, mul-pos (fires i a) (proper.actor i a.0 a.1).some_tick)

  module _ {h : Tick} (iteration : Iteration m x h) where
    -- an iteration takes time
    pub iteration_pos : 0 < h.0
    iteration_pos =
        let (i, a, e) = iteration.3.holds in
        omega (arith, works i a, within m x iteration i a)

    -- T is at least wcet
    pub period_fits : (i : ℕ) → Active m i → (actor_at m i).wcet.0 ≤ (period_of h (firings_of m x i)).0
    period_fits i a = (le-div_iff_mul-le (fires i a)).1 (omega (arith, within m x iteration i a))

module _ (m : Mode) (proper : ProperMode m) (x : ℕ → ℕ) (balances : Balances m x) where
  module _ (h : Tick) (iteration : Iteration m x h) where
    -- every q divides H
    pub firings_divide : (i : ℕ) → Active m i → (firings_of m x i).0 ∣ h.0
    firings_divide = divides m x iteration

    -- no actor has more work than H
    pub work_within : (i : ℕ) → Active m i → (work_in m x i).0 ≤ h.0
    work_within = within m x iteration

    -- no count is above H
    pub count_within : (i : ℕ) → Active m i → x i ≤ h.0
    count_within i a =
        le_trans (omega (arith, le-mul_of_pos_right (x i) (proper.actor i a.0 a.1).some_phase, mul_comm (x i) (actor_at m i).phases))
        (le_of_dvd (iteration_pos m proper x balances.some iteration) (firings_divide i a))
