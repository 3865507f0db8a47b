-- Laws of one channel with some tokens present at the start: what the model reckons is its least start, which is never far, and its size.
use Rattle.std.specs.Prelude.{◌≡◌, refl, Bool, true, false, cond, ◌↔◌, eqb, length, get_or}
use Rattle.std.proofs.Common.{sym, subst, ◌∙◌, le_refl, le_of_lt, le_of_eq, le-mul_of_pos_right, pos_of_ne-zero, zero-lt-suc, eqb-true, length-take-le, get_or-take}
use Rattle.std.proofs.Math.Path.{ap}
use Prim.Native.Nat.{ℕ, zero, suc, ◌+◌, ◌-◌, ◌*◌, ◌/◌, ◌≤◌, ◌<◌, max, zero-le}
use Rattle.std.proofs.Math.Nat.{le_trans, mul-le-mul_right, lt-div-mul-add, div-le_of_le-mul, le-max_left, le-max_right}
use native.Mathlib.Omega.{arith}
use Rattle.std.proofs.Math.Decide.{dec_le}
use Rattle.std.proofs.lemmas.Bool.{eqb-false}
use Rattle.numbers.specs.Extreme.{ExactlyFirst, most_of, most_above, most_at, most_within, most_same}
use Rattle.numbers.specs.Reckoned.{gcd_of_law}
use Rattle.numbers.specs.Sum.{sum, sum_more, sum_most, sum_next}
use Rattle.units.specs.declared.Tick.{Tick}
use Rattle.units.specs.declared.Token.{Token}
use Rattle.units.specs.Ticks.{tick}
use Rattle.units.specs.Limits.{MOST_RATE, ITERATION_LIMIT}
use Rattle.rate.specs.Rate.{rate_of, rate_in, rate_cycle}
use Rattle.channel.specs.declared.End.{End}
use Rattle.channel.specs.Flow.{rates_of, cycle_tokens, cycle_ticks, Proper, Paced}
use Rattle.channel.specs.Cycles.{Matched, matched, factor_pos}
use Rattle.channel.specs.Pairs.{FedBy, ClaimedBy, wait_for, claim_for, beyond_quotient, wait_needed, wait_enough, claim_met, claim_most}
use Rattle.channel.specs.Phases.{step_of, pace_of, give_at, take_at, wait_of, start_of, claiming_at, back_at, claim_of, cycles_of, size_of, present, most_listed}

-- the rates of an end, one for each phase, go round
module _ (e : End) (h : Proper e) where
  pub rates_long : length (rates_of e) ≡ e.phases
  rates_long = length-take-le e.phases e.rates (omega (arith, h.phases, h.long))

  pub rates_round : (i : ℕ) → rate_of (rates_of e) (i + e.phases) ≡ rate_of (rates_of e) i
  rates_round i = subst (λ (n : ℕ). rate_of (rates_of e) (i + n) ≡ rate_of (rates_of e) i) rates_long (rate_cycle (rates_of e) i)

  pub rate_at : (k : ℕ) → k < e.phases → rate_of (rates_of e) k ≡ get_or e.rates k 0
  rate_at k l = rate_in (rates_of e) k (rw rates_long l) ∙ get_or-take e.phases e.rates k 0 l

  -- so many phases move at most so many tokens
  pub tokens_most : (k : ℕ) → k ≤ e.phases → sum (rate_of (rates_of e)) k ≤ k * MOST_RATE.0
  tokens_most k l =
      sum_most (rate_of (rates_of e)) MOST_RATE.0 k
      (λ i b. le_trans (le_of_eq (rate_at i (omega arith))) (h.rates i (omega (arith, h.phases))))

-- a phase that takes nothing asks nothing
gate_within : (r v b : ℕ) → (0 < r → v ≤ b) → cond (eqb r 0) 0 v ≤ b
gate_within r v b h = go (eqb r 0) refl
  where
    go : (t : Bool) → eqb r 0 ≡ t → cond t 0 v ≤ b
    go true e = zero-le
    go false e = h (pos_of_ne-zero (eqb-false r 0 e))

gate_above : (r v : ℕ) → 0 < r → v ≤ cond (eqb r 0) 0 v
gate_above r v h = go (eqb r 0) refl
  where
    go : (t : Bool) → eqb r 0 ≡ t → v ≤ cond t 0 v
    go true e = absurd (omega (arith, h, eqb-true r 0 e))
    go false e = le_refl v

-- the rules with x tokens present at the start; the base's are those with none
abbrev pub FedWith : ℕ → End → Tick → End → Tick → Type 0
FedWith x p sp c sc = FedBy (rate_of (rates_of p)) (rate_of (rates_of c)) p.period.0 c.period.0 x sp.0 sc.0

abbrev pub ClaimedWith : ℕ → End → Tick → End → Tick → ℕ → ℕ → Type 0
ClaimedWith x p sp c sc = ClaimedBy (rate_of (rates_of p)) (rate_of (rates_of c)) p.period.0 c.period.0 x sp.0 sc.0

module _ (p c : End) (w : Paced p c) where
  made_ticks : w.makers * (cycle_ticks p).0 ≡ w.iteration.0
  made_ticks = sym (ap (λ (t : Tick). t.0) w.made_in)

  taken_ticks : w.takers * (cycle_ticks c).0 ≡ w.iteration.0
  taken_ticks = sym (ap (λ (t : Tick). t.0) w.taken_in)

  makers_pos : 0 < w.makers
  makers_pos = factor_pos w.iteration.0 w.makers (cycle_ticks p).0 w.some_ticks (sym made_ticks)

  takers_pos : 0 < w.takers
  takers_pos = factor_pos w.iteration.0 w.takers (cycle_ticks c).0 w.some_ticks (sym taken_ticks)

  -- cycles and periods are above 0, and no longer than an iteration
  pub cycle_pos : 0 < (cycle_ticks p).0
  cycle_pos = factor_pos w.iteration.0 (cycle_ticks p).0 w.makers w.some_ticks (omega (arith, made_ticks))

  pub period_p : 0 < p.period.0
  period_p = factor_pos (cycle_ticks p).0 p.period.0 p.phases cycle_pos (omega arith)

  pub period_c : 0 < c.period.0
  period_c =
      factor_pos (cycle_ticks c).0 c.period.0 c.phases
      (factor_pos w.iteration.0 (cycle_ticks c).0 w.takers w.some_ticks (omega (arith, taken_ticks))) (omega arith)

  pub cycle_p : (cycle_ticks p).0 ≤ ITERATION_LIMIT.0
  cycle_p = omega (arith, w.within, made_ticks, mul-le-mul_right (cycle_ticks p).0 makers_pos)

  pub cycle_c : (cycle_ticks c).0 ≤ ITERATION_LIMIT.0
  cycle_c = omega (arith, w.within, taken_ticks, mul-le-mul_right (cycle_ticks c).0 takers_pos)

  -- what the cycles have in common lasts as long at both ends
  pub in_step : (k : ℕ) → Matched (cycle_tokens p).0 (cycle_tokens c).0 (cycle_ticks p).0 (cycle_ticks c).0 (pace_of p c k).step.tokens.0 (pace_of p c k).step.ticks.0
  in_step k =
      matched (cycle_tokens p).0 (cycle_tokens c).0 (cycle_ticks p).0 (cycle_ticks c).0 w.makers w.takers (step_of p c).tokens.0
      w.producer.moves w.consumer.moves cycle_pos makers_pos (ap (λ (t : Token). t.0) w.even) (made_ticks ∙ sym taken_ticks)
      (gcd_of_law (cycle_tokens p).0 (cycle_tokens c).0)

  abbrev rp : ℕ → ℕ
  rp = rate_of (rates_of p)

  abbrev rc : ℕ → ℕ
  rc = rate_of (rates_of c)

  module _ (x : ℕ) (sp : Tick) where
    abbrev wait : ℕ → ℕ → ℕ
    wait = wait_for rp rc p.phases p.period.0 c.period.0 x (x + 1) sp.0 (pace_of p c (x + 1)).step.tokens.0 (pace_of p c (x + 1)).step.ticks.0

    cycles_more : x + (cycle_tokens p).0 ≤ (x + 1) * (cycle_tokens p).0
    cycles_more = omega (arith, le-mul_of_pos_right x w.producer.moves)

    -- the wait of one phase for another, as it is reckoned
    wait_is : (f s : ℕ) → s < p.phases → 0 < rc f
        → (wait_of (pace_of p c (x + 1)).step.ticks (give_at x (pace_of p c (x + 1)) p sp s) (take_at (pace_of p c (x + 1)) c f)).0 ≡ wait f s
    wait_is f s hs pos =
        beyond_quotient (sum rc (f + 1) + (x + 1) * (cycle_tokens p).0) (sum rp s + (x + 1)) (step_of p c).tokens.0 (pace_of p c (x + 1)).step.ticks.0
        (sp.0 + (s + 1) * p.period.0) (0 + f * c.period.0 + (x + 1) * (cycle_ticks p).0) (in_step (x + 1)).some_g
        (omega (arith, cycles_more, sum_more rp s p.phases (le_of_lt hs), sum_next rc f)) ∙ omega arith

    -- the longest wait over all pairs
    start_is : (start_of x p sp c).0 ≡ most_of (λ f. cond (eqb (rc f) 0) 0 (most_of (λ s. (wait_of (pace_of p c (x + 1)).step.ticks (give_at x (pace_of p c (x + 1)) p sp s) (take_at (pace_of p c (x + 1)) c f)).0) p.phases)) c.phases
    unfolding start_of
    start_is = most_same _ _ c.phases (λ f hf. ap (cond (eqb (rc f) 0) 0) (most_listed _ _ p.phases))

    -- THE START: the rule for ever is one bound
    pub start_iff : (sc : ℕ) → FedWith x p sp c (tick sc) ↔ ((start_of x p sp c).0 ≤ sc)
    start_iff sc = rw start_is (
      (λ fed. most_within _ sc c.phases (λ f hf. gate_within (rc f) _ sc (λ pos. most_within _ sc p.phases (λ s hs.
          le_trans (le_of_eq (wait_is f s hs pos))
          (wait_needed rp rc p.phases c.phases p.period.0 c.period.0 (rates_round p w.producer) (rates_round c w.consumer)
          w.producer.some w.consumer.some period_p period_c x (x + 1) sp.0 _ _ (in_step (x + 1)) sc cycles_more fed f s hs pos))))),
      (λ h. wait_enough rp rc p.phases c.phases p.period.0 c.period.0 (rates_round p w.producer) (rates_round c w.consumer)
          w.producer.some w.consumer.some period_p period_c x (x + 1) sp.0 _ _ (in_step (x + 1)) sc (λ f s hf hs pos.
          le_trans (le_of_eq (sym (wait_is f s hs pos)))
          (le_trans (most_above _ p.phases s hs) (le_trans (gate_above (rc f) _ pos) (le_trans (most_above _ c.phases f hf) h))))),
    )

    -- it is never more than a cycle of each end after the producer's
    pub start_near : (start_of x p sp c).0 ≤ sp.0 + (cycle_ticks p).0 + (cycle_ticks c).0
    start_near = rw start_is (most_within _ _ c.phases (λ f hf. gate_within (rc f) _ _ (λ pos. most_within _ _ p.phases (λ s hs.
        le_trans (le_of_eq (wait_is f s hs pos)) (near f s hf hs)))))
      where
        near : (f s : ℕ) → f < c.phases → s < p.phases → wait f s ≤ sp.0 + (cycle_ticks p).0 + (cycle_ticks c).0
        near f s hf hs =
            let m = in_step (x + 1) in
            let few : (sum rc (f + 1) + (x + 1) * (cycle_tokens p).0 - (sum rp s + (x + 1))) / (step_of p c).tokens.0 ≤ m.B + (x + 1) * m.A =
            div-le_of_le-mul (step_of p c).tokens.0
            (omega (arith, sum_more rc (f + 1) c.phases (omega arith), m.tokens_c, ap (λ (z : ℕ). (x + 1) * z) m.tokens_p)) in
            omega (
              arith,
              mul-le-mul_right (pace_of p c (x + 1)).step.ticks.0 few,
              m.ticks_c,
              ap (λ (z : ℕ). (x + 1) * z) m.ticks_p,
              mul-le-mul_right p.period.0 hs,
            )

  module _ (x : ℕ) (sp sc : Tick) where
    abbrev K : ℕ
    K = cycles_of p sp

    abbrev claim : ℕ → ℕ → ℕ
    claim = claim_for rp rc p.phases p.period.0 c.period.0 x K sp.0 (pace_of p c K).step.tokens.0 (pace_of p c K).step.ticks.0 sc.0

    ticks_more : sp.0 + (cycle_ticks p).0 ≤ K * (cycle_ticks p).0
    ticks_more = omega (arith, lt-div-mul-add {a = sp.0} cycle_pos)

    -- the places that a phase claims beside another, as they are reckoned
    claim_is : (f s : ℕ) → s < p.phases
        → (claim_of (step_of p c).tokens (present x (claiming_at (pace_of p c K) p sp s)) (back_at (pace_of p c K) c sc f)).0 ≡ claim f s
    claim_is f s hs =
        beyond_quotient (sc.0 + (f + 1) * c.period.0 + K * (cycle_ticks p).0) (sp.0 + s * p.period.0 + 1) (pace_of p c K).step.ticks.0 (step_of p c).tokens.0
        (sum rp (s + 1) + x) (sum rc f + K * (cycle_tokens p).0) (in_step K).some_G
        (omega (arith, ticks_more, period_p, mul-le-mul_right p.period.0 hs))

    abbrev row : ℕ → ℕ → ℕ
    row f s = (claim_of (step_of p c).tokens (present x (claiming_at (pace_of p c K) p sp s)) (back_at (pace_of p c K) c sc f)).0

    -- the most claims over all pairs
    pub size_is : (size_of x p sp c sc).0 ≡ max x (most_of (λ f. most_of (row f) p.phases) c.phases)
    unfolding size_of
    size_is = ap (max x) (most_same _ _ c.phases (λ f hf. most_listed _ _ p.phases))

    -- THE SIZE: at no tick are more places claimed
    pub size_most : (t v : ℕ) → ClaimedWith x p sp c sc t v → v ≤ (size_of x p sp c sc).0
    size_most t v z =
        rw size_is (claim_most rp rc p.phases c.phases p.period.0 c.period.0 (rates_round p w.producer) (rates_round c w.consumer)
        w.producer.some w.consumer.some period_p period_c x K sp.0 _ _ (in_step K) sc.0 _ (le-max_left x _)
        (λ f s hf hs. le_trans (le_of_eq (sym (claim_is f s hs)))
        (le_trans (most_above _ p.phases s hs) (le_trans (most_above _ c.phases f hf) (le-max_right x _)))) t v z)

    -- and at some tick as many
    pub size_met : (t : ℕ) × ((v : ℕ) → ClaimedWith x p sp c sc t v → (size_of x p sp c sc).0 ≤ v)
    unfolding sum
    size_met = rw size_is (go (dec_le most x))
      where
        most : ℕ
        most = most_of (λ f. most_of (row f) p.phases) c.phases

        none_ended : (e : ℕ) → ExactlyFirst (λ k. sc.0 + (k + 1) * c.period.0 ≤ 0) e → e ≡ 0
        none_ended zero h = refl
        none_ended (suc e) h = absurd (omega (arith, (h 0).0 (zero-lt-suc e), period_c))

        go : Dec (most ≤ x) → (t : ℕ) × ((v : ℕ) → ClaimedWith x p sp c sc t v → max x most ≤ v)
        go (yes l) = (0, λ v z. omega (arith, z.claimed, ap (sum rc) (none_ended z.e z.ended)))
        go (no l) =
            let (f, hf, ef) = most_at (λ f. most_of (row f) p.phases) c.phases (omega (arith, l)) in
            let (s, hs, es) = most_at (row f) p.phases (omega (arith, l, ef)) in
            let (t, h) = claim_met rp rc p.phases c.phases p.period.0 c.period.0 (rates_round p w.producer) (rates_round c w.consumer)
            w.producer.some w.consumer.some period_p period_c x K sp.0 _ _ (in_step K) sc.0 ticks_more f s hs in
            (t, λ v z. omega (arith, l, ef, es, claim_is f s hs, h v z))
