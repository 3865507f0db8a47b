-- A channel in numbers: its start and its size by the pairs of a phase of the producer and a phase of the consumer, for ever.
use Rattle.std.specs.Prelude.{◌≡◌, Bool, true, false, cond, leb}
use Rattle.std.proofs.Math.Path.{refl, ap}
use Prim.Native.Nat.{ℕ, zero, suc, ◌+◌, ◌-◌, ◌*◌, ◌/◌, ◌%◌, ◌≤◌, ◌<◌}
use Rattle.std.proofs.Common.{le_refl, le_of_lt, le_trans, mod-lt}
use Rattle.std.proofs.Math.Nat.{lt_irrefl, lt_of_not-le, div-add-mod', mul-le-mul_right}
use native.Mathlib.Omega.{arith}
use Rattle.std.proofs.Math.Decide.{dec_le, dec_lt}
use Rattle.numbers.specs.Extreme.{ExactlyFirst}
use Rattle.numbers.specs.Quotient.{div_difference}
use Rattle.numbers.specs.Sum.{sum, sum_next, sum_more, sum_longer, rounds, sum_rounds}
use Rattle.units.specs.declared.Tick.{Tick}
use Rattle.units.specs.declared.Firing.{Firing}
use Rattle.units.specs.Ticks.{tick}
use Rattle.period.specs.Period.{HaveBegun, HaveEnded, begun_before, begun_since, ended_before, ended_since}
use Rattle.channel.specs.Cycles.{Matched, covered, reached, apart}

-- what a pair comes to: more, less what is fewer, and less a unit besides where the rest is short
abbrev pub beyond : ℕ → ℕ → ℕ → ℕ → ℕ → ℕ
beyond rest rest' more fewer unit = more - cond (leb rest rest') fewer (fewer + unit)

-- The producer makes rp i in firing i, with period tp from sp on; the consumer takes rc i, with period tc from sc on; x tokens are there at the start.
-- No firing takes a token not yet there:
abbrev pub FedBy : (ℕ → ℕ) → (ℕ → ℕ) → ℕ → ℕ → ℕ → ℕ → ℕ → Type 0
FedBy rp rc tp tc x sp sc = (n : ℕ) → 0 < rc n → (e : ℕ) → ExactlyFirst (λ k. sp + (k + 1) * tp ≤ sc + n * tc) e → sum rc (n + 1) ≤ x + sum rp e

-- v places are claimed at tick t:
pub record ClaimedBy (rp rc : ℕ → ℕ) (tp tc x sp sc t v : ℕ) : Type 0 where
  pub b : ℕ
  pub e : ℕ
  pub begun : ExactlyFirst (λ k. sp + k * tp ≤ t) b
  pub ended : ExactlyFirst (λ k. sc + (k + 1) * tc ≤ t) e
  pub claimed : x + sum rp b ≡ sum rc e + v

pub at_most : {a b : ℕ} → (b < a → ⊥) → a ≤ b
at_most h = omega (arith, h)

-- by a tick some number of firings has begun, and some number has ended
pub begun_some : (start period by : Tick) → 0 < period.0 → (n : Firing) × HaveBegun start period by n
begun_some start period by pos = go (dec_lt by.0 start.0)
  where
    go : Dec (by.0 < start.0) → (n : Firing) × HaveBegun start period by n
    go (yes h) = (_, begun_before start period by h)
    go (no h) = (_, begun_since start period by (omega (arith, h)) pos)

pub ended_some : (start period by : Tick) → 0 < period.0 → (n : Firing) × HaveEnded start period by n
ended_some start period by pos = go (dec_lt by.0 start.0)
  where
    go : Dec (by.0 < start.0) → (n : Firing) × HaveEnded start period by n
    go (yes h) = (_, ended_before start period by h)
    go (no h) = (_, ended_since start period by (omega (arith, h)) pos)

-- a pair of quotients, each taken by itself, is the quotient of the difference
pub beyond_quotient : (x y g G m l : ℕ) → 0 < g → y ≤ x
    → beyond (y % g) (x % g) (m + x / g * G) (y / g * G + l) G ≡ m + (x - y) / g * G - l
beyond_quotient x y g G m l pos h = go (leb (y % g) (x % g)) (div_difference x y g pos h)
  where
    go : (b : Bool) → x / g ≡ (x - y) / g + y / g + cond b 0 1
        → m + x / g * G - cond b (y / g * G + l) (y / g * G + l + G) ≡ m + (x - y) / g * G - l
    go true e = omega (arith, ap (λ (z : ℕ). z * G) e)
    go false e = omega (arith, ap (λ (z : ℕ). z * G) e)

-- The rates repeat after np and nc firings, and K cycles of the producer are added where a difference is taken.
module _ (rp rc : ℕ → ℕ) (np tp tc x K sp g G : ℕ) where
  -- the wait of the consumer's phase f for the end of the producer's phase s
  abbrev pub wait_for : ℕ → ℕ → ℕ
  wait_for f s = sp + (s + 1) * tp + (sum rc (f + 1) + K * sum rp np - (sum rp s + (x + 1))) / g * G - (f * tc + K * (np * tp))

  -- the places claimed when the producer's phase s begins, at the latest while the consumer's phase f has not ended
  abbrev pub claim_for : ℕ → ℕ → ℕ → ℕ
  claim_for sc f s = sum rp (s + 1) + x + (sc + (f + 1) * tc + K * (np * tp) - (sp + s * tp + 1)) / G * g - (sum rc f + K * sum rp np)

module _ (rp rc : ℕ → ℕ) (np nc tp tc : ℕ) (round-p : (i : ℕ) → rp (i + np) ≡ rp i) (round-c : (i : ℕ) → rc (i + nc) ≡ rc i)
    (some-p : 0 < np) (some-c : 0 < nc) (ticks_p : 0 < tp) (ticks_c : 0 < tc) (x K sp : ℕ) (g G : ℕ)
    (m : Matched (sum rp np) (sum rc nc) (np * tp) (nc * tc) g G) where
  abbrev Feeds : ℕ → Type 0
  Feeds = FedBy rp rc tp tc x sp

  abbrev wait : ℕ → ℕ → ℕ
  wait = wait_for rp rc np tp tc x K sp g G

  within_cycle : (s : ℕ) → s < np → sum rp s ≤ sum rp np
  within_cycle s h = sum_more rp s np (le_of_lt h)

  -- phase f of the consumer's cycle c
  taken_at : (f c : ℕ) → sum rc (f + c * nc + 1) ≡ sum rc (f + 1) + c * sum rc nc
  taken_at f c = let e : f + c * nc + 1 ≡ (f + 1) + c * nc = omega arith in rw e (sum_rounds rc nc round-c (f + 1) c)

  made_at : (s k : ℕ) → sum rp (s + k * np + 1) ≡ sum rp (s + 1) + k * sum rp np
  made_at s k = let e : s + k * np + 1 ≡ (s + 1) + k * np = omega arith in rw e (sum_rounds rp np round-p (s + 1) k)

  -- the pair's distance is met for ever, so its wait is needed
  pub wait_needed : (sc : ℕ) → x + sum rp np ≤ K * sum rp np → Feeds sc → (f s : ℕ) → s < np → 0 < rc f → wait f s ≤ sc
  wait_needed sc hK fed f s hs pos =
      let X : ℕ = sum rc (f + 1) in
      let Y : ℕ = sum rp s + (x + 1) in
      let (k, c, e) = apart m K ((X + K * sum rp np - Y) / g) in
      let short : Y + k * sum rp np ≤ X + c * sum rc nc =
      reached (sum rp np) (sum rc nc) g m.A m.B K X Y m.tokens_p m.tokens_c m.some_g k c
      (omega (arith, hK, within_cycle s hs, sum_next rc f)) e in
      let n : ℕ = f + c * nc in
      let (E, ended) = ended_some (tick sp) (tick tp) (tick (sc + n * tc)) ticks_p in
      let got : sum rc (n + 1) ≤ x + sum rp E.0 = fed n (rw (rounds rc nc round-c f c) pos) E.0 ended in
      let late : s + k * np < E.0 =
      sum_longer rp (s + k * np) E.0 (omega (arith, short, got, sum_rounds rp np round-p s k, taken_at f c)) in
      let there : sp + (s + k * np + 1) * tp ≤ sc + n * tc = (ended (s + k * np)).0 late in
      omega (arith, there, ap (λ (z : ℕ). z * G) e, ap (λ (z : ℕ). (K + k) * z) m.ticks_p, ap (λ (z : ℕ). c * z) m.ticks_c)

  -- every firing of the consumer makes such a pair with the first firing of the producer that is not there yet
  pub wait_enough : (sc : ℕ) → ((f s : ℕ) → f < nc → s < np → 0 < rc f → wait f s ≤ sc) → Feeds sc
  wait_enough sc all n pos E ended = go (dec_le (sum rc (n + 1)) (x + sum rp E))
    where
      go : Dec (sum rc (n + 1) ≤ x + sum rp E) → sum rc (n + 1) ≤ x + sum rp E
      go (yes i) = i
      go (no i) =
          let k : ℕ = E / np in
          let s : ℕ = E % np in
          let c : ℕ = n / nc in
          let f : ℕ = n % nc in
          let eE : s + k * np ≡ E = omega (arith, div-add-mod' E np) in
          let en : f + c * nc ≡ n = omega (arith, div-add-mod' n nc) in
          let X : ℕ = sum rc (f + 1) in
          let Y : ℕ = sum rp s + (x + 1) in
          let short : Y + k * sum rp np ≤ X + c * sum rc nc =
          omega (arith, i, rw eE at (sum_rounds rp np round-p s k), rw en at (taken_at f c)) in
          let far : (K + k) * m.A ≤ (X + K * sum rp np - Y) / g + c * m.B =
          covered (sum rp np) (sum rc nc) g m.A m.B K X Y m.tokens_p m.tokens_c m.some_g k c short in
          let w : wait f s ≤ sc = all f s (mod-lt n some-c) (mod-lt E some-p) (rw (rounds rc nc round-c f c) at (rw (← en) at pos)) in
          let there : sp + (E + 1) * tp ≤ sc + n * tc =
          omega (
            arith,
            w,
            mul-le-mul_right G far,
            ap (λ (z : ℕ). (K + k) * z) m.ticks_p,
            ap (λ (z : ℕ). c * z) m.ticks_c,
            ap (λ (z : ℕ). z * tp) eE,
            ap (λ (z : ℕ). z * tc) en,
          ) in
          absurd (lt_irrefl E ((ended E).1 there))

  module _ (sc : ℕ) where
    abbrev Claims : ℕ → ℕ → Type 0
    Claims = ClaimedBy rp rc tp tc x sp sc

    abbrev claim : ℕ → ℕ → ℕ
    claim = claim_for rp rc np tp tc x K sp g G sc

    -- they are claimed at some tick
    pub claim_met : sp + np * tp ≤ K * (np * tp) → (f s : ℕ) → s < np → (t : ℕ) × ((v : ℕ) → Claims t v → claim f s ≤ v)
    claim_met hK f s hs =
        let X : ℕ = sc + (f + 1) * tc in
        let Y : ℕ = sp + s * tp + 1 in
        let (k, c, e) = apart m K ((X + K * (np * tp) - Y) / G) in
        let before : Y + k * (np * tp) ≤ X + c * (nc * tc) =
        reached (np * tp) (nc * tc) G m.A m.B K X Y m.ticks_p m.ticks_c m.some_G k c
        (omega (arith, hK, ticks_p, mul-le-mul_right tp hs)) e in
        let M : ℕ = s + k * np in
        let n : ℕ = f + c * nc in (
          sp + M * tp,
          λ v w.
              let more : M + 1 ≤ w.b = omega (arith, (w.begun M).1 (le_refl (sp + M * tp))) in
              let fewer : w.e ≤ n = at_most (λ (l : n < w.e). omega (arith, before, (w.ended n).0 l)) in
              omega (
                arith,
                w.claimed,
                sum_more rp (M + 1) w.b more,
                sum_more rc w.e n fewer,
                made_at s k,
                sum_rounds rc nc round-c f c,
                ap (λ (z : ℕ). z * g) e,
                ap (λ (z : ℕ). (K + k) * z) m.tokens_p,
                ap (λ (z : ℕ). c * z) m.tokens_c,
              ),
        )

    -- and at no tick more are
    pub claim_most : (B : ℕ) → x ≤ B → ((f s : ℕ) → f < nc → s < np → claim f s ≤ B) → (t v : ℕ) → Claims t v → v ≤ B
    unfolding sum
    claim_most B hx all t v w = go w.b refl
      where
        go : (b : ℕ) → w.b ≡ b → v ≤ B
        go zero z = omega (arith, hx, w.claimed, ap (sum rp) z)
        go (suc M) z =
            let t₀ : ℕ = sp + M * tp in
            let by : t₀ ≤ t = (w.begun M).0 (omega (arith, z)) in
            let (e₀, ended) = ended_some (tick sc) (tick tc) (tick t₀) ticks_c in
            let E : ℕ = e₀.0 in
            let runs : t₀ < sc + (E + 1) * tc = lt_of_not-le (λ (l : sc + (E + 1) * tc ≤ t₀). lt_irrefl E ((ended E).1 l)) in
            let fewer : E ≤ w.e = at_most (λ (l : w.e < E). lt_irrefl w.e ((w.ended w.e).1 (le_trans ((ended w.e).0 l) by))) in
            let k : ℕ = M / np in
            let s : ℕ = M % np in
            let c : ℕ = E / nc in
            let f : ℕ = E % nc in
            let eM : s + k * np ≡ M = omega (arith, div-add-mod' M np) in
            let eE : f + c * nc ≡ E = omega (arith, div-add-mod' E nc) in
            let X : ℕ = sc + (f + 1) * tc in
            let Y : ℕ = sp + s * tp + 1 in
            let before : Y + k * (np * tp) ≤ X + c * (nc * tc) =
            omega (arith, runs, ap (λ (z : ℕ). z * tp) eM, ap (λ (z : ℕ). z * tc) eE) in
            let far : (K + k) * m.A ≤ (X + K * (np * tp) - Y) / G + c * m.B =
            covered (np * tp) (nc * tc) G m.A m.B K X Y m.ticks_p m.ticks_c m.some_G k c before in
            omega (
              arith,
              all f s (mod-lt E some-c) (mod-lt M some-p),
              w.claimed,
              ap (sum rp) z,
              mul-le-mul_right g far,
              ap (λ (z : ℕ). (K + k) * z) m.tokens_p,
              ap (λ (z : ℕ). c * z) m.tokens_c,
              rw eM at (made_at s k),
              sum_next rp M,
              rw eE at (sum_rounds rc nc round-c f c),
              sum_more rc E w.e fewer,
            )

    -- where every firing is fed, no more is given back than was claimed
    pub claim_some : Feeds sc → (t : ℕ) → (v : ℕ) × Claims t v
    unfolding sum
    claim_some fed t =
        let (b, begun) = begun_some (tick sp) (tick tp) (tick t) ticks_p in
        let (e, ended) = ended_some (tick sc) (tick tc) (tick t) ticks_c in
        let enough : sum rc e.0 ≤ x + sum rp b.0 = given b.0 begun e.0 (λ k l. (ended k).0 l) in
        (x + sum rp b.0 - sum rc e.0, record { b = b.0; e = e.0; begun = begun; ended = ended; claimed = omega arith })
      where
        given : (b : ℕ) → ExactlyFirst (λ k. sp + k * tp ≤ t) b → (e : ℕ) → ((k : ℕ) → k < e → sc + (k + 1) * tc ≤ t) → sum rc e ≤ x + sum rp b
        given b begun zero h = omega arith
        given b begun (suc n) h = go (dec_le 1 (rc n)) (given b begun n (λ k l. h k (omega arith)))
          where
            go : Dec (1 ≤ rc n) → sum rc n ≤ x + sum rp b → sum rc (suc n) ≤ x + sum rp b
            go (no i) ih = omega arith
            go (yes i) ih =
                let (E, there) = ended_some (tick sp) (tick tp) (tick (sc + n * tc)) ticks_p in
                let by : E.0 ≤ b =
                at_most (λ (l : b < E.0). lt_irrefl b ((begun b).1 (omega (arith, (there b).0 l, h n (le_refl (suc n)))))) in
                omega (arith, fed n i E.0 there, sum_next rc n, sum_more rp E.0 b by)
