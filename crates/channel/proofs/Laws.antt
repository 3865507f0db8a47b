-- Laws of one channel: the least start and the size are those that the model reckons; later consumers and earlier producers stay fed; neither is ever far.
use Rattle.std.specs.Prelude.{refl, ◌↔◌, ℕ, ◌+◌, ◌≤◌, ◌<◌}
use Rattle.std.proofs.Common.{ap, subst, le_refl, lt_irrefl, le_antisymm, arith}
use Rattle.std.proofs.Math.Nat.{le_trans}
use Rattle.numbers.specs.Extreme.{Least}
use Rattle.numbers.specs.Sum.{sum_more}
use Rattle.units.specs.declared.Tick.{Tick}
use Rattle.units.specs.declared.Token.{Token}
use Rattle.units.specs.Ticks.{tick}
use Rattle.units.specs.Tokens.{token}
use Rattle.units.specs.Bounds.{MOST_START, MOST_SIZE}
use Rattle.units.specs.Firings.{firing}
use Rattle.period.specs.Period.{begins_at}
use Rattle.rate.specs.Rate.{rate_of, tokens_of}
use Rattle.channel.specs.declared.End.{End}
use Rattle.channel.specs.Flow.{rates_of, cycle_ticks, Fed, Claimed, IsSize, Paced}
use Rattle.channel.specs.Pairs.{at_most, ended_some, claim_some}
use Rattle.channel.specs.Phases.{start_of, size_of}
use Rattle.channel.specs.Laws.{FedWith, ClaimedWith, rates_round, period_p, period_c, in_step, start_iff, start_near, size_most, size_met}
use Rattle.channel.specs.Bounds.{size_few}

module _ (p : End) (sp : Tick) (c : End) (sc : Tick) where
  pub fed_with : Fed p sp c sc ↔ FedWith 0 p sp c sc
  fed_with = (
    (λ fed n pos e h. omega (arith, fed n (omega (arith, pos)) (tokens_of (rates_of p) (firing e)) (firing e, h, refl))),
    (λ fed n pos v (e, h, made). omega (arith, fed n (omega (arith, pos)) e.0 h, ap (λ (t : Token). t.0) made)),
  )

  pub claimed_with : (t : Tick) (v : Token) → Claimed p sp c sc t v ↔ ClaimedWith 0 p sp c sc t.0 v.0
  claimed_with t v = (
    (λ (b, e, begun, ended, claimed). record { b = b.0; e = e.0; begun = begun; ended = ended; claimed = omega (arith, claimed) }),
    (λ w. (firing w.b, firing w.e, w.begun, w.ended, omega (arith, w.claimed))),
  )

module _ (p c : End) (w : Paced p c) where
  -- where every firing is fed, some number of places is claimed at every tick
  pub claimed_some : (sp sc : Tick) → Fed p sp c sc → (t : Tick) → (v : Token) × Claimed p sp c sc t v
  claimed_some sp sc fed t =
      let (v, z) = claim_some (rate_of (rates_of p)) (rate_of (rates_of c)) p.phases c.phases p.period.0 c.period.0 (rates_round p w.producer) (rates_round c w.consumer)
      w.producer.some w.consumer.some (period_p p c w) (period_c p c w) 0 1 sp.0 _ _ (in_step p c w 1) sc.0 ((fed_with p sp c sc).0 fed) t.0 in
      (token v, (claimed_with p sp c sc t (token v)).1 z)

  -- the least start is that of the model, and never more than a cycle of each end after the producer's
  pub start_least : (sp : Tick) → Least (λ s. Fed p sp c (tick s)) (start_of 0 p sp c).0
  start_least sp =
      record {
        holds = (fed_with p sp c (start_of 0 p sp c)).1 ((start_iff p c w 0 sp (start_of 0 p sp c).0).1 (le_refl _));
        least = λ s fed. (start_iff p c w 0 sp s).0 ((fed_with p sp c (tick s)).0 fed);
      }

  pub start_within : (sp : Tick) (r : ℕ) → Least (λ s. Fed p sp c (tick s)) r → r ≤ sp.0 + (cycle_ticks p).0 + (cycle_ticks c).0
  start_within sp r l = le_trans (l.least (start_of 0 p sp c).0 (start_least sp).holds) (start_near p c w 0 sp)

  -- the size is that of the model
  pub size_greatest : (sp sc : Tick) → Fed p sp c sc → IsSize p sp c sc (size_of 0 p sp c sc)
  size_greatest sp sc fed =
      let (t, h) = size_met p c w 0 sp sc in
      let (v, z) = claimed_some sp sc fed (tick t) in
      let z' = (claimed_with p sp c sc (tick t) v).0 z in
      record {
        holds = (tick t, subst (λ (n : ℕ). Claimed p sp c sc (tick t) (token n)) (le_antisymm (size_most p c w 0 sp sc t v.0 z') (h v.0 z')) z);
        greatest = λ n (t, z). size_most p c w 0 sp sc t.0 n ((claimed_with p sp c sc t (token n)).0 z);
      }

-- a consumer that starts no earlier stays fed, by a producer that starts no later
module _ (p : End) (c : End) (pos : 0 < p.period.0) where
  fed_wider : (sp sp' sc sc' : Tick) → sp.0 ≤ sp'.0 → sc.0 ≤ sc'.0 → Fed p sp' c sc → Fed p sp c sc'
  fed_wider sp sp' sc sc' hp hc fed n takes v (e, ended, made) =
      let (e₀, ended₀) = ended_some sp' p.period (begins_at sc c.period (firing n)) pos in
      let more : e₀.0 ≤ e.0 =
      at_most (λ (b : e.0 < e₀.0). lt_irrefl e.0 ((ended e.0).1 (omega (arith, hp, hc, (ended₀ e.0).0 b)))) in
      omega (
        arith,
        fed n takes (tokens_of (rates_of p) e₀) (e₀, ended₀, refl),
        sum_more (rate_of (rates_of p)) e₀.0 e.0 more,
        ap (λ (t : Token). t.0) made,
      )

  pub fed_later : (sp sc sc' : Tick) → sc.0 ≤ sc'.0 → Fed p sp c sc → Fed p sp c sc'
  fed_later sp sc sc' h = fed_wider sp sp sc sc' (le_refl sp.0) h

  pub fed_earlier : (sp sp' sc : Tick) → sp.0 ≤ sp'.0 → Fed p sp' c sc → Fed p sp c sc
  fed_earlier sp sp' sc h = fed_wider sp sp' sc sc h (le_refl sc.0)

-- sizes are no greater
module _ (p : End) (sp : Tick) (c : End) (sc : Tick) (w : Paced p c) (b : sp.0 ≤ MOST_START.0) (b' : sc.0 ≤ MOST_START.0) where
  pub size_within : (r : Token) → IsSize p sp c sc r → r.0 ≤ MOST_SIZE.0
  size_within r is =
      let (t, z) = is.holds in
      le_trans (size_most p c w 0 sp sc t.0 r.0 ((claimed_with p sp c sc t r).0 z)) (size_few p sp c sc w b b')
