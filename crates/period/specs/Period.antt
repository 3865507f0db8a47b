-- The period rule: firing n of an actor begins n periods after its start, and has the ticks up to the next beginning.
use Rattle.std.specs.Prelude.{◌≡◌, refl, ℕ, suc, ◌+◌, ◌-◌, ◌*◌, ◌/◌, ◌^◌, ◌≤◌, ◌<◌, Option, Some, None}
use Rattle.std.proofs.Common.{sym, ap, ◌∙◌, le_trans, mul-le-mul, not-suc-le-zero, not-le_of_lt, le-div_iff_mul-le, arith}
use Rattle.numbers.specs.Common.{IsLcm}
use Rattle.numbers.specs.Extreme.{ExactlyFirst, least_unique}
use Rattle.numbers.specs.Multiples.{lcm_unique}
use Rattle.numbers.specs.Quotient.{RoundedUp}
use Rattle.numbers.specs.declared.fraction.Fraction.{Fraction}
use Rattle.units.specs.declared.Tick.{Tick}
use Rattle.units.specs.declared.Firing.{Firing}
use Rattle.units.specs.Ticks.{tick, plus_ticks, times_ticks}
use Rattle.units.specs.Firings.{firing}
use Rattle.units.specs.Limits.{MOST_WCET}
use Rattle.units.specs.Products.{MOST_COUNTED, MOST_WORK, products, product_fits}

-- the firing after n
abbrev pub next : Firing → Firing
next n = firing (n.0 + 1)

-- of an actor with this start and this period, firing n begins at this tick: S + nT
abbrev pub begins_at : Tick → Tick → Firing → Tick
begins_at start period n = plus_ticks start (times_ticks n.0 period)

-- and its output may be taken from this tick on, that tick included: S + (n + 1)T
abbrev pub ends_at : Tick → Tick → Firing → Tick
ends_at start period n = begins_at start period (next n)

-- n firings have begun by the tick, that tick included: those below n, and no others
abbrev pub HaveBegun : Tick → Tick → Tick → Firing → Type 0
HaveBegun start period by n = ExactlyFirst (λ k. (begins_at start period (firing k)).0 ≤ by.0) n.0

-- n firings have ended by the tick, that tick included: those below n, and no others
abbrev pub HaveEnded : Tick → Tick → Tick → Firing → Type 0
HaveEnded start period by n = ExactlyFirst (λ k. (ends_at start period (firing k)).0 ≤ by.0) n.0

-- the ticks that q firings of an actor work: wcet times q
abbrev pub work_of : Tick → Firing → Tick
work_of wcet q = times_ticks q.0 wcet

-- the least common multiple of two numbers of firings under a limit: it, where it is within the limit, and none where it is above
abbrev pub CommonWithin : Firing → Firing → Firing → Option Firing → Type 0
CommonWithin a b limit (Some l) = IsLcm a.0 b.0 l.0 × (l.0 ≤ limit.0)
CommonWithin a b limit None = (l : Firing) → IsLcm a.0 b.0 l.0 → limit.0 < l.0

-- the iteration of actors whose firings have the common multiple l and whose greatest work is w: l times (w / l rounded up)
abbrev pub IterationIs : Firing → Tick → Tick → Type 0
IterationIs l w h = (r : ℕ) × RoundedUp w.0 l.0 r × (h.0 ≡ l.0 * r)

-- the same under a limit: it, where it is within the limit, and none where it is above
abbrev pub IterationWithin : Firing → Tick → Tick → Option Tick → Type 0
IterationWithin l w limit (Some h) = IterationIs l w h × (h.0 ≤ limit.0)
IterationWithin l w limit None = (h : Tick) → IterationIs l w h → limit.0 < h.0

-- the period of an actor with q firings in an iteration of h ticks: h / q
abbrev pub period_of : Tick → Firing → Tick
period_of h q = tick (h.0 / q.0)

-- a ticks of b, as a fraction
abbrev pub share_of : Tick → Tick → Fraction
share_of a b = record { over = a.0; under = b.0 }

-- the work of cycle counts within the limit
pub work_most : {wcet : Tick} {q : Firing} → wcet.0 ≤ MOST_WCET.0 → q.0 ≤ MOST_COUNTED.0 → (work_of wcet q).0 ≤ MOST_WORK.0
work_most h g = omega (arith, mul-le-mul g h)

pub work_fits : {wcet : Tick} {q : Firing} → wcet.0 ≤ MOST_WCET.0 → q.0 ≤ MOST_COUNTED.0 → (work_of wcet q).0 < 2 ^ 64
work_fits h g = product_fits (le_trans (omega (arith, mul-le-mul h g)) products.work)

-- the counts, where the start lies ahead and where it has passed
module _ (start period by : Tick) where
  pub begun_before : by.0 < start.0 → HaveBegun start period by (firing 0)
  begun_before h k = (λ l. absurd (not-suc-le-zero l), λ l. absurd (omega (arith, h, l)))

  pub ended_before : by.0 < start.0 → HaveEnded start period by (firing 0)
  ended_before h k = (λ l. absurd (not-suc-le-zero l), λ l. absurd (omega (arith, h, l)))

  module _ (h : start.0 ≤ by.0) (pos : 0 < period.0) where
    pub begun_since : HaveBegun start period by (firing ((by.0 - start.0) / period.0 + 1))
    begun_since k = (
      λ l. let e : k * period.0 ≤ by.0 - start.0 = (le-div_iff_mul-le pos).0 (omega (arith, l)) in omega (arith, h),
      λ l. let e : k ≤ (by.0 - start.0) / period.0 = (le-div_iff_mul-le pos).1 (omega (arith, l)) in omega arith,
    )

    pub ended_since : HaveEnded start period by (firing ((by.0 - start.0) / period.0))
    ended_since k = (
      λ l. let e : suc k * period.0 ≤ by.0 - start.0 = (le-div_iff_mul-le pos).0 l in omega (arith, h),
      λ l. (le-div_iff_mul-le {x = suc k} pos).1 (omega (arith, l)),
    )

-- an iteration has one length
pub iteration_unique : (l : Firing) (w : Tick) {g h : Tick} → IterationIs l w g → IterationIs l w h → g ≡ h
iteration_unique l w (r, p, e) (s, q, f) = λ i. record { 0 = (e ∙ ap (λ (n : ℕ). l.0 * n) (least_unique _ p q) ∙ sym f) i }

pub common_unique : (a b limit : Firing) (x y : Option Firing) → CommonWithin a b limit x → CommonWithin a b limit y → x ≡ y
common_unique a b limit (Some l) (Some m) p q = λ i. Some (firing (lcm_unique p.0 q.0 i))
common_unique a b limit (Some l) None p q = absurd (not-le_of_lt (q l p.0) p.1)
common_unique a b limit None (Some m) p q = absurd (not-le_of_lt (p m q.0) q.1)
common_unique a b limit None None p q = refl
