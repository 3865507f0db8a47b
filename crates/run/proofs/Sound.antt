-- What the planner shows of an accepted table's plan. Assumes nothing.
use Prim.Native.Nat.{ℕ, ◌+◌, ◌*◌, ◌≤◌, ◌<◌}
use mathlib.Core.Path.{◌≡◌}
use mathlib.Core.Logic.{◌≢◌}
use mathlib.Core.Bool.{Bool, true, ◌&&◌, cond}
use lib.Dec.{T, leb, ltb}
use Rattle.numbers.specs.Extreme.{ExactlyFirst}
use Rattle.numbers.specs.Sum.{sum}
use Rattle.numbers.specs.Fraction.{AtMost, plus, sum_of, nothing}
use Rattle.numbers.specs.declared.fraction.Fraction.{Fraction}
use Rattle.units.specs.Limits.{CLOCK_LIMIT, limit_of}
use Rattle.run.specs.Plan.{RunPlan, Acts, works_on, wcet_over_period}

-- A mode that starts at tick 0 and runs for ever: k firings of actor i have begun by tick x, or ended.
abbrev pub HaveBegun : RunPlan → ℕ → ℕ → ℕ → ℕ → Type 0
HaveBegun p m i x = ExactlyFirst (λ n. p.start m i + n * p.period m i ≤ x)

abbrev pub HaveEnded : RunPlan → ℕ → ℕ → ℕ → ℕ → Type 0
HaveEnded p m i x = ExactlyFirst (λ n. p.start m i + (n + 1) * p.period m i ≤ x)

-- what those actors of a mode ask together of a processor that count
abbrev pub asked_of : RunPlan → ℕ → ℕ → (ℕ → Bool) → Fraction
asked_of p m proc counts = sum_of (λ i. cond (works_on p m proc i && counts i) (wcet_over_period p m i) nothing) p.actors

pub record Sound (p : RunPlan) : Type 0 where
  -- listed modes are numbered below some bound
  pub bound : ℕ
  pub below : (m : ℕ) → T (p.listed m) → m < bound
  pub some_tick : (m : ℕ) → T (p.listed m) → 0 < p.iteration m
  -- a fresh machine's request has room below the last tick at which one is answered
  pub room : (m : ℕ) → T (p.listed m) → p.startup m + p.iteration m ≤ CLOCK_LIMIT.0
  pub some_period : (m i : ℕ) → T (p.listed m) → Acts p m i → 0 < p.period m i
  pub filled : (m i : ℕ) → T (p.listed m) → Acts p m i → p.firings m i * p.period m i ≡ p.iteration m
  pub on_time : (m i : ℕ) → T (p.listed m) → Acts p m i → p.start m i ≤ p.startup m
  pub from_acts : (m c : ℕ) → T (p.listed m) → c < p.channels m → Acts p m (p.from m c)
  pub to_acts : (m c : ℕ) → T (p.listed m) → c < p.channels m → Acts p m (p.to m c)
  -- k iterations make as many tokens as they take
  pub balanced : (m c : ℕ) → T (p.listed m) → c < p.channels m → (k : ℕ)
      → sum (p.production m c) (k * p.firings m (p.from m c)) ≡ sum (p.consumption m c) (k * p.firings m (p.to m c))
  -- for ever: what the firings up to firing n take has been made by the tick at which it begins; one that takes nothing waits for nothing
  pub fed : (m c : ℕ) → T (p.listed m) → c < p.channels m → (n : ℕ) → 0 < p.consumption m c n
      → (e : ℕ) → HaveEnded p m (p.from m c) (p.start m (p.to m c) + n * p.period m (p.to m c)) e
      → sum (p.consumption m c) (n + 1) ≤ sum (p.production m c) e
  -- for ever: the places claimed at tick x, v of them, are at most the size
  pub sized : (m c : ℕ) → T (p.listed m) → c < p.channels m → (x b e v : ℕ) → HaveBegun p m (p.from m c) x b → HaveEnded p m (p.to m c) x e
      → sum (p.production m c) b ≡ sum (p.consumption m c) e + v → v ≤ p.size m c
  -- the load of each processor is at most 1, in each mode and at each tick of each change
  pub load : (m proc : ℕ) → T (p.listed m) → AtMost (asked_of p m proc (λ i. true)) (limit_of proc)
  pub change : (o l proc k : ℕ) → T (p.listed o) → T (p.listed l) → l ≢ o → p.offset o l ≤ k → k ≤ p.startup o
      → AtMost (plus (asked_of p o proc (λ i. ltb k (p.start o i))) (asked_of p l proc (λ i. leb (p.offset o l + p.start l i) k))) (limit_of proc)
  -- a change waits for the actors of both modes
  pub waits : (o l i : ℕ) → T (p.listed o) → T (p.listed l) → l ≢ o → Acts p o i → Acts p l i → p.start o i ≤ p.offset o l + p.start l i
