-- Balance: how often each actor's cycle runs in an iteration, and how long the iteration is.
use Rattle.std.specs.Prelude.{◌≡◌, List, ℕ, ◌≤◌, ◌<◌, take}
use Rattle.std.specs.Int.{◌∣◌}
use Rattle.numbers.specs.Extreme.{Greatest}
use Rattle.units.specs.declared.Tick.{Tick}
use Rattle.units.specs.declared.Firing.{Firing}
use Rattle.units.specs.declared.Token.{Token}
use Rattle.units.specs.Limits.{ITERATION_LIMIT}
use Rattle.units.specs.Firings.{firing}
use Rattle.units.specs.Tokens.{times_tokens}
use Rattle.period.specs.Period.{work_of, IterationIs}
use Rattle.rate.specs.Rate.{tokens_of, cycles_of}
use Rattle.tables.specs.Shape.{Mode, actor_at, channel_at, Active}

-- the tokens of a cycle: all phases once
abbrev pub cycle_sum : ℕ → List ℕ → Token
cycle_sum phases rates = tokens_of (take phases rates) (firing phases)

-- what a cycle of its producer makes on channel k, and what a cycle of its consumer takes
abbrev pub made_on : Mode → ℕ → Token
made_on m k = cycle_sum (actor_at m (channel_at m k).from).phases (channel_at m k).production

abbrev pub taken_on : Mode → ℕ → Token
taken_on m k = cycle_sum (actor_at m (channel_at m k).to).phases (channel_at m k).consumption

-- cycle counts, all at least 1, such that for each channel the producer's count times its cycle sum equals the consumer's
pub record Balances (m : Mode) (x : ℕ → ℕ) : Type 0 where
  pub some : (i : ℕ) → Active m i → 1 ≤ x i
  pub even : (k : ℕ) → k < m.count → times_tokens (x (channel_at m k).from) (made_on m k) ≡ times_tokens (x (channel_at m k).to) (taken_on m k)

-- the smallest such counts
pub record Smallest (m : Mode) (x : ℕ → ℕ) : Type 0 where
  pub balances : Balances m x
  pub least : (y : ℕ → ℕ) → Balances m y → (i : ℕ) → Active m i → x i ≤ y i

-- the firings of an actor in an iteration: phases times cycle count
abbrev pub firings_of : Mode → (ℕ → ℕ) → ℕ → Firing
firings_of m x i = cycles_of (actor_at m i).phases (x i)

-- the work of an actor in an iteration: wcet times q
abbrev pub work_in : Mode → (ℕ → ℕ) → ℕ → Tick
work_in m x i = work_of (actor_at m i).wcet (firings_of m x i)

-- w is the greatest work
abbrev pub Most : Mode → (ℕ → ℕ) → Tick → Type 0
Most m x w = Greatest (λ v. (i : ℕ) × Active m i × ((work_in m x i).0 ≡ v)) w.0

-- l is the least common multiple of all firings
pub record Common (m : Mode) (x : ℕ → ℕ) (l : Firing) : Type 0 where
  pub each : (i : ℕ) → Active m i → (firings_of m x i).0 ∣ l.0
  pub least : (n : ℕ) → ((i : ℕ) → Active m i → (firings_of m x i).0 ∣ n) → l.0 ∣ n

-- h is the iteration length
abbrev pub Iteration : Mode → (ℕ → ℕ) → Tick → Type 0
Iteration m x h = (l : Firing) × (w : Tick) × Common m x l × Most m x w × IterationIs l w h

-- Refusal 8: no balancing counts have an iteration within the limit.
abbrev pub Unbalanced : Mode → Type 0
Unbalanced m = (x : ℕ → ℕ) (h : Tick) → Balances m x → Iteration m x h → ITERATION_LIMIT.0 < h.0
