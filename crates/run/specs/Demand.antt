-- Demand 3, of a plan.
use Rattle.std.specs.Prelude.{None, ℕ, ◌+◌, ◌-◌, ◌%◌, ◌≤◌, ◌<◌, ◌≡◌, cond, ◌≢◌, List, T}
use Rattle.numbers.specs.Every.{Every}
use Rattle.numbers.specs.Fraction.{AtMost}
use Rattle.units.specs.Limits.{limit_of}
use Rattle.run.specs.Plan.{RunPlan, Acts}
use Rattle.run.specs.Machine.{Machine, Request, refusal, leaving, stays, leaves, Visit, visit, Run, visits, begin, run}
use Rattle.run.specs.Firing.{begins, fires, under_way, is_open, EndTimes, InPeriod, earliest, latest, taken, made, claimed, given_back, total, total_in, open_in, busy, asked}

-- what holds of every run: of every starting mode and every list of requests, refused ones among them
abbrev pub EveryRun : RunPlan → (Run → Type 0) → Type 0
EveryRun p Q = (m : ℕ) → T (p.listed m) → (rs : List Request) → Q (run p (begin p m) rs)

-- what holds of the visits of every run, if each firing ends within its period
abbrev pub Timely : RunPlan → (EndTimes → List Visit → Type 0) → Type 0
Timely p Q = (e : EndTimes) → EveryRun p (λ s. Every (InPeriod p e) (visits s) → Q e (visits s))

-- the tick set for the first firing of the sink in a machine's mode
abbrev pub sink_set : RunPlan → Machine → ℕ
sink_set p m = begins p (visit m stays) (p.sink m.mode) 0

-- the place of a request in the old mode's iteration
abbrev pub place : RunPlan → Machine → Request → ℕ
place p m r = (r.tick - m.started) % p.iteration m.mode

-- Tokens, buffers and processors. m, c, t and proc are any mode, channel of it, tick and processor.
pub record RightRuns (p : RunPlan) : Type 0 where
  -- No actor ever takes a token that is not there: by any tick no more were taken from a buffer than were made ..
  pub no_missing : Timely p (λ e vs. (m c t : ℕ) → c < p.channels m → total_in vs m (taken p c t) ≤ total_in vs m (made p e c t))
  -- .. and each visit takes only what it has made.
  pub no_borrowing : Timely p (λ e vs. (c t : ℕ) → Every (λ v. c < p.channels v.mode → taken p c t v ≤ made p e c t v) vs)
  -- No buffer ever has more places claimed than its size ..
  pub no_overflow : Timely p (λ e vs. (m c t : ℕ) → c < p.channels m → total_in vs m (claimed p c t) ≤ p.size m c + total_in vs m (given_back p e c t))
  -- .. nor holds more tokens.
  pub no_excess : Timely p (λ e vs. (m c t : ℕ) → c < p.channels m → total_in vs m (made p e c t) ≤ p.size m c + total_in vs m (taken p c t))
  -- No processor is ever asked for more than its limit: its whole time.
  pub no_overload : EveryRun p (λ s. (proc t : ℕ) → AtMost (asked p proc t (visits s)) (limit_of proc))
  -- A mode that has ended leaves its buffers empty: no token is in them, and no place is claimed.
  pub left_empty : Timely p (λ e vs. (m c t : ℕ) → c < p.channels m → open_in p vs m t ≡ 0
      → (total_in vs m (made p e c t) ≡ total_in vs m (taken p c t)) × (total_in vs m (claimed p c t) ≡ total_in vs m (given_back p e c t)))
  -- Once a change has ended, so has every mode but the one that runs.
  pub others_ended : EveryRun p (λ s. (m t : ℕ) → m ≢ s.now.mode → s.now.ended ≤ t → open_in p (visits s) m t ≡ 0)
  -- Firings can end within their periods: in every run they do if each ends as it begins, and if each ends as its period does. So what is said here of
  -- ends within the periods holds of these two (holds_of_ends of proofs/Demand.antt).
  pub can_end : EveryRun p (λ s. Every (InPeriod p (earliest p)) (visits s) × Every (InPeriod p (latest p)) (visits s))

-- How visits and firings stand to each other, whenever firings end. i and t are any actor and tick.
pub record OrderlyRuns (p : RunPlan) : Type 0 where
  -- At any tick at most two visits are under way, and at most one of each mode: visits of one mode never overlap.
  pub two_visits : EveryRun p (λ s. (t : ℕ) → total (visits s) (λ v. cond (is_open p t v) 1 0) ≤ 2)
  pub apart : EveryRun p (λ s. (m t : ℕ) → open_in p (visits s) m t ≤ 1)
  -- Only a visit that is under way has firings under way, so at most two visits load a tick.
  pub none_elsewhere : EveryRun p (λ s. (t : ℕ) → Every (λ v. (i n : ℕ) → Acts p v.mode i → T (under_way p v i t n) → T (is_open p t v)) (visits s))
  -- An actor has at most one firing under way, over all visits.
  pub one_firing : (i t : ℕ) → i < p.actors → EveryRun p (λ s. total (visits s) (busy p i t) ≤ 1)
  -- An accepted request cancels no firing that has begun before its tick: it is still one of the visit's when that is left.
  pub none_cancelled : (m : Machine) (r : Request) (i n : ℕ) → refusal p m r ≡ None → begins p (visit m stays) i n < r.tick
      → T (fires p (visit m (leaves (leaving p m r))) i n)
