-- The running machine: requests, refusals, and the visits of a run.
use Rattle.std.specs.Prelude.{Option, Some, None, is_none, ℕ, ◌+◌, ◌-◌, ◌*◌, max, not, ◌||◌, cond, List, [], ◌∷◌, ltb, eqb}
use Rattle.numbers.specs.Quotient.{rounded_of}
use Rattle.units.specs.Limits.{CLOCK_LIMIT}
use Rattle.terms.specs.declared.refusal.Reason.{Reason}
use Rattle.terms.specs.declared.refusal.Reason.TheVariants.{NoMode, SameMode, PastClock, Unended, NoMachine}
use Rattle.run.specs.Plan.{RunPlan, sink_start}

-- a mode, its starting tick, and the tick at which its change ends
pub record Machine : Type 0 where
  pub mode : ℕ
  pub started : ℕ
  pub ended : ℕ

-- the mode asked for, and the tick of asking
pub record Request : Type 0 where
  pub mode : ℕ
  pub tick : ℕ

-- why a request is refused; none where it is accepted
unfoldable pub refusal : RunPlan → Machine → Request → Option Reason
refusal p m r =
    cond (not (p.listed m.mode) || ltb m.ended m.started) (Some NoMachine)
    (cond (not (p.listed r.mode)) (Some NoMode)
    (cond (eqb r.mode m.mode) (Some SameMode)
    (cond (ltb CLOCK_LIMIT.0 r.tick) (Some PastClock)
    (cond (ltb r.tick m.ended) (Some Unended) None))))

-- F: the old mode is left after whole iterations, (t - s) / H rounded up
abbrev pub leaving : RunPlan → Machine → Request → ℕ
leaving p m r = m.started + p.iteration m.mode * rounded_of (r.tick - m.started) (p.iteration m.mode)

-- the machine after an accepted request: the new mode starts at F + d, and the change has ended when both start-ups have
abbrev pub changed : RunPlan → Machine → Request → Machine
changed p m r = record {
  mode = r.mode;
  started = leaving p m r + p.offset m.mode r.mode;
  ended = max (leaving p m r + p.startup m.mode) (leaving p m r + p.offset m.mode r.mode + p.startup r.mode);
}

-- the delay of an accepted request: F + d + the sink's start in the new mode - t
abbrev pub delay : RunPlan → Machine → Request → ℕ
delay p m r = leaving p m r + p.offset m.mode r.mode + sink_start p r.mode - r.tick

-- the worst delay of a change from mode o to mode l
abbrev pub worst : RunPlan → ℕ → ℕ → ℕ
worst p o l = p.offset o l + sink_start p l + p.iteration o - 1

-- A visit is one stay in a mode: the tick at which it starts and, once a request has ended it, F.
pub data Leave : Type 0 where
  stays : Leave
  leaves : ℕ → Leave

pub record Visit : Type 0 where
  pub mode : ℕ
  pub start : ℕ
  pub leave : Leave

abbrev pub visit : Machine → Leave → Visit
visit m l = record { mode = m.mode; start = m.started; leave = l }

-- A run up to now: the machine, and the visits that were left, the latest first.
pub record Run : Type 0 where
  pub now : Machine
  pub past : List Visit

abbrev pub visits : Run → List Visit
visits s = visit s.now stays ∷ s.past

-- a machine begins at tick 0, and its first change counts as ended at the end of the start-up
abbrev pub begin : RunPlan → ℕ → Run
begin p m = record { now = record { mode = m; started = 0; ended = p.startup m }; past = [] }

-- a request is answered: a refused one changes nothing
unfoldable pub answer : RunPlan → Run → Request → Run
answer p s r =
    cond (is_none (refusal p s.now r))
    (record { now = changed p s.now r; past = visit s.now (leaves (leaving p s.now r)) ∷ s.past })
    s

-- a list of requests, answered one after the other
unfoldable pub run : RunPlan → Run → List Request → Run
run p s [] = s
run p s (r ∷ rs) = run p (answer p s r) rs
