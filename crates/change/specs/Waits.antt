-- Model of wait.rt: how long a new mode waits for an old one.
use Rattle.std.specs.Prelude.{cond, ℕ, ◌-◌, ◌≤◌, ◌<◌, eqb, get_or}
use Rattle.std.specs.Int.Bits.{bit_and}
use Rattle.numbers.specs.Bits.{hasb}
use Rattle.numbers.specs.Extreme.{most_of}
use Rattle.numbers.specs.Fraction.{plus, at_mostb}
use Rattle.numbers.specs.declared.fraction.Fraction.{Fraction}
use Rattle.units.specs.Limits.{ACTORS, ITERATION_LIMIT}
use Rattle.units.specs.Ticks.{tick, minus_ticks, greater_tick}
use Rattle.units.specs.declared.Tick.{Tick}
use Rattle.period.specs.Period.{share_of}
use Rattle.change.specs.declared.wait.Side.{Side}
use Rattle.change.specs.Change.{start_of}
use Rattle.change.specs.Work.{actor_of, tick_at, no_works}
use Rattle.change.specs.Running.{Running, mode_times}

-- a part of an iteration
pub record Part (a : Fraction) : Type 0 where
  pub some : 0 < a.under
  pub part : a.over ≤ a.under
  pub whole : a.under ≤ ITERATION_LIMIT.0

abbrev pub lead_of : Running → Running → ℕ → ℕ
lead_of old new i = cond (hasb (bit_and old.active new.active) i) (start_of (mode_times old) i - start_of (mode_times new) i) 0

abbrev pub overlap_of : Running → Running → Tick
overlap_of old new = tick (most_of (lead_of old new) ACTORS)

-- the processor of an actor
abbrev pub processor_at : Running → ℕ → ℕ
processor_at r i = (actor_of r.actors i).processor

-- an old actor with those that start no earlier, and a new one with those that start no later
abbrev pub old_side : Running → ℕ → Side
old_side r i = record { start = tick_at r.starts i; asked = share_of (get_or r.works i no_works).since r.iteration }

abbrev pub new_side : Running → ℕ → Side
new_side r j = record { start = tick_at r.starts j; asked = share_of (get_or r.works j no_works).until r.iteration }

-- how long a new actor waits for an old one on its processor, which has this limit
abbrev pub wait_of : Fraction → Side → Side → Tick
wait_of limit a b = cond (at_mostb (plus a.asked b.asked) limit) (tick 0) (minus_ticks a.start b.start)

-- how long new actor j waits for an old one on processor p; the longest that a new actor does
abbrev pub wait_on : (ℕ → Fraction) → ℕ → Side → Running → ℕ → ℕ
wait_on limit p a new j = cond (eqb (processor_at new j) p) (wait_of (limit p) a (new_side new j)).0 0

abbrev pub waits_on : (ℕ → Fraction) → ℕ → Side → Running → ℕ
waits_on limit p a new = most_of (wait_on limit p a new) ACTORS

-- the longest that a new actor waits for old actor i; the longest for any of them
abbrev pub waits_for : (ℕ → Fraction) → Running → Running → ℕ → ℕ
waits_for limit old new i = waits_on limit (processor_at old i) (old_side old i) new

abbrev pub longest_wait : (ℕ → Fraction) → Running → Running → Tick
longest_wait limit old new = tick (most_of (waits_for limit old new) ACTORS)

-- how long the new mode waits, and at least so long
abbrev pub offset_from : (ℕ → Fraction) → Running → Running → Tick → Tick
offset_from limit old new least = greater_tick least (longest_wait limit old new)
