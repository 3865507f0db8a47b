-- A mode as it runs, the front that holds it, and when it is ready for changes.
use Rattle.std.specs.Prelude.{◌≡◌, List, [], ℕ, ◌*◌, ◌≤◌, ◌<◌, length}
use Rattle.numbers.specs.Bits.{Has}
use Rattle.numbers.specs.Tab.{tab}
use Rattle.units.specs.Bounds.{MOST_FIRINGS, MOST_START}
use Rattle.units.specs.Limits.{ACTORS, ITERATION_LIMIT, MOST_WCET, limit_of}
use Rattle.units.specs.declared.Firing.{Firing}
use Rattle.units.specs.declared.Tick.{Tick}
use Rattle.tables.specs.declared.Actor.{Actor}
use Rattle.tables.specs.Shape.{no_actor, actor_at, Active}
use Rattle.tables.specs.Proper.{ProperActor}
use Rattle.tables.specs.Memory.{FRONT_WORDS, head_in, actor_in, times_in}
use Rattle.change.specs.Change.{ModeTimes, period_in, start_of, Bearable}
use Rattle.change.specs.declared.Prepared.{Prepared}
use Rattle.change.specs.declared.Works.{Works}
use Rattle.change.specs.Work.{actor_of, firings_at, works_at}

-- A mode as it runs: its active actors, their firings, periods and starts, its iteration, the tick set for the sink's first firing, and the tick at which its start-up ends;
-- and of each actor the works on its processor.
pub record Running : Type 0 where
  pub active : ℕ
  pub actors : List Actor
  pub iteration : Tick
  pub firings : List Firing
  pub periods : List Tick
  pub starts : List Tick
  pub sink_start : Tick
  pub startup : Tick
  pub works : List Works

-- its actors and firings are within their ranges, and one without a processor has no wcet
pub record Fitting (r : Running) : Type 0 where
  pub wcet : (i : ℕ) → i < ACTORS → (actor_of r.actors i).wcet.0 ≤ MOST_WCET.0
  pub few : (i : ℕ) → i < ACTORS → (firings_at r.firings i).0 ≤ MOST_FIRINGS.0
  pub nowhere : (i : ℕ) → i < ACTORS → (actor_of r.actors i).processor ≡ 0 → (actor_of r.actors i).wcet.0 ≡ 0

-- a mode with these numbers, as it runs
abbrev pub prepared_of : ℕ → List Actor → Tick → List Firing → List Tick → List Tick → Tick → Tick → Running
prepared_of active actors iteration firings periods starts sink_start startup =
    record {
      active = active;
      actors = actors;
      iteration = iteration;
      firings = firings;
      periods = periods;
      starts = starts;
      sink_start = sink_start;
      startup = startup;
      works = tab ACTORS (works_at actors firings starts);
    }

-- the start-up of the mode that a front holds ends with the start of its sink
abbrev pub startup_in : List ℕ → Tick
startup_in f = (times_in f (head_in f).sink).start

-- the mode that a front holds, as it runs
abbrev pub running_in : List ℕ → Running
running_in f =
    prepared_of (head_in f).active (tab ACTORS (actor_in f)) (head_in f).iteration (tab ACTORS (λ i. (times_in f i).firings)) (tab ACTORS (λ i. (times_in f i).period)) (tab ACTORS (λ i. (times_in f i).start))
    (times_in f (head_in f).sink).start (startup_in f)

-- the mode and what is planned of it; no rule of a change asks for its channels
abbrev pub mode_times : Running → ModeTimes
mode_times r =
    record {
      mode = record { active = r.active; count = 0; actors = r.actors; channels = [] };
      iteration = r.iteration;
      periods = r.periods;
      starts = r.starts;
      sink_start = r.sink_start;
      startup = r.startup;
    }

-- A mode that is planned: its actors in their ranges, their firings and periods fill the iteration, none starts after the end of the start-up,
-- no processor is asked for more than the limit, and its works are summed.
pub record Ready (r : Running) : Type 0 where
  pub actor : (i : ℕ) → Active (mode_times r).mode i → ProperActor (actor_at (mode_times r).mode i)
  pub no_actor_law : (i : ℕ) → i < ACTORS → (Has r.active i → ⊥) → actor_at (mode_times r).mode i ≡ no_actor
  pub period : (i : ℕ) → Active (mode_times r).mode i → 0 < (period_in (mode_times r) i).0
  pub whole : (i : ℕ) → Active (mode_times r).mode i → (firings_at r.firings i).0 * (period_in (mode_times r) i).0 ≡ r.iteration.0
  pub start : (i : ℕ) → i < ACTORS → start_of (mode_times r) i ≤ r.startup.0
  pub sink_start_law : r.sink_start.0 ≤ MOST_START.0
  pub startup : r.startup.0 ≤ MOST_START.0
  pub some_tick : 0 < r.iteration.0
  pub iteration : r.iteration.0 ≤ ITERATION_LIMIT.0
  pub load : Bearable limit_of (mode_times r)
  pub works : r.works ≡ tab ACTORS (works_at r.actors r.firings r.starts)

-- a front that holds such a mode, with its works
pub record ReadyFront (p : Prepared) : Type 0 where
  pub long : length p.front.now ≡ FRONT_WORDS
  pub sink : (head_in p.front.now).sink < ACTORS
  pub ready : Ready (running_in p.front.now)
  pub works : p.works.now ≡ (running_in p.front.now).works
