-- The modes of a table as they are kept for changes, and the changes between all pairs of them.
use Rattle.std.specs.Prelude.{◌≡◌, List, [], ℕ, ◌*◌, ◌/◌, ◌%◌, ◌<◌, length, get_or}
use Rattle.numbers.specs.Filled.{Filled}
use Rattle.units.specs.Ticks.{tick}
use Rattle.units.specs.Limits.{MODES}
use Rattle.tables.specs.Shape.{Mode}
use Rattle.change.specs.declared.Timing.{Timing}
use Rattle.change.specs.Change.{Changes}
use Rattle.change.specs.Running.{Running, prepared_of, mode_times, Ready}
use Rattle.planning.specs.declared.ModePlan.{ModePlan}
use Rattle.planning.specs.Nothing.{no_timing}

-- a planned mode as it is kept to run
abbrev pub running_of : Mode → ModePlan → Running
running_of m p = prepared_of m.active m.actors p.iteration p.firings p.periods p.starts (get_or p.starts p.sink (tick 0)) p.startup

-- past the end of the modes that run
abbrev pub no_running : Running
no_running =
    record {
      active = 0;
      actors = [];
      iteration = tick 0;
      firings = [];
      periods = [];
      starts = [];
      sink_start = tick 0;
      startup = tick 0;
      works = [];
    }

-- the mode at place k of those that run
abbrev pub running_at : List Running → ℕ → Running
running_at rs k = get_or rs k no_running

-- those that have an actor are ready
pub record AllReady (rs : List Running) : Type 0 where
  pub long : length rs ≡ MODES
  pub ready : (k : ℕ) → k < MODES → ((running_at rs k).active ≡ 0 → ⊥) → Ready (running_at rs k)

-- the change from one running mode at place k to another at place l, where both have an actor; or none
abbrev pub Between : Running → Running → ℕ → ℕ → Timing → Type 0
Between old new k l c =
    ((old.active ≡ 0 → ⊥) → (new.active ≡ 0 → ⊥) → (k ≡ l → ⊥) → Changes (mode_times old) (mode_times new) c)
    × (((old.active ≡ 0 → ⊥) × (new.active ≡ 0 → ⊥) × (k ≡ l → ⊥) → ⊥) → c ≡ no_timing)

-- at place n of all pairs
abbrev pub ChangeOf : List Running → ℕ → Timing → Type 0
ChangeOf rs n c = Between (running_at rs (n / MODES)) (running_at rs (n % MODES)) (n / MODES) (n % MODES) c

-- the changes at the places below n are found
abbrev pub FoundChanges : List Running → List Timing → ℕ → Type 0
FoundChanges rs cs n = Filled (MODES * MODES) (ChangeOf rs) no_timing no_timing cs n
