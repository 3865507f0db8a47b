-- What the rows of a table ensure of it in memory: document 01's ranges, and what refusals 3 to 5 leave.
use Rattle.std.specs.Prelude.{◌≡◌, List, ℕ, ◌^◌, ◌≤◌, ◌<◌, length, get_or}
use Rattle.numbers.specs.Bits.{Has}
use Rattle.units.specs.Limits.{MODES, ACTORS, CHANNELS, PHASES, MOST_WCET, MOST_RATE, PROCESSORS}
use Rattle.tables.specs.declared.Actor.{Actor}
use Rattle.tables.specs.declared.Channel.{Channel}
use Rattle.tables.specs.Shape.{Mode, Table, no_actor, empty_channel, actor_at, channel_at, mode_at}

-- an actor in its ranges
pub record ProperActor (a : Actor) : Type 0 where
  pub some_phase : 1 ≤ a.phases
  pub phases : a.phases ≤ PHASES
  pub some_tick : 1 ≤ a.wcet.0
  pub wcet : a.wcet.0 ≤ MOST_WCET.0
  pub some_processor : 1 ≤ a.processor
  pub processor : a.processor ≤ PROCESSORS

-- a rate for each phase, not all of them 0, and 0 behind the last
pub record ProperRates (phases : ℕ) (rates : List ℕ) : Type 0 where
  pub long : length rates ≡ PHASES
  pub small : (k : ℕ) → get_or rates k 0 ≤ MOST_RATE.0
  pub behind : (k : ℕ) → phases ≤ k → get_or rates k 0 ≡ 0
  pub some : (k : ℕ) × (0 < get_or rates k 0)

-- a channel between two active actors
pub record ProperChannel (m : Mode) (c : Channel) : Type 0 where
  pub from : c.from < ACTORS
  pub to : c.to < ACTORS
  pub from_active : Has m.active c.from
  pub to_active : Has m.active c.to
  pub production : ProperRates (actor_at m c.from).phases c.production
  pub consumption : ProperRates (actor_at m c.to).phases c.consumption

-- what is not listed is empty
pub record ProperMode (m : Mode) : Type 0 where
  pub active : m.active < 2 ^ ACTORS
  pub actors_long : length m.actors ≡ ACTORS
  pub channels_long : length m.channels ≡ CHANNELS
  pub actor : (i : ℕ) → i < ACTORS → Has m.active i → ProperActor (actor_at m i)
  pub no_actor_law : (i : ℕ) → i < ACTORS → (Has m.active i → ⊥) → actor_at m i ≡ no_actor
  pub count : m.count ≤ CHANNELS
  pub channel : (k : ℕ) → k < m.count → ProperChannel m (channel_at m k)
  pub no_channel_law : (k : ℕ) → k < CHANNELS → m.count ≤ k → channel_at m k ≡ empty_channel

-- an actor has one processor in all modes, and some mode has an actor
pub record ProperTable (t : Table) : Type 0 where
  pub modes_long : length t.modes ≡ MODES
  pub mode : (m : ℕ) → m < MODES → ProperMode (mode_at t m)
  pub home : (m n i : ℕ) → m < MODES → n < MODES → i < ACTORS → Has (mode_at t m).active i → Has (mode_at t n).active i
      → (actor_at (mode_at t m) i).processor ≡ (actor_at (mode_at t n) i).processor
  pub some : (m i : ℕ) × (m < MODES) × (i < ACTORS) × Has (mode_at t m).active i
