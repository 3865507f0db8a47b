-- The starts of a mode: the table of starts, none below 0, in which no firing ever takes a token not yet there, and in which every start is the least among
-- all such tables.
use Rattle.std.specs.Prelude.{List, ℕ, ◌≤◌, ◌<◌, get_or}
use Rattle.units.specs.declared.Tick.{Tick}
use Rattle.units.specs.Ticks.{tick}
use Rattle.tables.specs.declared.Actor.{Actor}
use Rattle.tables.specs.Shape.{Mode, actor_at, channel_at, Active}
use Rattle.channel.specs.declared.End.{End}
use Rattle.channel.specs.Flow.{Fed}

-- the end of a channel at an actor with period t, which makes or takes so many tokens phase by phase
abbrev pub end_of : Actor → List ℕ → Tick → End
end_of a rates t = record { phases = a.phases; rates = rates; period = t }

-- the end of channel k at its producer, where ps are the periods of the mode's actors
abbrev pub producer_of : Mode → List Tick → ℕ → End
producer_of m ps k = end_of (actor_at m (channel_at m k).from) (channel_at m k).production (get_or ps (channel_at m k).from (tick 0))

-- and at its consumer
abbrev pub consumer_of : Mode → List Tick → ℕ → End
consumer_of m ps k = end_of (actor_at m (channel_at m k).to) (channel_at m k).consumption (get_or ps (channel_at m k).to (tick 0))

-- on channel k no firing ever takes a token not yet there, where actor i starts at s i
abbrev pub FedOn : Mode → List Tick → (ℕ → Tick) → ℕ → Type 0
FedOn m ps s k = Fed (producer_of m ps k) (s (channel_at m k).from) (consumer_of m ps k) (s (channel_at m k).to)

-- and on no channel of the mode
abbrev pub AllFed : Mode → List Tick → (ℕ → Tick) → Type 0
AllFed m ps s = (k : ℕ) → k < m.count → FedOn m ps s k

-- s gives the starts: every one is the least among all such tables, which is 0 where there is no actor
pub record Starts (m : Mode) (ps : List Tick) (s : ℕ → Tick) : Type 0 where
  pub timely : AllFed m ps s
  pub least : (u : ℕ → Tick) → AllFed m ps u → (i : ℕ) → (s i).0 ≤ (u i).0

-- the end of a mode's start-up: the sink's start
abbrev pub startup_of : (ℕ → Tick) → ℕ → Tick
startup_of s sink = s sink

-- Refusal 10: actor i starts later than that.
abbrev pub Late : Mode → (ℕ → Tick) → ℕ → ℕ → Type 0
Late m s sink i = Active m i × ((startup_of s sink).0 < (s i).0)
