-- A mode in memory: words that hold its own numbers and its actors, its front, with room for what is planned of them; and bytes that hold its channels.
use Rattle.std.specs.Prelude.{◌≡◌, List, [], ◌∷◌, ◌++◌, ℕ, ◌+◌, ◌*◌, ◌%◌, ◌^◌, length, get_or}
use Rattle.numbers.specs.Bits.{adding}
use Rattle.numbers.specs.Joined.{joined, part}
use Rattle.numbers.specs.Tab.{tab}
use Rattle.units.specs.Limits.{MODES, ACTORS, CHANNELS, PHASES}
use Rattle.units.specs.Firings.{firing}
use Rattle.units.specs.Ticks.{tick}
use Rattle.tables.specs.declared.Actor.{Actor}
use Rattle.tables.specs.declared.Channel.{Channel}
use Rattle.tables.specs.declared.memory.Head.{Head}
use Rattle.tables.specs.declared.memory.Times.{Times}
use Rattle.tables.specs.Shape.{Mode, Table, actor_at, channel_at, mode_at}
use Rattle.tables.specs.Proper.{ProperMode}

-- how many words a mode's own numbers, an actor and a front have, and how many bytes a channel and all channels
abbrev pub HEAD_WORDS : ℕ
HEAD_WORDS = 5

abbrev pub ACTOR_WORDS : ℕ
ACTOR_WORDS = 6

abbrev pub FRONT_WORDS : ℕ
FRONT_WORDS = HEAD_WORDS + ACTOR_WORDS * ACTORS

abbrev pub CHANNEL_BYTES : ℕ
CHANNEL_BYTES = 2 + 2 * PHASES

abbrev pub CHANNELS_BYTES : ℕ
CHANNELS_BYTES = CHANNEL_BYTES * CHANNELS

-- and how many the fronts and the channels of a table
abbrev pub TABLE_WORDS : ℕ
TABLE_WORDS = FRONT_WORDS * MODES

abbrev pub TABLE_BYTES : ℕ
TABLE_BYTES = CHANNELS_BYTES * MODES

-- a mode's own numbers: its active actors, the number of its channels, its iteration, and the places of its source and its sink
abbrev pub head_words : Head → List ℕ
head_words h = h.active ∷ h.count ∷ h.iteration.0 ∷ h.source ∷ h.sink ∷ []

-- an actor: phases, wcet, processor; and what is planned of it: firings in an iteration, period, start
abbrev pub actor_words : Actor → Times → List ℕ
actor_words a t = a.phases ∷ a.wcet.0 ∷ a.processor ∷ t.firings.0 ∷ t.period.0 ∷ t.start.0 ∷ []

abbrev pub front_words : Head → (ℕ → Actor) → (ℕ → Times) → List ℕ
front_words h actor times = head_words h ++ joined ACTORS (λ i. actor_words (actor i) (times i))

-- a rate for each phase
abbrev pub rate_words : List ℕ → List ℕ
rate_words rates = tab PHASES (λ k. get_or rates k 0)

-- a channel: the places of its producer and its consumer, and their rates
abbrev pub channel_bytes : Channel → List ℕ
channel_bytes c = c.from ∷ c.to ∷ (rate_words c.production ++ rate_words c.consumption)

abbrev pub channels_bytes : (ℕ → Channel) → List ℕ
channels_bytes channel = joined CHANNELS (λ k. channel_bytes (channel k))

-- what the words of a front hold
abbrev pub head_in : List ℕ → Head
head_in f = record { active = get_or f 0 0 % 2 ^ ACTORS; count = get_or f 1 0; iteration = tick (get_or f 2 0); source = get_or f 3 0; sink = get_or f 4 0 }

-- where the words of actor i begin
abbrev pub actors_at : ℕ → ℕ
actors_at i = HEAD_WORDS + ACTOR_WORDS * i

abbrev pub actor_in : List ℕ → ℕ → Actor
actor_in f i = record { phases = get_or f (actors_at i) 0; wcet = tick (get_or f (actors_at i + 1) 0); processor = get_or f (actors_at i + 2) 0 }

abbrev pub times_in : List ℕ → ℕ → Times
times_in f i = record { firings = firing (get_or f (actors_at i + 3) 0); period = tick (get_or f (actors_at i + 4) 0); start = tick (get_or f (actors_at i + 5) 0) }

-- an actor, and what is planned of it, by its own words
abbrev pub actor_of : List ℕ → Actor
actor_of l = record { phases = get_or l 0 0; wcet = tick (get_or l 1 0); processor = get_or l 2 0 }

abbrev pub times_of : List ℕ → Times
times_of l = record { firings = firing (get_or l 3 0); period = tick (get_or l 4 0); start = tick (get_or l 5 0) }

-- what the bytes of channels hold
abbrev pub channels_at : ℕ → ℕ
channels_at k = CHANNEL_BYTES * k

abbrev pub channel_in : List ℕ → ℕ → Channel
channel_in l k =
    record {
      from = get_or l (channels_at k) 0;
      to = get_or l (channels_at k + 1) 0;
      production = tab PHASES (λ j. get_or l (channels_at k + (2 + j)) 0);
      consumption = tab PHASES (λ j. get_or l (channels_at k + (2 + PHASES + j)) 0);
    }

-- the mode that a front and its channels hold
abbrev pub mode_in : List ℕ → List ℕ → Mode
mode_in f l = record { active = (head_in f).active; count = (head_in f).count; actors = tab ACTORS (actor_in f); channels = tab CHANNELS (channel_in l) }

-- it is one that rows can give
pub record Stands (front channels : List ℕ) : Type 0 where
  pub front_long : length front ≡ FRONT_WORDS
  pub channels_long : length channels ≡ CHANNELS_BYTES
  pub proper : ProperMode (mode_in front channels)

-- the same numbers, with actor i active
abbrev pub with_active : Head → ℕ → Head
with_active h i = record { active = adding h.active i; count = h.count; iteration = h.iteration; source = h.source; sink = h.sink }

-- a mode of which nothing is planned
abbrev pub no_times : Times
no_times = record { firings = firing 0; period = tick 0; start = tick 0 }

abbrev pub head_of : Mode → Head
head_of m = record { active = m.active; count = m.count; iteration = tick 0; source = 0; sink = 0 }

abbrev pub front_of : Mode → List ℕ
front_of m = front_words (head_of m) (actor_at m) (λ i. no_times)

abbrev pub channels_of : Mode → List ℕ
channels_of m = channels_bytes (channel_at m)

-- a table, mode by mode
abbrev pub table_fronts : Table → List ℕ
table_fronts t = joined MODES (λ m. front_of (mode_at t m))

abbrev pub table_channels : Table → List ℕ
table_channels t = joined MODES (λ m. channels_of (mode_at t m))

-- the table that fronts and channels hold, mode by mode
abbrev pub table_in : List ℕ → List ℕ → Table
table_in fronts channels = record { modes = tab MODES (λ m. mode_in (part FRONT_WORDS m fronts) (part CHANNELS_BYTES m channels)) }
