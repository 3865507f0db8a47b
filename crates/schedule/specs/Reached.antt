-- Model of starts.rt and sizes.rt: how the starts are found, depth by depth, and at each depth channel by channel.
use Rattle.std.specs.Prelude.{◌≡◌, cond, ltb, List, ℕ, ◌+◌, ◌*◌, ◌≤◌, ◌<◌, length, get_or, Option, Some, None}
use Rattle.numbers.specs.Bits.{Has}
use Rattle.numbers.specs.Extreme.{Least}
use Rattle.units.specs.Bounds.{MOST_WAIT, MOST_START}
use Rattle.units.specs.Limits.{ACTORS, CHANNELS}
use Rattle.units.specs.declared.Tick.{Tick}
use Rattle.units.specs.Ticks.{tick}
use Rattle.units.specs.declared.Firing.{Firing}
use Rattle.units.specs.declared.Token.{Token}
use Rattle.units.specs.Tokens.{token}
use Rattle.tables.specs.Shape.{Mode, channel_at, Active}
use Rattle.tables.specs.Proper.{ProperMode}
use Rattle.channel.specs.Flow.{Fed, Paced}
use Rattle.schedule.specs.Starts.{producer_of, consumer_of, FedOn, AllFed}
use Rattle.schedule.specs.Scheduled.{SizeOn, tokens_on}

-- the start of actor i in a list
abbrev pub start_at : List Tick → ℕ → Tick
start_at l i = get_or l i (tick 0)

-- the depth of channel k's producer
abbrev pub from_depth : Mode → List ℕ → ℕ → ℕ
from_depth m ds k = get_or ds (channel_at m k).from 0

-- and of its consumer
abbrev pub to_depth : Mode → List ℕ → ℕ → ℕ
to_depth m ds k = get_or ds (channel_at m k).to 0

-- s is the least start that channel k asks of its consumer, where its producer starts at p
abbrev pub Asked : Mode → List Tick → ℕ → Tick → Tick → Type 0
Asked m ps k p s = Least (λ n. Fed (producer_of m ps k) p (consumer_of m ps k) (tick n)) s.0

-- a mode whose periods ps and depths ds are as a judgement gives them
pub record Ready (m : Mode) (ps : List Tick) (ds : List ℕ) : Type 0 where
  pub proper : ProperMode m
  pub periods_long : length ps ≡ ACTORS
  pub depths_long : length ds ≡ ACTORS
  pub below : (i : ℕ) → get_or ds i 0 < ACTORS
  pub idle : (i : ℕ) → i < ACTORS → (Active m i → ⊥) → get_or ds i 0 ≡ 0
  pub deeper : (k : ℕ) → k < m.count → from_depth m ds k < to_depth m ds k
  pub paced : (k : ℕ) → k < m.count → Paced (producer_of m ps k) (consumer_of m ps k)

-- Starts that are least for the channels to the actors at depths below d, and for those below k of the channels to the actors at depth d.
pub record Reached (m : Mode) (ps : List Tick) (ds : List ℕ) (d k : ℕ) (l : List Tick) : Type 0 where
  pub long : length l ≡ ACTORS
  pub fed : (n : ℕ) → n < m.count → to_depth m ds n * CHANNELS + n < d * CHANNELS + k → FedOn m ps (start_at l) n
  pub least : (u : ℕ → Tick) → AllFed m ps u → (i : ℕ) → (start_at l i).0 ≤ (u i).0
  pub within : (i : ℕ) → (start_at l i).0 ≤ get_or ds i 0 * MOST_WAIT.0

-- an actor of the set starts later than the tick t
abbrev pub Later : List Tick → ℕ → Tick → ℕ → Type 0
Later l active t i = ((i < ACTORS) × Has active i) × (t.0 < (start_at l i).0)

-- the lowest that does, or none where no actor does
abbrev pub LowestLate : List Tick → ℕ → Tick → Option ℕ → Type 0
LowestLate l active t (Some a) = Later l active t a × ((i : ℕ) → Later l active t i → a ≤ i)
LowestLate l active t None = (i : ℕ) → Later l active t i → ⊥

-- starts by which every channel is fed
pub record Fits (m : Mode) (ps l : List Tick) : Type 0 where
  pub proper : ProperMode m
  pub periods_long : length ps ≡ ACTORS
  pub long : length l ≡ ACTORS
  pub paced : (k : ℕ) → k < m.count → Paced (producer_of m ps k) (consumer_of m ps k)
  pub fed : AllFed m ps (start_at l)
  pub within : (i : ℕ) → (start_at l i).0 ≤ MOST_START.0

-- v is the size of the buffer at place k: 0 where there is no channel
abbrev pub SizeAt : Mode → List Tick → (ℕ → Tick) → ℕ → Token → Type 0
SizeAt m ps s k v = (k < m.count → SizeOn m ps s k v) × (m.count ≤ k → v ≡ token 0)

-- the tokens at place k in an iteration: 0 where there is no channel
abbrev pub tokens_at : Mode → List Firing → ℕ → Token
tokens_at m qs k = cond (ltb k m.count) (tokens_on m qs k) (token 0)
