-- What is scheduled of a mode: refusal 10 with its actor, or the starts, the sizes of the buffers and the tokens of an iteration.
use Rattle.std.specs.Prelude.{◌≡◌, cond, List, ℕ, ◌≤◌, ◌<◌, ltb, length, get_or, take, Result, Ok, Err}
use Rattle.numbers.specs.Extreme.{Least}
use Rattle.numbers.specs.Tab.{tab}
use Rattle.units.specs.Limits.{CHANNELS}
use Rattle.units.specs.declared.Tick.{Tick}
use Rattle.units.specs.declared.Firing.{Firing}
use Rattle.units.specs.declared.Token.{Token}
use Rattle.units.specs.Ticks.{tick}
use Rattle.units.specs.Tokens.{token}
use Rattle.units.specs.Firings.{firing}
use Rattle.rate.specs.Rate.{tokens_of}
use Rattle.tables.specs.Shape.{Mode, actor_at, channel_at}
use Rattle.graph.specs.declared.Judgement.{Judgement}
use Rattle.graph.specs.Judged.{of_actors}
use Rattle.channel.specs.Flow.{IsSize}
use Rattle.schedule.specs.declared.Late.{Late as Lateness}
use Rattle.schedule.specs.declared.Timetable.{Timetable}
use Rattle.schedule.specs.Starts.{producer_of, consumer_of, Starts, startup_of, Late}

-- for each place what f gives to a channel of the mode, and z where there is none
abbrev pub of_channels : {A : Type 0} → Mode → (ℕ → A) → A → List A
of_channels m f z = tab CHANNELS (λ k. cond (ltb k m.count) (f k) z)

-- the tokens of channel k in an iteration: what its producer's firings make
abbrev pub tokens_on : Mode → List Firing → ℕ → Token
tokens_on m qs k = tokens_of (take (actor_at m (channel_at m k).from).phases (channel_at m k).production) (get_or qs (channel_at m k).from (firing 0))

-- v is the size of channel k's buffer
abbrev pub SizeOn : Mode → List Tick → (ℕ → Tick) → ℕ → Token → Type 0
SizeOn m ps s k v = IsSize (producer_of m ps k) (s (channel_at m k).from) (consumer_of m ps k) (s (channel_at m k).to) v

-- the size of each channel's buffer; 0 where there is no channel
pub record Sizes (m : Mode) (ps : List Tick) (s : ℕ → Tick) (sizes : List Token) : Type 0 where
  pub long : length sizes ≡ CHANNELS
  pub size : (k : ℕ) → k < m.count → SizeOn m ps s k (get_or sizes k (token 0))
  pub no_size : (k : ℕ) → k < CHANNELS → m.count ≤ k → get_or sizes k (token 0) ≡ token 0

-- the numbers of a mode that is not refused, where s gives its starts; 0 for an actor that is not active
pub record Times (m : Mode) (j : Judgement) (s : ℕ → Tick) (r : Timetable) : Type 0 where
  pub startup : r.startup ≡ startup_of s j.sink
  pub starts : r.starts ≡ of_actors m s (tick 0)
  pub sizes : Sizes m j.periods s r.sizes
  pub tokens : r.tokens ≡ of_channels m (tokens_on m j.firings) (token 0)

-- that actor a is late
abbrev pub late_by : ℕ → Lateness
late_by a = record { actor = a }

-- refused with the lowest actor that starts later than the sink; or none does
pub data Scheduled (m : Mode) (j : Judgement) : Result Timetable Lateness → Type 0 where
  late : {a : ℕ} (s : ℕ → Tick) → Starts m j.periods s → Least (Late m s j.sink) a → Scheduled m j (Err (late_by a))
  on_time : {r : Timetable} (s : ℕ → Tick) → Starts m j.periods s → ((i : ℕ) → Late m s j.sink i → ⊥) → Times m j s r → Scheduled m j (Ok r)
