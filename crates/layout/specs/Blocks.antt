-- Single blocks of the words, by themselves.
use Rattle.std.specs.Prelude.{◌≡◌, cond, Option, Some, None, List, [], ◌∷◌, ◌++◌, ℕ, ◌+◌, ◌*◌, ◌%◌, ◌≤◌, ◌<◌, eqb, get_or, replicate}
use Rattle.numbers.specs.Joined.{joined, part}
use Rattle.numbers.specs.Tab.{stretch_of}
use Rattle.units.specs.Limits.{CHANNELS}
use Rattle.units.specs.Ticks.{tick}
use Rattle.units.specs.Tokens.{token}
use Rattle.tables.specs.Shape.{Mode, channel_at, empty_channel}
use Rattle.tables.specs.Memory.{ACTOR_WORDS, CHANNEL_BYTES, actor_words, actor_of, head_in, times_in}
use Rattle.change.specs.declared.Timing.{Timing}
use Rattle.planning.specs.declared.ModePlan.{ModePlan}
use Rattle.layout.specs.declared.load.Link.{Link}
use Rattle.layout.specs.declared.load.Pace.{Pace}
use Rattle.layout.specs.Words.{CHANNEL_WORDS, times_at}

-- the words of actor i, of those of all actors, with what is planned of it
abbrev pub timed_actor : List ℕ → ModePlan → ℕ → List ℕ
timed_actor l p i = actor_words (actor_of (part ACTOR_WORDS i l)) (times_at p i)

-- what is planned of channels, two words each: the size, and the tokens of an iteration
abbrev pub CARRIED_WORDS : ℕ
CARRIED_WORDS = 2 * CHANNELS

abbrev pub carried_at : ModePlan → ℕ → List ℕ
carried_at p k = (get_or p.sizes k (token 0)).0 ∷ (get_or p.tokens k (token 0)).0 ∷ []

abbrev pub carried_words : ModePlan → List ℕ
carried_words p = joined CHANNELS (carried_at p)

-- the words of a mode, from its front, its channels and what is planned of these
abbrev pub channel_laid : List ℕ → List ℕ → ℕ → List ℕ
channel_laid channels carried k = stretch_of (CHANNEL_BYTES * k) CHANNEL_BYTES channels ++ stretch_of (2 * k) 2 carried

abbrev pub mode_laid : List ℕ → List ℕ → List ℕ → List ℕ
mode_laid front channels carried = front ++ joined CHANNELS (channel_laid channels carried)

-- nothing but 0 is laid behind the last channel
pub record Closed (front channels carried : List ℕ) : Type 0 where
  pub count : (head_in front).count ≤ CHANNELS
  pub none : (k : ℕ) → k < CHANNELS → (head_in front).count ≤ k → channel_laid channels carried k ≡ replicate CHANNEL_WORDS 0

-- behind the last channel of a mode there is none, and nothing is planned
pub record Ended (m : Mode) (p : ModePlan) : Type 0 where
  pub count : m.count ≤ CHANNELS
  pub no_channel_law : (k : ℕ) → k < CHANNELS → m.count ≤ k → channel_at m k ≡ empty_channel
  pub none_carried : (k : ℕ) → k < CHANNELS → m.count ≤ k → carried_at p k ≡ 0 ∷ 0 ∷ []

-- what the words of a channel say of it as it is planned; a place that is too large for a byte is cut
abbrev pub link_of : List ℕ → Link
link_of l = record { from = get_or l 0 0 % 256; to = get_or l 1 0 % 256; size = token (get_or l CHANNEL_BYTES 0); tokens = token (get_or l (CHANNEL_BYTES + 1) 0) }

-- what the words of a change say of it
abbrev pub timing_of : List ℕ → Timing
timing_of l = record { overlap = tick (get_or l 0 0); offset = tick (get_or l 1 0); worst = tick (get_or l 2 0) }

-- what the words of a mode say of its pace, where they list one
abbrev pub pace_of : List ℕ → Option Pace
pace_of l = cond (eqb (get_or l 0 0) 0) None (Some (record { iteration = tick (get_or l 2 0); sink_start = (times_in l (get_or l 4 0)).start }))
