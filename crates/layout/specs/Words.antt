-- The words of a plan: what stands in the buffer, block by block. Each word is the plain number of ticks, firings or tokens.
use Rattle.std.specs.Prelude.{List, [], ◌∷◌, ◌++◌, ℕ, ◌+◌, ◌*◌, get_or}
use Rattle.numbers.specs.Joined.{joined}
use Rattle.units.specs.declared.Token.{Token}
use Rattle.units.specs.Ticks.{tick}
use Rattle.units.specs.Tokens.{token}
use Rattle.units.specs.Limits.{MODES, CHANNELS}
use Rattle.units.specs.Firings.{firing}
use Rattle.tables.specs.declared.Channel.{Channel}
use Rattle.tables.specs.declared.memory.Head.{Head}
use Rattle.tables.specs.declared.memory.Times.{Times}
use Rattle.tables.specs.Shape.{Mode, Table, actor_at, channel_at, mode_at}
use Rattle.tables.specs.Memory.{FRONT_WORDS, CHANNEL_BYTES, front_words, channel_bytes, head_of}
use Rattle.change.specs.declared.Timing.{Timing}
use Rattle.planning.specs.declared.ModePlan.{ModePlan}
use Rattle.planning.specs.Shape.{Plan}
use Rattle.planning.specs.Nothing.{no_timing}
use Rattle.planning.specs.Plan.{part_at}

-- the number of ordered pairs of modes
abbrev pub CHANGES : ℕ
CHANGES = MODES * MODES

-- how many words a channel, a mode and a change have, and how many the buffer has
abbrev pub CHANNEL_WORDS : ℕ
CHANNEL_WORDS = CHANNEL_BYTES + 2

abbrev pub MODE_WORDS : ℕ
MODE_WORDS = FRONT_WORDS + CHANNEL_WORDS * CHANNELS

abbrev pub CHANGE_WORDS : ℕ
CHANGE_WORDS = 3

abbrev pub WORDS : ℕ
WORDS = MODE_WORDS * MODES + CHANGE_WORDS * CHANGES

-- what is planned of a mode's own numbers, and of actor i
abbrev pub head_with : Head → ModePlan → Head
head_with h p = record { active = h.active; count = h.count; iteration = p.iteration; source = p.source; sink = p.sink }

abbrev pub times_at : ModePlan → ℕ → Times
times_at p i = record { firings = get_or p.firings i (firing 0); period = get_or p.periods i (tick 0); start = get_or p.starts i (tick 0) }

-- the front of a mode with what is planned of it
abbrev pub planned_front : Mode → ModePlan → List ℕ
planned_front m p = front_words (head_with (head_of m) p) (actor_at m) (times_at p)

-- a channel: the places of its actors and their rates, its size, and the tokens that it carries in an iteration
abbrev pub channel_words : Channel → Token → Token → List ℕ
channel_words c size tokens = channel_bytes c ++ (size.0 ∷ tokens.0 ∷ [])

abbrev pub channel_words_at : Mode → ModePlan → ℕ → List ℕ
channel_words_at m p k = channel_words (channel_at m k) (get_or p.sizes k (token 0)) (get_or p.tokens k (token 0))

-- a mode: its front, then its channels
unfoldable pub mode_words : Mode → ModePlan → List ℕ
mode_words m p = planned_front m p ++ joined CHANNELS (channel_words_at m p)

-- a change: overlap, offset, worst delay
abbrev pub change_words : Timing → List ℕ
change_words t = t.overlap.0 ∷ t.offset.0 ∷ t.worst.0 ∷ []

-- mode m of a plan, and the change at place k; all modes, and all changes
abbrev pub mode_words_at : Table → Plan → ℕ → List ℕ
mode_words_at t w m = mode_words (mode_at t m) (part_at w m)

abbrev pub change_words_at : List Timing → ℕ → List ℕ
change_words_at cs k = change_words (get_or cs k no_timing)

abbrev pub modes_words : Table → Plan → List ℕ
modes_words t w = joined MODES (mode_words_at t w)

abbrev pub changes_words : List Timing → List ℕ
changes_words cs = joined CHANGES (change_words_at cs)

-- all words of the plan of a table
unfoldable pub words_of : Table → Plan → List ℕ
words_of t w = modes_words t w ++ changes_words w.changes
