-- What is printed of a plan, and of a refusal: lines of a word and five numbers, parted by commas and ended by CRLF. Places count from 0 in
-- memory, numbers from 1 in the text.
use Rattle.std.specs.Prelude.{◌≡◌, cond, not, ◌&&◌, List, [], ◌∷◌, ◌++◌, map, ℕ, ◌+◌, ◌*◌, ◌-◌, ◌≤◌, ◌<◌, eqb, length, get_or, replicate}
use Rattle.numbers.specs.Bits.{hasb}
use Rattle.numbers.specs.Digits.{digits}
use Rattle.numbers.specs.Tab.{tab}
use Rattle.units.specs.declared.Firing.{Firing}
use Rattle.units.specs.declared.Tick.{Tick}
use Rattle.units.specs.declared.Token.{Token}
use Rattle.units.specs.Ticks.{tick}
use Rattle.units.specs.Tokens.{token}
use Rattle.units.specs.Bounds.{MOST_FIRINGS, MOST_CARRIED, MOST_START, MOST_DELAY, MOST_SIZE}
use Rattle.units.specs.Limits.{MODES, ACTORS, CHANNELS, ITERATION_LIMIT}
use Rattle.units.specs.Firings.{firing}
use Rattle.terms.specs.Place.{number_of}
use Rattle.terms.specs.Refusal.{printed_of, five}
use Rattle.terms.specs.Text.{bytes}
use Rattle.terms.specs.declared.refusal.Printed.{Printed}
use Rattle.terms.specs.declared.refusal.Refusal.{Refusal}
use Rattle.tables.specs.Shape.{Mode, Table, channel_at, mode_at}
use Rattle.tables.specs.declared.Channel.{Channel}
use Rattle.rfc4180.specs.Decimal.{decimal}
use Rattle.rfc4180.specs.Writing.{joined}
use Rattle.change.specs.declared.Timing.{Timing}
use Rattle.planning.specs.declared.ModePlan.{ModePlan}
use Rattle.planning.specs.Shape.{Plan}
use Rattle.planning.specs.Nothing.{no_timing}
use Rattle.planning.specs.Plan.{part_at}
use Rattle.printer.specs.Texts.{texts}

-- what is planned of an actor at place i and of a channel at place k of a mode
abbrev pub firings_at : ModePlan → ℕ → Firing
firings_at p i = get_or p.firings i (firing 0)

abbrev pub period_at : ModePlan → ℕ → Tick
period_at p i = get_or p.periods i (tick 0)

abbrev pub start_at : ModePlan → ℕ → Tick
start_at p i = get_or p.starts i (tick 0)

abbrev pub size_at : ModePlan → ℕ → Token
size_at p k = get_or p.sizes k (token 0)

abbrev pub tokens_at : ModePlan → ℕ → Token
tokens_at p k = get_or p.tokens k (token 0)

-- the change from the mode at place o to the one at place n
abbrev pub change_in : List Timing → ℕ → ℕ → Timing
change_in cs o n = get_or cs (MODES * o + n) no_timing

-- a word and some numbers as a line
unfoldable pub line_text : List ℕ → List ℕ → List ℕ
line_text word numbers = joined (word ∷ map decimal numbers) ++ (13 ∷ 10 ∷ [])

abbrev pub as_five : ℕ → ℕ → ℕ → ℕ → ℕ → List ℕ
as_five a b c d e = a ∷ b ∷ c ∷ d ∷ e ∷ []

-- an actor, where it is active: mode, number, firings in an iteration, period and start
abbrev pub actor_text : ℕ → ℕ → ℕ → Firing → Tick → Tick → List ℕ
actor_text m active i q period start = cond (hasb active i) (line_text (bytes "actor") (as_five (number_of m) (number_of i) q.0 period.0 start.0)) []

-- a channel: mode, the actors that it leads from and to, size, and tokens in an iteration
abbrev pub channel_text : ℕ → Channel → Token → Token → List ℕ
channel_text m c size tokens = line_text (bytes "channel") (as_five (number_of m) (number_of c.from) (number_of c.to) size.0 tokens.0)

-- a change, where it is one between two different modes that are listed, by their active sets: old, new, overlap, offset and worst delay
abbrev pub change_text : ℕ → ℕ → ℕ → ℕ → Timing → List ℕ
change_text o n old new t =
    cond (not (eqb old 0) && (not (eqb new 0) && not (eqb o n)))
    (line_text (bytes "change") (as_five (number_of o) (number_of n) t.overlap.0 t.offset.0 t.worst.0))
    []

-- a mode: its actors in ascending order, then its channels in the order in which they are listed
abbrev pub actors_text : ℕ → Mode → ModePlan → List ℕ
actors_text m M p = texts (λ i. actor_text m M.active i (firings_at p i) (period_at p i) (start_at p i)) ACTORS

abbrev pub channels_text : ℕ → Mode → ModePlan → List ℕ
channels_text m M p = texts (λ k. channel_text m (channel_at M k) (size_at p k) (tokens_at p k)) M.count

abbrev pub mode_text : ℕ → Mode → ModePlan → List ℕ
mode_text m M p = actors_text m M p ++ channels_text m M p

-- the changes, by the old mode and then by the new one
abbrev pub from_text : List ℕ → List Timing → ℕ → List ℕ
from_text active cs o = texts (λ n. change_text o n (get_or active o 0) (get_or active n 0) (change_in cs o n)) MODES

abbrev pub changes_text : List ℕ → List Timing → List ℕ
changes_text active cs = texts (from_text active cs) MODES

-- the modes in ascending order
abbrev pub modes_text : Table → Plan → List ℕ
modes_text t w = texts (λ m. mode_text m (mode_at t m) (part_at w m)) MODES

-- the active sets of a table's modes: a mode is listed where its set is not empty
abbrev pub active_of : Table → List ℕ
active_of t = tab MODES (λ m. (mode_at t m).active)

-- what is printed of a plan: the modes, and then the changes
abbrev pub plan_text : Table → Plan → List ℕ
plan_text t w = modes_text t w ++ changes_text (active_of t) w.changes

-- what is printed of a refusal: one line
abbrev pub printed_text : Printed → List ℕ
printed_text p = line_text (bytes "refused") (five p)

abbrev pub refusal_text : Refusal → List ℕ
refusal_text r = printed_text (printed_of r)

-- the most bytes of a line: its word, five commas, its numbers, and CRLF
abbrev pub ACTOR_LINE : ℕ
ACTOR_LINE = 5 + 5 + (digits MODES + digits ACTORS + digits MOST_FIRINGS.0 + digits ITERATION_LIMIT.0 + digits MOST_START.0) + 2

abbrev pub CHANNEL_LINE : ℕ
CHANNEL_LINE = 7 + 5 + (digits MODES + digits ACTORS + digits ACTORS + digits MOST_SIZE.0 + digits MOST_CARRIED.0) + 2

abbrev pub CHANGE_LINE : ℕ
CHANGE_LINE = 6 + 5 + (digits MODES + digits MODES + digits MOST_START.0 + digits MOST_START.0 + digits MOST_DELAY.0) + 2

-- the length of the buffer: no plan has more bytes
abbrev pub PRINTED : ℕ
PRINTED = MODES * (ACTORS * ACTOR_LINE + CHANNELS * CHANNEL_LINE) + MODES * ((MODES - 1) * CHANGE_LINE)

-- numbers within these limits
pub record SmallPart (M : Mode) (p : ModePlan) : Type 0 where
  pub count : M.count ≤ CHANNELS
  pub from : (k : ℕ) → k < M.count → (channel_at M k).from < ACTORS
  pub to : (k : ℕ) → k < M.count → (channel_at M k).to < ACTORS
  pub firings : (i : ℕ) → i < ACTORS → (firings_at p i).0 ≤ MOST_FIRINGS.0
  pub periods : (i : ℕ) → i < ACTORS → (period_at p i).0 ≤ ITERATION_LIMIT.0
  pub starts : (i : ℕ) → i < ACTORS → (start_at p i).0 ≤ MOST_START.0
  pub sizes : (k : ℕ) → k < M.count → (size_at p k).0 ≤ MOST_SIZE.0
  pub tokens : (k : ℕ) → k < M.count → (tokens_at p k).0 ≤ MOST_CARRIED.0

pub record SmallTiming (t : Timing) : Type 0 where
  pub overlap : t.overlap.0 ≤ MOST_START.0
  pub offset : t.offset.0 ≤ MOST_START.0
  pub worst : t.worst.0 ≤ MOST_DELAY.0

pub record Small (t : Table) (w : Plan) : Type 0 where
  pub parts : (m : ℕ) → m < MODES → SmallPart (mode_at t m) (part_at w m)
  pub changes : (o n : ℕ) → o < MODES → n < MODES → SmallTiming (change_in w.changes o n)

-- a text in the buffer: what is behind it is 0
pub record Shows (text after : List ℕ) (r : ℕ) : Type 0 where
  pub long : r ≡ length text
  pub is : after ≡ text ++ replicate (PRINTED - r) 0
