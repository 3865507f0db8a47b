-- What is told of a text: its rows, or the refusal that is given first.
use Rattle.std.specs.Prelude.{◌≡◌, List, [], ◌∷◌, ◌⊎◌, ℕ, suc, ◌≤◌, ◌<◌, length, replicate, Result, Ok, Err}
use Rattle.numbers.specs.Padded.{padded}
use Rattle.rfc4180.specs.Grammar.{Cell, FirstRecord}
use Rattle.units.specs.Limits.{MOST_BYTES, PHASES, FIELDS}
use Rattle.terms.specs.Place.{place_of}
use Rattle.terms.specs.Refusal.{refusal_at}
use Rattle.terms.specs.declared.refusal.Place.TheVariants.{Row as AtRow}
use Rattle.terms.specs.declared.refusal.Reason.{Reason}
use Rattle.terms.specs.declared.refusal.Reason.TheVariants.{Unreadable, BadField}
use Rattle.terms.specs.declared.refusal.Refusal.{Refusal}
use Rattle.tables.specs.declared.Channel.{Channel}
use Rattle.tables.specs.Memory.{TABLE_WORDS, TABLE_BYTES, table_fronts, table_channels}
use Rattle.tables.specs.Shape.{Table, mode_at, empty_table, with_actor, with_channel, with_mode}
use Rattle.reader.specs.Rows.{Row, ChannelRow, actor, channel, InRange, contents, RowRefused, Passes}

-- the rows of a text, the latest first; or why it is refused, and at which row
pub data Outcome : Type 0 where
  rows : List Row → Outcome
  refused : (reason : Reason) (row : ℕ) → Outcome

-- a row stands at the front of a text, and this follows it
pub record FirstRow (t : List ℕ) (r : Row) (rest : List ℕ) : Type 0 where
  pub fields : List Cell
  pub stands : FirstRecord t fields (contents r) rest
  pub in_range : InRange r

-- Refusal 1: no record of six fields stands at the front of a text.
abbrev pub Refused1 : List ℕ → Type 0
Refused1 t = (fs : List Cell) (cs : List (List ℕ)) (rest : List ℕ) → FirstRecord t fs cs rest → length cs ≡ FIELDS → ⊥

-- Refusal 2: one does, and it is no row.
pub record Refused2 (t : List ℕ) : Type 0 where
  pub fields : List Cell
  pub contents : List (List ℕ)
  pub rest : List ℕ
  pub stands : FirstRecord t fields contents rest
  pub six : length contents ≡ FIELDS
  pub no_row : (r : Row) (u : List ℕ) → FirstRow t r u → ⊥

-- what stands at the front of a text is refused: 1, then 2, then its row by 3 to 5
pub data FrontRefused (earlier : List Row) (t : List ℕ) : Reason → Type 0 where
  by_1 : Refused1 t → FrontRefused earlier t Unreadable
  by_2 : Refused2 t → FrontRefused earlier t BadField
  by_row : {e : Reason} {r : Row} {rest : List ℕ} → FirstRow t r rest → RowRefused earlier r e → FrontRefused earlier t e

-- what is told of a text that goes on after these earlier rows, the latest first
pub data After : List Row → List ℕ → Outcome → Type 0 where
  done : {earlier : List Row} → After earlier [] (rows earlier)
  stopped : {earlier : List Row} {t : List ℕ} {e : Reason} → 0 < length t → FrontRefused earlier t e → After earlier t (refused e (suc (length earlier)))
  passed : {earlier : List Row} {t rest : List ℕ} {r : Row} {o : Outcome} → FirstRow t r rest → Passes earlier r → After (r ∷ earlier) rest o → After earlier t o

-- of a whole text: its length first
pub data Of : List ℕ → Outcome → Type 0 where
  wrong_length : {t : List ℕ} → (length t ≡ 0) ⊎ (MOST_BYTES < length t) → Of t (refused Unreadable 0)
  right_length : {t : List ℕ} {o : Outcome} → 0 < length t → length t ≤ MOST_BYTES → After [] t o → Of t o

-- a channel in memory: its rates are one for each phase, with 0 behind the last
abbrev pub channel_of : ChannelRow → Channel
channel_of r = record { from = place_of r.from; to = place_of r.to; production = padded PHASES 0 r.production; consumption = padded PHASES 0 r.consumption }

-- a table with one row more
abbrev pub listing : Row → Table → Table
listing (actor r) t = with_mode t (place_of r.mode) (with_actor (mode_at t (place_of r.mode)) (place_of r.actor) r.is)
listing (channel r) t = with_mode t (place_of r.mode) (with_channel (mode_at t (place_of r.mode)) (channel_of r))

-- the table of some rows, the latest first
unfoldable pub table_of : List Row → Table
table_of [] = empty_table
table_of (r ∷ rs) = listing r (table_of rs)

-- the answer, and the table beside it: with nothing in it where the text is refused
pub record Reading : Type 0 where
  pub answer : Result (Unit {0}) Refusal
  pub table : Table

-- the reader's answer: read, with the table of the rows; or refused at a row, with an empty table
abbrev pub read_as : Table → Reading
read_as t = record { answer = Ok tt; table = t }

abbrev pub reading_of : Outcome → Reading
reading_of (rows rs) = read_as (table_of rs)
reading_of (refused e r) = record { answer = Err (refusal_at e (AtRow r)); table = empty_table }

-- the reading of a text's rows, whatever its length
abbrev pub RowsTold : List ℕ → Reading → Type 0
RowsTold text r = (o : Outcome) × After [] text o × (r ≡ reading_of o)

-- the reading of a text
abbrev pub Told : List ℕ → Reading → Type 0
Told text r = (o : Outcome) × Of text o × (r ≡ reading_of o)

-- the memory of a table, all of it 0
pub record Blank (fronts channels : List ℕ) : Type 0 where
  pub no_fronts : fronts ≡ replicate TABLE_WORDS 0
  pub no_channels : channels ≡ replicate TABLE_BYTES 0

-- an answer, and in memory the table beside it, of which together this holds
pub record Into (Is : Reading → Type 0) (answer : Result (Unit {0}) Refusal) (fronts channels : List ℕ) : Type 0 where
  pub table : Table
  pub told : Is (record { answer = answer; table = table })
  pub fronts_are : fronts ≡ table_fronts table
  pub channels_are : channels ≡ table_channels table

-- the reading of a text, with its table in memory
abbrev pub ReadInto : List ℕ → Result (Unit {0}) Refusal → (fronts channels : List ℕ) → Type 0
ReadInto text = Into (Told text)
