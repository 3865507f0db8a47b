-- Rows as they stand in a text and as they are kept in memory.
use Rattle.std.specs.Prelude.{◌≡◌, List, [], ◌∷◌, map, ℕ, ◌-◌, ◌≤◌, length, get_or, take, drop, Option, Some, None, Result, Ok, Err}
use Rattle.numbers.specs.Padded.{padded}
use Rattle.rfc4180.specs.declared.record.Span.{Span}
use Rattle.rfc4180.specs.Decimal.{spaced}
use Rattle.rfc4180.specs.Records.{no_span}
use Rattle.units.specs.Limits.{PHASES}
use Rattle.terms.specs.Place.{place_of}
use Rattle.terms.specs.declared.refusal.Reason.{Reason}
use Rattle.terms.specs.declared.refusal.Reason.TheVariants.{Unreadable, BadField}
use Rattle.tables.specs.declared.Channel.{Channel}
use Rattle.reader.specs.declared.line.Entry.TheVariants.{Actor as AnActor, Channel as AChannel}
use Rattle.reader.specs.declared.line.Line.{Line}
use Rattle.reader.specs.declared.line.Link.{Link}
use Rattle.reader.specs.declared.rates.Rates.{Rates as RatesIn}
use Rattle.reader.specs.Rows.{Row, ChannelRow, actor, channel, word, behind, Rates, InRange}
use Rattle.reader.specs.Told.{FirstRow, Refused1, Refused2}

-- a list of rates in memory
abbrev pub rates_in : List ℕ → RatesIn
rates_in xs = record { count = length xs; values = padded PHASES 0 xs }

-- the list of rates that a text is, or none
pub data RatesOf (s : List ℕ) : Option RatesIn → Type 0 where
  listed : (xs : List ℕ) → Rates xs → spaced xs ≡ s → RatesOf s (Some (rates_in xs))
  none : ((xs : List ℕ) → Rates xs → spaced xs ≡ s → ⊥) → RatesOf s None

-- what a channel's row says in its mode, in memory
abbrev pub link_of : ChannelRow → Link
link_of r =
    record {
      from = place_of r.from;
      to = place_of r.to;
      production = rates_in r.production;
      consumption = rates_in r.consumption;
    }

-- a row in memory, with the place behind it
abbrev pub line_of : Row → ℕ → Line
line_of (actor r) next = record { mode = place_of r.mode; entry = AnActor (place_of r.actor) r.is; next = next }
line_of (channel r) next = record { mode = place_of r.mode; entry = AChannel (link_of r); next = next }

-- what stands at a place of a text: no record of six fields, a record that is no row, or a row
pub data LineAt (text : List ℕ) (at : ℕ) : Result Line Reason → Type 0 where
  no_record : Refused1 (drop at text) → LineAt text at (Err Unreadable)
  no_row : Refused2 (drop at text) → LineAt text at (Err BadField)
  row : {r : Row} {rest : List ℕ} → FirstRow (drop at text) r rest → LineAt text at (Ok (line_of r (length text - length rest)))

-- a span lies in a text, and its bytes
abbrev pub InText : List ℕ → Span → Type 0
InText s x = (x.start ≤ x.end) × (x.end ≤ length s)

abbrev pub bytes_of : List ℕ → Span → List ℕ
bytes_of s x = take (x.end - x.start) (drop x.start s)

-- the bytes of the five fields behind a row's word
abbrev pub raws_of : List ℕ → List Span → List (List ℕ)
raws_of s xs = map (λ i. bytes_of s (get_or xs i no_span)) (1 ∷ 2 ∷ 3 ∷ 4 ∷ 5 ∷ [])

-- the row that a word begins and whose fields behind it are these, or none
pub data RowOf (begin : List ℕ) (fields : List (List ℕ)) (next : ℕ) : Option Line → Type 0 where
  row : (r : Row) → word r ≡ begin → InRange r → behind r ≡ fields → RowOf begin fields next (Some (line_of r next))
  none : ((r : Row) → word r ≡ begin → InRange r → behind r ≡ fields → ⊥) → RowOf begin fields next None

-- the channel of a row in memory
abbrev pub channel_in : Link → Channel
channel_in l = record { from = l.from; to = l.to; production = l.production.values; consumption = l.consumption.values }
