-- How a table is written as text.
use Rattle.std.specs.Prelude.{cond, List, [], ◌∷◌, ◌++◌, ℕ, zero, suc, take}
use Rattle.numbers.specs.Bits.{hasb}
use Rattle.rfc4180.specs.Writing.{joined}
use Rattle.units.specs.Limits.{MODES, ACTORS}
use Rattle.terms.specs.Place.{number_of}
use Rattle.tables.specs.declared.Channel.{Channel}
use Rattle.tables.specs.Shape.{Mode, Table, actor_at, channel_at, mode_at}
use Rattle.reader.specs.Rows.{Row, ActorRow, ChannelRow, actor, channel, contents}

-- a row with its CRLF
abbrev pub line_text : Row → List ℕ
line_text r = joined (contents r) ++ (13 ∷ 10 ∷ [])

-- some rows, the latest first, as the text in which they stand in order
unfoldable pub text_of : List Row → List ℕ
text_of [] = []
text_of (r ∷ rs) = text_of rs ++ line_text r

-- the rows of the actor at place i and of a channel, in the mode at place m
abbrev pub actor_row : ℕ → Mode → ℕ → ActorRow
actor_row m M i = record { mode = number_of m; actor = number_of i; is = actor_at M i }

abbrev pub channel_row : ℕ → Mode → Channel → ChannelRow
channel_row m M c =
    record {
      mode = number_of m;
      from = number_of c.from;
      to = number_of c.to;
      production = take (actor_at M c.from).phases c.production;
      consumption = take (actor_at M c.to).phases c.consumption;
    }

-- the rows of a mode's first n actors and of its first n channels
unfoldable pub actor_rows : ℕ → Mode → ℕ → List Row
actor_rows m M zero = []
actor_rows m M (suc i) = cond (hasb M.active i) (actor (actor_row m M i) ∷ actor_rows m M i) (actor_rows m M i)

unfoldable pub channel_rows : ℕ → Mode → ℕ → List Row
channel_rows m M zero = []
channel_rows m M (suc k) = channel (channel_row m M (channel_at M k)) ∷ channel_rows m M k

-- the rows of a table's first n modes: in each its actors and then its channels
unfoldable pub mode_rows : Table → ℕ → List Row
mode_rows t zero = []
mode_rows t (suc m) = channel_rows m (mode_at t m) (mode_at t m).count ++ (actor_rows m (mode_at t m) ACTORS ++ mode_rows t m)

-- a table as rows, the latest first, and as text
abbrev pub rows_of : Table → List Row
rows_of t = mode_rows t MODES

abbrev pub written : Table → List ℕ
written t = text_of (rows_of t)
