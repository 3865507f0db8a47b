-- The text of a proper table has some bytes, and no more than the longest text has. Assumes nothing.
use mathlib.Core.Path.{◌≡◌, refl}
use mathlib.Core.Bool.{Bool, true, false, cond}
use mathlib.Core.List.{List, [], ◌∷◌, ◌++◌}
use Prim.Native.Nat.{ℕ, zero, suc, ◌+◌, ◌*◌, ◌/◌, ◌%◌, ◌^◌, ◌≤◌, ◌<◌}
use native.Mathlib.Nat.{pow-suc, le_refl}
use native.Mathlib.Omega.{arith}
use native.Mathlib.Decide.{dec_lt}
use lib.ListN.{length, length-take, length-append}
use borrow.Author.Tests.{eqb-true}
use Rattle.numbers.specs.Bits.{hasb}
use Rattle.rfc4180.specs.Decimal.{decimal, spaced}
use Rattle.rfc4180.specs.Writing.{joined}
use Rattle.units.specs.Limits.{MOST_BYTES, MODES, ACTORS, CHANNELS, PHASES}
use Rattle.tables.specs.Shape.{Mode, Table, actor_at, channel_at, mode_at}
use Rattle.tables.specs.Proper.{ProperMode, ProperTable}
use Rattle.reader.specs.Rows.{Row, ActorRow, ChannelRow, actor, channel, Rates, ActorInRange, ChannelInRange, contents}
use Rattle.reader.specs.Writing.{line_text, text_of, actor_row, channel_row, actor_rows, channel_rows, mode_rows, rows_of}
use Rattle.rfc4180.proofs.Decimals.{decimal_more, decimal_one}
use Rattle.reader.proofs.Rewritten.{actor_range, channel_range, rows_some}

-- one row more
text_more : (r : Row) (rs : List Row) → length (text_of (r ∷ rs)) ≡ length (text_of rs) + length (line_text r)
unfolding text_of
text_more r rs = length-append (text_of rs) (line_text r)

-- a number below 10 ^ k has at most k digits
decimal_length : (k n : ℕ) → n < 10 ^ k → 0 < k → length (decimal n) ≤ k
decimal_length zero n h pos = absurd (omega arith)
decimal_length (suc zero) n h pos = rw (decimal_one n h) (omega arith)
decimal_length (suc (suc k)) n h pos = go (dec_lt n 10) (decimal_length (suc k) (n / 10))
  where
    go : Dec (n < 10) → (n / 10 < 10 ^ suc k → 0 < suc k → length (decimal (n / 10)) ≤ suc k) → length (decimal n) ≤ suc (suc k)
    go (yes l) ih = rw (decimal_one n l) (omega arith)
    go (no l) ih =
        let h' : n < 10 ^ suc k * 10 = rw pow-suc at h in
        rw (decimal_more n (omega arith), length-append (decimal (n / 10)) ((48 + n % 10) ∷ [])) (omega (arith, ih (omega arith) (omega arith)))

-- a list of rates takes three digits for each, and a space between two
spaced_length : (xs : List ℕ) → Rates xs → length (spaced xs) < 4 * length xs
unfolding spaced
spaced_length [] r = absurd (omega (arith, r.0))
spaced_length (x ∷ []) r = omega (arith, decimal_length 3 x (omega (arith, r.1.0)) (omega arith))
spaced_length (x ∷ y ∷ ys) r =
    omega (arith, length-append (decimal x) (32 ∷ spaced (y ∷ ys)), decimal_length 3 x (omega (arith, r.1.0)) (omega arith), spaced_length (y ∷ ys) (omega arith, r.1.1))

-- the rows with their CRLF
actor_short : (r : ActorRow) → ActorInRange r → length (line_text (actor r)) ≤ 24
unfolding joined
actor_short r i =
    simp length-append
    (omega (
      arith,
      decimal_length 1 r.mode (omega (arith, i.mode)) (omega arith),
      decimal_length 2 r.actor (omega (arith, i.actor)) (omega arith),
      decimal_length 1 r.is.phases (omega (arith, i.phases)) (omega arith),
      decimal_length 7 r.is.wcet.0 (omega (arith, i.wcet)) (omega arith),
      decimal_length 1 r.is.processor (omega (arith, i.processor)) (omega arith),
    ))

channel_short : (r : ChannelRow) → ChannelInRange r → length r.production ≤ PHASES → length r.consumption ≤ PHASES → length (line_text (channel r)) ≤ 81
unfolding joined
channel_short r i hp hc =
    simp length-append
    (omega (
      arith,
      decimal_length 1 r.mode (omega (arith, i.mode)) (omega arith),
      decimal_length 2 r.from (omega (arith, i.from)) (omega arith),
      decimal_length 2 r.to (omega (arith, i.to)) (omega arith),
      spaced_length r.production i.production,
      spaced_length r.consumption i.consumption,
    ))

-- the rows of one mode
module _ (m : ℕ) (hm : m < MODES) (M : Mode) (g : ProperMode M) (rs : List Row) where
  actors_short : (i : ℕ) → i ≤ ACTORS → length (text_of (actor_rows m M i ++ rs)) ≤ length (text_of rs) + 24 * i
  unfolding actor_rows
  actors_short zero h = omega arith
  actors_short (suc i) h = go (hasb M.active i) refl (actors_short i (omega arith))
    where
      go : (x : Bool) → hasb M.active i ≡ x → length (text_of (actor_rows m M i ++ rs)) ≤ length (text_of rs) + 24 * i
          → length (text_of (cond x (actor (actor_row m M i) ∷ actor_rows m M i) (actor_rows m M i) ++ rs)) ≤ length (text_of rs) + 24 * suc i
      go true e ih =
          omega (
            arith,
            text_more (actor (actor_row m M i)) (actor_rows m M i ++ rs),
            actor_short (actor_row m M i) (actor_range m hm M g i h (eqb-true _ 1 e)),
          )
      go false e ih = omega arith

  channels_short : (k : ℕ) → k ≤ M.count → length (text_of (channel_rows m M k ++ rs)) ≤ length (text_of rs) + 81 * k
  unfolding channel_rows
  channels_short zero h = omega arith
  channels_short (suc k) h =
      let c = channel_at M k in
      let p = g.channel k h in
      omega (
        arith,
        channels_short k (omega arith),
        text_more (channel (channel_row m M c)) (channel_rows m M k ++ rs),
        channel_short (channel_row m M c) (channel_range m hm M g c p)
            (omega (arith, length-take (actor_at M c.from).phases c.production, p.production.long))
            (omega (arith, length-take (actor_at M c.to).phases c.consumption, p.consumption.long)),
      )

-- the rows of some modes
modes_short : (t : Table) → ProperTable t → (m : ℕ) → m ≤ MODES → length (text_of (mode_rows t m)) ≤ (ACTORS * 24 + CHANNELS * 81) * m
unfolding mode_rows text_of
modes_short t g zero h = omega arith
modes_short t g (suc m) h =
    let M = mode_at t m in
    let p = g.mode m h in
    omega (
      arith,
      p.count,
      modes_short t g m (omega arith),
      actors_short m h M p (mode_rows t m) ACTORS (le_refl ACTORS),
      channels_short m h M p (actor_rows m M ACTORS ++ mode_rows t m) M.count (le_refl M.count),
    )

-- the whole text
pub written_short : (t : Table) → ProperTable t → length (text_of (rows_of t)) ≤ MOST_BYTES
written_short t g = omega (arith, modes_short t g MODES (le_refl MODES))

pub written_some : (t : Table) → ProperTable t → 0 < length (text_of (rows_of t))
written_some t g = go (rows_of t) (rows_some t g)
  where
    go : (rs : List Row) → 0 < length rs → 0 < length (text_of rs)
    go [] h = absurd (omega arith)
    go (r ∷ rs) h = omega (arith, text_more r rs, length-append (joined (contents r)) (13 ∷ 10 ∷ []))
