-- The row that five fields are, from what is read in each. Assumes nothing.
use mathlib.Core.Path.{◌≡◌, refl, ap, subst}
use mathlib.Core.List.{List, [], ◌∷◌}
use Prim.Native.Nat.{ℕ, zero-le}
use native.Mathlib.Omega.{arith}
use lib.ListN.{length, get_or}
use Rattle.std.specs.Prelude.{Some, None}
use Rattle.numbers.specs.Every.{Every, every_at}
use Rattle.rfc4180.specs.declared.record.Span.{Span}
use Rattle.rfc4180.specs.Decimal.{Writes, decimal, spaced}
use Rattle.rfc4180.specs.Numbers.{Between, NumberOf}
use Rattle.rfc4180.specs.Records.{no_span}
use Rattle.rfc4180.proofs.Decimals.{decimal_writes, decimal_is}
use Rattle.units.specs.Limits.{MODES, ACTORS, PHASES, MOST_WCET, PROCESSORS}
use Rattle.terms.specs.Place.{place_of}
use Rattle.terms.specs.Text.{bytes}
use Rattle.reader.specs.declared.line.Entry.TheVariants.{Actor as AnActor, Channel as AChannel}
use Rattle.reader.specs.declared.rates.Rates.{Rates as RatesIn}
use Rattle.reader.specs.Rows.{Row, ActorRow, ChannelRow, actor, channel, word, behind, Rates, ActorInRange, ChannelInRange, InRange}
use Rattle.reader.specs.Lines.{RatesOf, listed, none as no_list, InText, RowOf, row, none}

-- a field is in the text
pub field_in : (s : List ℕ) (xs : List Span) (i : ℕ) → Every (InText s) xs → InText s (get_or xs i no_span)
field_in s xs i e = every_at (InText s) no_span xs (zero-le, zero-le) e i

-- a field in which no number is read is not one that a row writes, nor one in which no list is
pub no_number : {s : List ℕ} {most : ℕ} → NumberOf s 1 most None → (n : ℕ) → Between 1 most n → decimal n ≡ s → ⊥
no_number f n b e = f n b (subst (Writes n) e (decimal_writes n))

pub no_rates : {s : List ℕ} → RatesOf s None → (xs : List ℕ) → Rates xs → spaced xs ≡ s → ⊥
no_rates (no_list f) = f

-- one of five fields
pub at_place : {x y : List (List ℕ)} (i : ℕ) → x ≡ y → get_or x i [] ≡ get_or y i []
at_place i e = ap (λ (l : List (List ℕ)). get_or l i []) e

abbrev five : (a b c d e : List ℕ) → List (List ℕ)
five a b c d e = a ∷ b ∷ c ∷ d ∷ e ∷ []

-- no row of a kind has these fields
pub no_actor : {fields : List (List ℕ)} {next : ℕ} → ((r : ActorRow) → ActorInRange r → behind (actor r) ≡ fields → ⊥) → RowOf (bytes "actor") fields next None
no_actor {fields} n = none go
  where
    go : (r : Row) → word r ≡ bytes "actor" → InRange r → behind r ≡ fields → ⊥
    go (actor r) w i e = n r i e
    go (channel r) w i e = omega (arith, ap length w)

pub no_channel : {fields : List (List ℕ)} {next : ℕ} → ((r : ChannelRow) → ChannelInRange r → behind (channel r) ≡ fields → ⊥) → RowOf (bytes "channel") fields next None
no_channel {fields} n = none go
  where
    go : (r : Row) → word r ≡ bytes "channel" → InRange r → behind r ≡ fields → ⊥
    go (actor r) w i e = omega (arith, ap length w)
    go (channel r) w i e = n r i e

-- the row that they are, from the numbers and the lists that were read
module _ {s1 s2 s3 s4 s5 : List ℕ} (next : ℕ) where
  pub an_actor : {m a p w c : ℕ} → NumberOf s1 1 MODES (Some m) → NumberOf s2 1 ACTORS (Some a) → NumberOf s3 1 PHASES (Some p)
      → NumberOf s4 1 MOST_WCET.0 (Some w) → NumberOf s5 1 PROCESSORS (Some c)
      → RowOf (bytes "actor") (five s1 s2 s3 s4 s5) next
      (Some (record { mode = place_of m; entry = AnActor (place_of a) (record { phases = p; wcet = record { 0 = w }; processor = c }); next = next }))
  an_actor {m} {a} {p} {w} {c} M A P W C =
      row (actor (record { mode = m; actor = a; is = record { phases = p; wcet = record { 0 = w }; processor = c } })) refl
      (record { mode = M.0; actor = A.0; phases = P.0; wcet = W.0; processor = C.0 })
      (rw (decimal_is M.1, decimal_is A.1, decimal_is P.1, decimal_is W.1, decimal_is C.1) refl)

  pub a_channel : {m f t : ℕ} {p c : RatesIn} → NumberOf s1 1 MODES (Some m) → NumberOf s2 1 ACTORS (Some f) → NumberOf s3 1 ACTORS (Some t)
      → RatesOf s4 (Some p) → RatesOf s5 (Some c)
      → RowOf (bytes "channel") (five s1 s2 s3 s4 s5) next
      (Some (record { mode = place_of m; entry = AChannel (record { from = place_of f; to = place_of t; production = p; consumption = c }); next = next }))
  a_channel {m} {f} {t} M F T (listed xs rx ex) (listed ys ry ey) =
      row (channel (record { mode = m; from = f; to = t; production = xs; consumption = ys })) refl
      (record { mode = M.0; from = F.0; to = T.0; production = rx; consumption = ry })
      (rw (decimal_is M.1, decimal_is F.1, decimal_is T.1, ex, ey) refl)
