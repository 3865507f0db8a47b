-- The contents of a row's fields are text, and are those of no other row. Assumes nothing.
use mathlib.Core.Path.{◌≡◌, refl, sym, ap, subst}
use mathlib.Core.List.{List, [], ◌∷◌}
use Prim.Native.Nat.{ℕ, ◌<◌}
use native.Mathlib.Omega.{arith}
use lib.ListN.{length}
use borrow.Author.Tests.{ne_eqb, le-ltb, lt-ltb}
use Rattle.numbers.specs.Every.{Every, every_append}
use Rattle.rfc4180.specs.declared.bytes.Class.TheVariants.{Text}
use Rattle.rfc4180.specs.Bytes.{class_of}
use Rattle.rfc4180.specs.Decimal.{Writes, decimal, spaced}
use Rattle.reader.specs.Rows.{Row, actor, channel, word, InRange, contents}
use Rattle.rfc4180.specs.Decimal.{IsDigit}
use Rattle.rfc4180.proofs.Decimals.{decimal_writes, number_one, writes_digits}
use Rattle.rfc4180.proofs.Lists.{spaced_one}

-- bytes that a field without quotes may have
abbrev pub Plain : List ℕ → Type 0
Plain s = Every (λ b. class_of b ≡ Text) s

digit_text : (b : ℕ) → IsDigit b → class_of b ≡ Text
unfolding class_of
digit_text b h =
    rw (
      ne_eqb b 44 (λ e. omega arith),
      ne_eqb b 34 (λ e. omega arith),
      ne_eqb b 13 (λ e. omega arith),
      ne_eqb b 10 (λ e. omega arith),
      le-ltb b 32 (omega arith),
      lt-ltb b 127 (omega arith),
    )

digits_plain : (s : List ℕ) → Every IsDigit s → Plain s
digits_plain [] h = tt
digits_plain (b ∷ s) h = (digit_text b h.0, digits_plain s h.1)

-- numbers, lists and the two words are plain
decimal_plain : (n : ℕ) → Plain (decimal n)
decimal_plain n = digits_plain (decimal n) (writes_digits (decimal_writes n))

spaced_plain : (xs : List ℕ) → Plain (spaced xs)
unfolding spaced class_of
spaced_plain [] = tt
spaced_plain (x ∷ []) = decimal_plain x
spaced_plain (x ∷ y ∷ ys) = every_append (λ b. class_of b ≡ Text) (decimal x) (32 ∷ spaced (y ∷ ys)) (decimal_plain x) (refl, spaced_plain (y ∷ ys))

pub contents_plain : (r : Row) → Every Plain (contents r)
unfolding class_of
contents_plain (actor r) = (
  (refl, (refl, (refl, (refl, (refl, tt))))),
  (decimal_plain r.mode, (decimal_plain r.actor, (decimal_plain r.is.phases, (decimal_plain r.is.wcet.0, (decimal_plain r.is.processor, tt))))),
)
contents_plain (channel r) = (
  (refl, (refl, (refl, (refl, (refl, (refl, (refl, tt))))))),
  (decimal_plain r.mode, (decimal_plain r.from, (decimal_plain r.to, (spaced_plain r.production, (spaced_plain r.consumption, tt))))),
)

-- a text is of one number, of one list, of one row
same_number : (m n : ℕ) → decimal m ≡ decimal n → m ≡ n
same_number m n e = number_one (decimal_writes m) (subst (Writes n) (sym e) (decimal_writes n))

pub same_list : (xs ys : List ℕ) → 0 < length xs → 0 < length ys → spaced xs ≡ spaced ys → xs ≡ ys
same_list [] ys h g e = absurd (omega arith)
same_list (x ∷ xs) [] h g e = absurd (omega arith)
same_list (x ∷ xs) (y ∷ ys) h g e = spaced_one x y xs ys e

pub row_one : (r s : Row) → contents r ≡ contents s → InRange r → InRange s → r ≡ s
row_one (actor r) (actor s) e i j =
    let mode = same_number r.mode s.mode (cc) in
    let number = same_number r.actor s.actor (cc) in
    let phases = same_number r.is.phases s.is.phases (cc) in
    let wcet = same_number r.is.wcet.0 s.is.wcet.0 (cc) in
    let processor = same_number r.is.processor s.is.processor (cc) in
    λ x. actor (record { mode = mode x; actor = number x; is = record { phases = phases x; wcet = record { 0 = wcet x }; processor = processor x } })
row_one (channel r) (channel s) e i j =
    let mode = same_number r.mode s.mode (cc) in
    let from = same_number r.from s.from (cc) in
    let to = same_number r.to s.to (cc) in
    let production = same_list r.production s.production i.production.0 j.production.0 (cc) in
    let consumption = same_list r.consumption s.consumption i.consumption.0 j.consumption.0 (cc) in
    λ x. channel (record { mode = mode x; from = from x; to = to x; production = production x; consumption = consumption x })
row_one (actor r) (channel s) e i j = let w : word (actor r) ≡ word (channel s) = cc in absurd (omega (arith, ap length w))
row_one (channel r) (actor s) e i j = let w : word (channel r) ≡ word (actor s) = cc in absurd (omega (arith, ap length w))
