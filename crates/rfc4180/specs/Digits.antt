-- What the readers of digits find.
use Rattle.std.specs.Prelude.{◌≡◌, List, [], ◌∷◌, ℕ, ◌+◌, ◌-◌, ◌≤◌, ◌<◌, length, get_or, take, drop, Option, Some, None}
use Rattle.rfc4180.specs.declared.decimal.Item.{Item}
use Rattle.rfc4180.specs.Decimal.{Writes, IsDigit}

-- the digit that a byte is
abbrev pub DigitOf : ℕ → Option ℕ → Type 0
DigitOf b (Some d) = (d < 10) × (b ≡ 48 + d)
DigitOf b None = IsDigit b → ⊥

-- a digit stands at a place of a text
pub record DigitIs (s : List ℕ) (i d : ℕ) : Type 0 where
  pub inside : i < length s
  pub small : d < 10
  pub is : get_or s i 0 ≡ 48 + d

-- the digit at a place of a text
abbrev pub DigitAt : List ℕ → ℕ → Option ℕ → Type 0
DigitAt s i (Some d) = DigitIs s i d
DigitAt s i None = i < length s → IsDigit (get_or s i 0) → ⊥

-- a text that begins with no digit
abbrev pub NoDigit : List ℕ → Type 0
NoDigit [] = Unit {0}
NoDigit (b ∷ t) = IsDigit b → ⊥

-- a number stands in a text from a place to an end
pub record Stands (s : List ℕ) (at most n end : ℕ) : Type 0 where
  pub begins : at ≤ end
  pub inside : end ≤ length s
  pub small : n ≤ most
  pub writes : Writes n (take (end - at) (drop at s))

-- and no digit follows it
abbrev pub RunTo : List ℕ → ℕ → ℕ → ℕ → ℕ → Type 0
RunTo s at most n end = Stands s at most n end × NoDigit (drop end s)

-- the number that all digits from a place on write, where it is at most most, and its end; None where they write none such
abbrev pub RunAt : List ℕ → ℕ → ℕ → Option Item → Type 0
RunAt s at most (Some r) = RunTo s at most r.value r.end
RunAt s at most None = (n end : ℕ) → RunTo s at most n end → ⊥
