-- What is read of a text that is a number, or that lists numbers.
use Rattle.std.specs.Prelude.{List, [], ◌∷◌, ℕ, ◌-◌, ◌≤◌, length, take, drop, Option, Some, None}
use Rattle.rfc4180.specs.declared.decimal.Item.{Item}
use Rattle.rfc4180.specs.Decimal.{Writes}

abbrev pub Between : ℕ → ℕ → ℕ → Type 0
Between least most n = (least ≤ n) × (n ≤ most)

-- the number that a text writes, where it is from least to most; None where it writes none such
abbrev pub NumberOf : List ℕ → ℕ → ℕ → Option ℕ → Type 0
NumberOf s least most (Some n) = Between least most n × Writes n s
NumberOf s least most None = (n : ℕ) → Between least most n → Writes n s → ⊥

-- what follows a number in a list: nothing, or a space
pub data Parted : List ℕ → Type 0 where
  over : Parted []
  space : {t : List ℕ} → Parted (32 ∷ t)

-- a number of a list stands in a text from a place to an end
pub record Listed (s : List ℕ) (at most n end : ℕ) : Type 0 where
  pub begins : at ≤ end
  pub inside : end ≤ length s
  pub small : n ≤ most
  pub writes : Writes n (take (end - at) (drop at s))
  pub parted : Parted (drop end s)

-- the number of a list at a place of a text, where it is at most most, and its end; None where none such stands there
abbrev pub ItemAt : List ℕ → ℕ → ℕ → Option Item → Type 0
ItemAt s at most (Some i) = Listed s at most i.value i.end
ItemAt s at most None = (n end : ℕ) → Listed s at most n end → ⊥
