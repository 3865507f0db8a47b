-- The five numbers of what the reader answers.
use Rattle.std.specs.Prelude.{List, ℕ, Result, Ok, Err}
use Rattle.terms.specs.Refusal.{numbers_of, no_numbers}
use Rattle.terms.specs.declared.refusal.Refusal.{Refusal}

-- to a text
abbrev pub read_numbers : Result (Unit {0}) Refusal → List ℕ
read_numbers (Ok _) = no_numbers
read_numbers (Err r) = numbers_of r
