-- The five numbers of what a machine answers.
use Rattle.std.specs.Prelude.{List, ℕ, Result, Ok, Err}
use Rattle.terms.specs.Refusal.{numbers_of, no_numbers}
use Rattle.terms.specs.declared.refusal.Refusal.{Refusal}

-- to a start, or to a request
abbrev pub answer_numbers : {A : Type 0} → Result A Refusal → List ℕ
answer_numbers (Ok a) = no_numbers
answer_numbers (Err r) = numbers_of r
