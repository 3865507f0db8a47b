-- The five numbers of what is answered to a table in memory.
use Rattle.std.specs.Prelude.{List, ℕ, Result, Ok, Err}
use Rattle.terms.specs.declared.refusal.Refusal.{Refusal}
use Rattle.terms.specs.Refusal.{numbers_of, no_numbers}
use Rattle.planning.specs.Shape.{Plan}

-- to its modes
abbrev pub modes_numbers : Result Plan Refusal → List ℕ
modes_numbers (Ok w) = no_numbers
modes_numbers (Err r) = numbers_of r
