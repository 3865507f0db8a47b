-- The five numbers of what the planner answers.
use Rattle.std.specs.Prelude.{List, ℕ, Result, Ok, Err}
use Rattle.terms.specs.declared.refusal.Refusal.{Refusal}
use Rattle.terms.specs.Refusal.{numbers_of, no_numbers}

-- to a table
abbrev pub plan_numbers : Result (Unit {0}) Refusal → List ℕ
plan_numbers (Ok u) = no_numbers
plan_numbers (Err r) = numbers_of r

-- to the printing of a plan
abbrev pub print_numbers : Result ℕ Refusal → List ℕ
print_numbers (Ok n) = no_numbers
print_numbers (Err r) = numbers_of r
