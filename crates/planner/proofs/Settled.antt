-- Each public function's statement admits one answer, and one content of the buffer, only.
use mathlib.Core.Path.{◌≡◌}
use contract.Lifetimes.{Lfts}
use denote.Triple.Clauses.{AtExit}
use borrow.Fn.Kinds.{Dens, res_t, ended_of}
use Rattle.numbers.specs.Decides.{decides_unique}
use Rattle.numbers.proofs.Settles.{Settles}
use Rattle.planner.proofs.Answering.{plans_unique, prints_unique}
use Rattle.planner.proofs.plan.Kinds as plan_kinds
use Rattle.planner.proofs.plan.Reads as plan
use Rattle.planner.proofs.is_plan.Kinds as is_plan_kinds
use Rattle.planner.proofs.is_plan.Reads as is_plan
use Rattle.planner.proofs.print.Kinds as print_kinds
use Rattle.planner.proofs.print.Reads as print

plan_settled : (κs : Lfts 2) (a : Dens κs plan_kinds.ps) (x y : (res_t plan_kinds.r κs).Denot) (s t : AtExit (ended_of 2 plan_kinds.ps plan_kinds.r) κs)
    → plan.Post κs a x s → plan.Post κs a y t → (x ≡ y) × (s.1.0.now ≡ t.1.0.now)
plan_settled κs a x y s t p q = plans_unique p q

is_plan_settled : Settles 1 is_plan_kinds.ps is_plan_kinds.r is_plan.Post
is_plan_settled κs a x y s t p q = decides_unique x y p q

print_settled : (κs : Lfts 2) (a : Dens κs print_kinds.ps) (x y : (res_t print_kinds.r κs).Denot) (s t : AtExit (ended_of 2 print_kinds.ps print_kinds.r) κs)
    → print.Post κs a x s → print.Post κs a y t → (x ≡ y) × (s.1.0.now ≡ t.1.0.now)
print_settled κs a x y s t p q = prints_unique p q
