-- What the demands speak of is what the public functions promise: each function's own statement, as the checker reads it, is that relation, and asks nothing
-- of the caller. Assumes nothing.
use contract.Lifetimes.{Lfts}
use denote.Triple.Clauses.{AtExit}
use borrow.Fn.Kinds.{Dens, res_t, ended_of}
use Rattle.planner.specs.Plans.{Plans, Prints}
use Rattle.planner.proofs.plan.Kinds as plan_kinds
use Rattle.planner.proofs.plan.Reads as plan
use Rattle.planner.proofs.print.Kinds as print_kinds
use Rattle.planner.proofs.print.Reads as print
use Rattle.machine.specs.Answers.{Begins, Answers}
use Rattle.machine.proofs.start.Kinds as start_kinds
use Rattle.machine.proofs.start.Reads as start
use Rattle.machine.proofs.Machine.request.Kinds as request_kinds
use Rattle.machine.proofs.Machine.request.Reads as request
use Rattle.stellarsnare.specs.Face.{PlanTold, StartTold, RequestTold, PrintTold}
use Rattle.stellarsnare.proofs.stellarsnare_plan.Kinds as c_plan_kinds
use Rattle.stellarsnare.proofs.stellarsnare_plan.Reads as c_plan
use Rattle.stellarsnare.proofs.stellarsnare_print.Kinds as c_print_kinds
use Rattle.stellarsnare.proofs.stellarsnare_print.Reads as c_print
use Rattle.stellarsnare.proofs.stellarsnare_start.Kinds as c_start_kinds
use Rattle.stellarsnare.proofs.stellarsnare_start.Reads as c_start
use Rattle.stellarsnare.proofs.stellarsnare_request.Kinds as c_request_kinds
use Rattle.stellarsnare.proofs.stellarsnare_request.Reads as c_request

-- planner::plan
pub plan_asks_nothing : (κs : Lfts 2) (a : Dens κs plan_kinds.ps) → plan.Pre κs a
plan_asks_nothing κs a = tt

pub plan_promises : (κs : Lfts 2) (a : Dens κs plan_kinds.ps) (x : (res_t plan_kinds.r κs).Denot) (s : AtExit (ended_of 2 plan_kinds.ps plan_kinds.r) κs)
    → plan.Post κs a x s → Plans a.0.now a.1.0.now x s.1.0.now
plan_promises κs a x s p = p

-- planner::print
pub print_asks_nothing : (κs : Lfts 2) (a : Dens κs print_kinds.ps) → print.Pre κs a
print_asks_nothing κs a = tt

pub print_promises : (κs : Lfts 2) (a : Dens κs print_kinds.ps) (x : (res_t print_kinds.r κs).Denot) (s : AtExit (ended_of 2 print_kinds.ps print_kinds.r) κs)
    → print.Post κs a x s → Prints a.0.now a.1.0.now x s.1.0.now
print_promises κs a x s p = p

-- machine::start
pub start_asks_nothing : (κs : Lfts 1) (a : Dens κs start_kinds.ps) → start.Pre κs a
start_asks_nothing κs a = tt

pub start_promises : (κs : Lfts 1) (a : Dens κs start_kinds.ps) (x : (res_t start_kinds.r κs).Denot) (s : AtExit (ended_of 1 start_kinds.ps start_kinds.r) κs)
    → start.Post κs a x s → Begins a.0.now a.1.0 x
start_promises κs a x s p = p

-- machine::Machine::request
pub request_asks_nothing : (κs : Lfts 1) (a : Dens κs request_kinds.ps) → request.Pre κs a
request_asks_nothing κs a = tt

pub request_promises : (κs : Lfts 1) (a : Dens κs request_kinds.ps) (x : (res_t request_kinds.r κs).Denot) (s : AtExit (ended_of 1 request_kinds.ps request_kinds.r) κs)
    → request.Post κs a x s → Answers a.1.0.now a.0 a.1.1.0 a.1.1.1.0 x.reply x.machine
request_promises κs a x s p = p

-- stellarsnare_plan
pub c_plan_asks_nothing : (κs : Lfts 3) (a : Dens κs c_plan_kinds.ps) → c_plan.Pre κs a
c_plan_asks_nothing κs a = tt

pub c_plan_promises : (κs : Lfts 3) (a : Dens κs c_plan_kinds.ps) (x : (res_t c_plan_kinds.r κs).Denot) (s : AtExit (ended_of 3 c_plan_kinds.ps c_plan_kinds.r) κs)
    → c_plan.Post κs a x s → PlanTold a.0.now a.1.0.now x s.1.0.now s.1.1.0.now
c_plan_promises κs a x s p = p

-- stellarsnare_print
pub c_print_asks_nothing : (κs : Lfts 4) (a : Dens κs c_print_kinds.ps) → c_print.Pre κs a
c_print_asks_nothing κs a = tt

pub c_print_promises : (κs : Lfts 4) (a : Dens κs c_print_kinds.ps) (x : (res_t c_print_kinds.r κs).Denot) (s : AtExit (ended_of 4 c_print_kinds.ps c_print_kinds.r) κs)
    → c_print.Post κs a x s → PrintTold a.0.now a.1.0.now a.1.1.0.now x s.1.0.now s.1.1.0.now s.1.1.1.0.now
c_print_promises κs a x s p = p

-- stellarsnare_start
pub c_start_asks_nothing : (κs : Lfts 3) (a : Dens κs c_start_kinds.ps) → c_start.Pre κs a
c_start_asks_nothing κs a = tt

pub c_start_promises : (κs : Lfts 3) (a : Dens κs c_start_kinds.ps) (x : (res_t c_start_kinds.r κs).Denot) (s : AtExit (ended_of 3 c_start_kinds.ps c_start_kinds.r) κs)
    → c_start.Post κs a x s → StartTold a.0.now a.1.0 a.1.1.0.now x s.1.1.0.now s.1.1.1.0.now
c_start_promises κs a x s p = p

-- stellarsnare_request
pub c_request_asks_nothing : (κs : Lfts 4) (a : Dens κs c_request_kinds.ps) → c_request.Pre κs a
c_request_asks_nothing κs a = tt

pub c_request_promises : (κs : Lfts 4) (a : Dens κs c_request_kinds.ps) (x : (res_t c_request_kinds.r κs).Denot)
    (s : AtExit (ended_of 4 c_request_kinds.ps c_request_kinds.r) κs) → c_request.Post κs a x s
    → RequestTold a.0.now a.1.0.now a.1.1.0 a.1.1.1.0 a.1.1.1.1.0.now x s.1.0.now s.1.1.1.1.0.now s.1.1.1.1.1.0.now
c_request_promises κs a x s p = p
