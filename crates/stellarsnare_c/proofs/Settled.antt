-- Each export's statement admits one answer, and one content of everything that it may change, only.
use mathlib.Core.Path.{◌≡◌}
use contract.Lifetimes.{Lfts}
use denote.Triple.Clauses.{AtExit}
use borrow.Fn.Kinds.{Dens, res_t, ended_of}
use Rattle.stellarsnare.proofs.Unique.{plan_unique, start_unique, request_unique, print_unique}
use Rattle.stellarsnare_c.proofs.stellarsnare_plan.Kinds as plan_kinds
use Rattle.stellarsnare_c.proofs.stellarsnare_plan.Reads as plan
use Rattle.stellarsnare_c.proofs.stellarsnare_start.Kinds as start_kinds
use Rattle.stellarsnare_c.proofs.stellarsnare_start.Reads as start
use Rattle.stellarsnare_c.proofs.stellarsnare_request.Kinds as request_kinds
use Rattle.stellarsnare_c.proofs.stellarsnare_request.Reads as request
use Rattle.stellarsnare_c.proofs.stellarsnare_print.Kinds as print_kinds
use Rattle.stellarsnare_c.proofs.stellarsnare_print.Reads as print

-- the answer, the words, the five numbers
stellarsnare_plan_settled : (κs : Lfts 3) (a : Dens κs plan_kinds.ps) (x y : (res_t plan_kinds.r κs).Denot) (s t : AtExit (ended_of 3 plan_kinds.ps plan_kinds.r) κs)
    → plan.Post κs a x s → plan.Post κs a y t → (x ≡ y) × (s.1.0.now ≡ t.1.0.now) × (s.1.1.0.now ≡ t.1.1.0.now)
stellarsnare_plan_settled κs a x y s t p q = plan_unique p q

-- the answer, the machine, the five numbers
stellarsnare_start_settled : (κs : Lfts 3) (a : Dens κs start_kinds.ps) (x y : (res_t start_kinds.r κs).Denot) (s t : AtExit (ended_of 3 start_kinds.ps start_kinds.r) κs)
    → start.Post κs a x s → start.Post κs a y t → (x ≡ y) × (s.1.1.0.now ≡ t.1.1.0.now) × (s.1.1.1.0.now ≡ t.1.1.1.0.now)
stellarsnare_start_settled κs a x y s t p q = start_unique p q

-- the answer, the machine, the delay, the five numbers
stellarsnare_request_settled : (κs : Lfts 4) (a : Dens κs request_kinds.ps) (x y : (res_t request_kinds.r κs).Denot) (s t : AtExit (ended_of 4 request_kinds.ps request_kinds.r) κs)
    → request.Post κs a x s → request.Post κs a y t
    → (x ≡ y) × (s.1.0.now ≡ t.1.0.now) × (s.1.1.1.1.0.now ≡ t.1.1.1.1.0.now) × (s.1.1.1.1.1.0.now ≡ t.1.1.1.1.1.0.now)
stellarsnare_request_settled κs a x y s t p q = request_unique p q

-- the answer, the bytes, their number, the five numbers
stellarsnare_print_settled : (κs : Lfts 4) (a : Dens κs print_kinds.ps) (x y : (res_t print_kinds.r κs).Denot) (s t : AtExit (ended_of 4 print_kinds.ps print_kinds.r) κs)
    → print.Post κs a x s → print.Post κs a y t
    → (x ≡ y) × (s.1.0.now ≡ t.1.0.now) × (s.1.1.0.now ≡ t.1.1.0.now) × (s.1.1.1.0.now ≡ t.1.1.1.0.now)
stellarsnare_print_settled κs a x y s t p q = print_unique p q
