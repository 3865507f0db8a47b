-- Each public function's statement admits one answer, and one content of the buffer, only.
use mathlib.Core.Path.{◌≡◌}
use contract.Lifetimes.{Lfts}
use denote.Triple.Clauses.{AtExit}
use borrow.Fn.Kinds.{Dens, res_t, ended_of}
use Rattle.calls.proofs.Telling.{plan_fills_unique, ask_fills_unique}
use Rattle.calls.proofs.plan.Kinds as plan_kinds
use Rattle.calls.proofs.plan.Reads as plan
use Rattle.calls.proofs.ask.Kinds as ask_kinds
use Rattle.calls.proofs.ask.Reads as ask

plan_settled : (κs : Lfts 2) (a : Dens κs plan_kinds.ps) (x y : (res_t plan_kinds.r κs).Denot) (s t : AtExit (ended_of 2 plan_kinds.ps plan_kinds.r) κs)
    → plan.Post κs a x s → plan.Post κs a y t → (x ≡ y) × (s.1.0.now ≡ t.1.0.now)
plan_settled κs a x y s t p q = plan_fills_unique p q

ask_settled : (κs : Lfts 3) (a : Dens κs ask_kinds.ps) (x y : (res_t ask_kinds.r κs).Denot) (s t : AtExit (ended_of 3 ask_kinds.ps ask_kinds.r) κs)
    → ask.Post κs a x s → ask.Post κs a y t → (x ≡ y) × (s.1.1.0.now ≡ t.1.1.0.now)
ask_settled κs a x y s t p q = ask_fills_unique p q
