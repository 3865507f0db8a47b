-- Each public function's statement admits one answer, and one content of the buffer, only.
use mathlib.Core.Path.{◌≡◌, sym, ap, ◌∙◌}
use mathlib.Core.List.{List, ◌++◌}
use Prim.Native.Nat.{ℕ, ◌-◌}
use lib.ListN.{replicate}
use contract.Lifetimes.{Lfts}
use denote.Triple.Clauses.{AtExit}
use borrow.Fn.Kinds.{Dens, res_t, ended_of}
use Rattle.printer.specs.Printed.{PRINTED, Shows}
use Rattle.rfc4180.proofs.Laying.{laid_one}
use Rattle.printer.proofs.bytes.line.Kinds as line_kinds
use Rattle.printer.proofs.bytes.line.Reads as line
use Rattle.printer.proofs.print.Kinds as print_kinds
use Rattle.printer.proofs.print.Reads as print
use Rattle.printer.proofs.print_refusal.Kinds as print_refusal_kinds
use Rattle.printer.proofs.print_refusal.Reads as print_refusal

shows_one : {text k j : List ℕ} {x y : ℕ} → Shows text k x → Shows text j y → (x ≡ y) × (k ≡ j)
shows_one {text} p q =
    let e = p.long ∙ sym q.long in
    (e, p.is ∙ ap (λ (n : ℕ). text ++ replicate (PRINTED - n) 0) e ∙ sym q.is)

print_settled : (κs : Lfts 2) (a : Dens κs print_kinds.ps) (x y : (res_t print_kinds.r κs).Denot) (s t : AtExit (ended_of 2 print_kinds.ps print_kinds.r) κs)
    → print.Post κs a x s → print.Post κs a y t → (x ≡ y) × (s.1.0.now ≡ t.1.0.now)
print_settled κs a x y s t p q = shows_one p q

print_refusal_settled : (κs : Lfts 1) (a : Dens κs print_refusal_kinds.ps) (x y : (res_t print_refusal_kinds.r κs).Denot) (s t : AtExit (ended_of 1 print_refusal_kinds.ps print_refusal_kinds.r) κs)
    → print_refusal.Post κs a x s → print_refusal.Post κs a y t → (x ≡ y) × (s.1.0.now ≡ t.1.0.now)
print_refusal_settled κs a x y s t p q = shows_one p q

line_settled : (κs : Lfts 3) (a : Dens κs line_kinds.ps) (x y : (res_t line_kinds.r κs).Denot) (s t : AtExit (ended_of 3 line_kinds.ps line_kinds.r) κs)
    → line.Post κs a x s → line.Post κs a y t → (x ≡ y) × (s.0.now ≡ t.0.now)
line_settled κs a x y s t p q = laid_one p q
