-- printer::print_refusal meets its contract.
use Rattle.std.proofs.Common.{◌≡◌, ◌≤◌, List, ℕ, length, arith, rules}
use Rattle.terms.specs.Refusal.{five}
use Rattle.terms.specs.declared.refusal.Printed.{Printed}
use Rattle.rfc4180.specs.Laid.{Room, Laid}
use Rattle.printer.specs.Printed.{PRINTED, printed_text}
use Rattle.printer.proofs.Laying.{room_end, shown}
use Rattle.printer.proofs.Fitting.{Fitting, refusal_fits}
use Rattle.printer.proofs.print_refusal.Goals as goal

room : {out : List ℕ} {p : Printed} → length out ≡ PRINTED → Fitting (five p) → Room out 0 (printed_text p)
room {out} {p} long f = record { fits = omega (arith, refusal_fits p f) }

ended : {out k : List ℕ} {p : Printed} {end : ℕ} → Laid out 0 (printed_text p) k end → length out ≡ PRINTED → Fitting (five p) → end ≤ length k
ended laid long f = room_end (room long f) laid

pub line-end-requires : goal.line-end-requires
line-end-requires c =
    rw c.five.ensures (room c.requires (search rules))

pub blank-requires : goal.blank-requires
blank-requires c = ended (rw c.five.ensures at c.line-end.ensures) c.requires (search rules)

pub returns : goal.returns
returns c =
    rw (← c.printed-printed.ensures)
    (shown c.requires (room {p = c.printed-printed.result} c.requires (search rules))
    (rw c.five.ensures at c.line-end.ensures) c.blank.ensures)
