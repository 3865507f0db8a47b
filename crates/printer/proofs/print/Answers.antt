-- printer::print meets its contract.
use Rattle.std.proofs.Common.{◌≡◌, List, ℕ, length, arith}
use Rattle.numbers.specs.Tab.{length_tab}
use Rattle.units.specs.Limits.{MODES}
use Rattle.tables.specs.Shape.{Table, mode_at}
use Rattle.planning.specs.Shape.{Plan}
use Rattle.rfc4180.specs.Laid.{Room}
use Rattle.layout.specs.Read.{graph_of, plan_of}
use Rattle.printer.specs.Printed.{PRINTED, Small, plan_text, changes_text, active_of}
use Rattle.rfc4180.proofs.Laying.{laid_then, room_first, room_then}
use Rattle.printer.proofs.Laying.{room_end, shown}
use Rattle.printer.proofs.Fitting.{plan_fits}
use Rattle.printer.proofs.print.Goals as goal

room : {out : List ℕ} {t : Table} {w : Plan} → length out ≡ PRINTED → Small t w → Room out 0 (plan_text t w)
room {out} {t} {w} long s = record { fits = omega (arith, plan_fits t w s) }

pub modes-at-requires : goal.modes-at-requires
modes-at-requires c =
    let words = c.args.words.now in (room_first (changes_text (active_of (graph_of words)) (plan_of words).changes) (room c.requires.1 c.requires.2), c.requires.0, c.requires.2)

pub changes-end-requires : goal.changes-end-requires
changes-end-requires c =
    let e = c.active_of-active.ensures in (rw e (room_then (room c.requires.1 c.requires.2) c.modes-at.ensures), rw e (length_tab MODES (λ m. (mode_at (graph_of c.args.words.now) m).active)), c.requires.0)

pub blank-requires : goal.blank-requires
blank-requires c =
    room_end (room c.requires.1 c.requires.2) (laid_then c.modes-at.ensures (rw c.active_of-active.ensures at c.changes-end.ensures))

pub returns : goal.returns
returns c =
    shown c.requires.1 (room c.requires.1 c.requires.2) (laid_then c.modes-at.ensures (rw c.active_of-active.ensures at c.changes-end.ensures)) c.blank.ensures
