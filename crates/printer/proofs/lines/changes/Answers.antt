-- printer::lines::changes meets its contract. The invariant: the lines of the first o are laid.
use native.Mathlib.Omega.{arith}
use Rattle.units.specs.Limits.{MODES}
use Rattle.printer.proofs.Laying.{laid_first, laid_next, laid_last, room_next}
use Rattle.printer.proofs.lines.changes.Goals as goal

pub changes_from-at-requires : goal.changes_from-at-requires
changes_from-at-requires c =
    let l = c.loop-o in let p = c.requires in (room_next _ l.o MODES c.loop-o-test.true p.0 l.invariant, c.loop-o-test.true, p.1, p.2)

pub loop-o-preserved : goal.loop-o-preserved
loop-o-preserved c =
    let l = c.loop-o in laid_next _ l.o l.invariant c.changes_from-at.ensures

pub loop-o-init : goal.loop-o-init
loop-o-init c = laid_first _ _ _

pub returns : goal.returns
returns c = laid_last _ c.loop-o.o MODES (omega arith) c.loop-o-test.false c.loop-o.invariant
