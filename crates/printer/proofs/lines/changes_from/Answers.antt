-- printer::lines::changes_from meets its contract. The invariant: the lines of the first n are laid.
use native.Mathlib.Omega.{arith}
use Rattle.units.specs.Limits.{MODES}
use Rattle.printer.proofs.Held.{change_held}
use Rattle.printer.proofs.Laying.{laid_first, laid_next, laid_last, laid_as, room_next, room_as}
use Rattle.printer.proofs.lines.changes_from.Goals as goal

pub change-at-requires : goal.change-at-requires
change-at-requires c =
    let l = c.loop-n in (room_as (change_held c.args.words.now c.args.o l.n c.args.active _ c.requires.1 c.loop-n-test.true c.timing_of.ensures) (room_next _ l.n MODES c.loop-n-test.true c.requires.0 l.invariant), c.requires.1, c.loop-n-test.true)

pub loop-n-preserved : goal.loop-n-preserved
loop-n-preserved c =
    let l = c.loop-n in laid_next _ l.n l.invariant (laid_as (change_held c.args.words.now c.args.o l.n c.args.active _ c.requires.1 c.loop-n-test.true c.timing_of.ensures) c.change-at.ensures)

pub loop-n-init : goal.loop-n-init
loop-n-init c = laid_first _ _ _

pub returns : goal.returns
returns c = laid_last _ c.loop-n.n MODES (omega arith) c.loop-n-test.false c.loop-n.invariant
