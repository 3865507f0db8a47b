-- printer::modes meets its contract. The invariant: the lines of the first m are laid.
use native.Mathlib.Omega.{arith}
use lib.ListN.{length-take, length-drop}
use Rattle.units.specs.Limits.{MODES}
use Rattle.printer.proofs.Held.{mode_held, small_held}
use Rattle.printer.proofs.Laying.{laid_first, laid_next, laid_last, laid_as, room_next, room_as}
use Rattle.printer.proofs.modes.Goals as goal

pub mode-at-requires : goal.mode-at-requires
mode-at-requires c =
    let l = c.loop-m in let h = c.loop-m-test.true in let words = c.args.words.now in (room_as (mode_held words l.m h) (room_next _ l.m MODES h c.requires.0 l.invariant), h, simp (length-take, length-drop) (omega arith), small_held words l.m h c.requires.2)

pub loop-m-preserved : goal.loop-m-preserved
loop-m-preserved c =
    let l = c.loop-m in laid_next _ l.m l.invariant (laid_as (mode_held c.args.words.now l.m c.loop-m-test.true) c.mode-at.ensures)

pub loop-m-init : goal.loop-m-init
loop-m-init c = laid_first _ _ _

pub returns : goal.returns
returns c = laid_last _ c.loop-m.m MODES (omega arith) c.loop-m-test.false c.loop-m.invariant
