-- printer::lines::actors meets its contract. The invariant: the lines of the first i are laid.
use native.Mathlib.Omega.{arith}
use Rattle.units.specs.Limits.{ACTORS}
use Rattle.printer.proofs.Held.{actor_held}
use Rattle.printer.proofs.Laying.{laid_first, laid_next, laid_last, laid_as, room_next, room_as}
use Rattle.printer.proofs.lines.actors.Goals as goal

pub actor-at-requires : goal.actor-at-requires
actor-at-requires c =
    let l = c.loop-i in (room_as (actor_held c.args.words.now c.args.m l.i _ _ c.loop-i-test.true c.head_of-head.ensures c.times_at.ensures) (room_next _ l.i ACTORS c.loop-i-test.true c.requires.0 l.invariant), c.requires.1, c.loop-i-test.true)

pub loop-i-preserved : goal.loop-i-preserved
loop-i-preserved c =
    let l = c.loop-i in laid_next _ l.i l.invariant (laid_as (actor_held c.args.words.now c.args.m l.i _ _ c.loop-i-test.true c.head_of-head.ensures c.times_at.ensures) c.actor-at.ensures)

pub loop-i-init : goal.loop-i-init
loop-i-init c = laid_first _ _ _

pub returns : goal.returns
returns c = laid_last _ c.loop-i.i ACTORS (omega arith) c.loop-i-test.false c.loop-i.invariant
