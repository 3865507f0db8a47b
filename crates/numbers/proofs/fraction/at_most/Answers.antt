-- numbers::fraction::at_most meets its contract. The invariant: the question of x and y is that of a and b. The measure is the sum of their wholes.
use mathlib.Core.Logic.Iff
use native.Mathlib.Nat.{pos_of_ne-zero}
use Rattle.numbers.specs.Decides.{decides_yes, decides_no}
use Rattle.numbers.specs.Fraction.{parts_differ, parts_same, nothing_left, nothing_there}
use Rattle.numbers.proofs.fraction.at_most.Goals as goal

pub returns-then-p-q : goal.returns-then-p-q
returns-then-p-q c =
    let l = c.loop-x in Iff.trans (parts_differ l.x l.y l.invariant.0 l.invariant.1 c.if-p-q.true) l.invariant.2

pub returns-then-r-eq0 : goal.returns-then-r-eq0
returns-then-r-eq0 c =
    let l = c.loop-x in Iff.trans (decides_yes (nothing_left l.x l.y l.invariant.0 l.invariant.1 c.if-p-q.false c.if-r-eq0.true)) l.invariant.2

pub returns-then-s-eq0 : goal.returns-then-s-eq0
returns-then-s-eq0 c =
    let l = c.loop-x in Iff.trans (decides_no (nothing_there l.x l.y l.invariant.0 l.invariant.1 c.if-p-q.false c.if-r-eq0.false c.if-s-eq0.true)) l.invariant.2

pub loop-x-preserved : goal.loop-x-preserved
loop-x-preserved c =
    let l = c.loop-x in (
      pos_of_ne-zero c.if-s-eq0.false,
      pos_of_ne-zero c.if-r-eq0.false,
      Iff.trans (parts_same l.x l.y l.invariant.0 l.invariant.1 c.if-p-q.false) l.invariant.2,
    )
