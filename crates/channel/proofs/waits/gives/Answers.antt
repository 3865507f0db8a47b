-- channel::waits::gives meets its contract. The invariant: the phases below s have their marks, and what they make is counted.
use Rattle.std.proofs.Common.{refl, le_of_lt, arith}
use Rattle.numbers.specs.Sum.{sum}
use Rattle.channel.specs.Phases.{listed_more}
use Rattle.channel.specs.Bounds.{give_early, is_phase, tokens_by, fit_here, next_here}
use Rattle.channel.proofs.waits.gives.Goals as goal

pub loop-s-init : goal.loop-s-init
unfolding sum
loop-s-init c = record { marks = refl; made = refl }

pub plus-requires : goal.plus-requires
plus-requires c =
    let l = is_phase _ c.requires.0.proper c.rates-rate-items.ensures _ c.loop-s-test.true in
    rw c.loop-s.invariant.made (omega (arith, tokens_by c.args.producer c.requires.0.proper c.loop-s.s (le_of_lt l)))

pub give-requires : goal.give-requires
give-requires c =
    let l = is_phase _ c.requires.0.proper c.rates-rate-items.ensures _ c.loop-s-test.true in
    rw (c.ends-at.ensures, c.phases.ensures, c.plus.ensures, c.loop-s.invariant.made) (c.requires.2, give_early c.args.producer c.loop-s.s c.requires.0 l c.args.start c.requires.1)

pub plus-made-requires : goal.plus-made-requires
plus-made-requires c = fit_here _ c.requires.0.proper c.rates-rate-items.ensures _ c.loop-s-test.true c.loop-s.invariant.made c.moved.ensures

pub loop-s-preserved : goal.loop-s-preserved
loop-s-preserved c =
    let l = is_phase _ c.requires.0.proper c.rates-rate-items.ensures _ c.loop-s-test.true in
    record {
      marks = listed_more _ _ _ _ (omega (arith, l))
          (rw (c.give.ensures, c.ends-at.ensures, c.phases.ensures, c.plus.ensures, c.loop-s.invariant.made)) c.loop-s.invariant.marks;
      made = next_here _ c.requires.0.proper c.rates-rate-items.ensures _ c.loop-s-test.true c.loop-s.invariant.made c.moved.ensures c.plus-made.ensures;
    }
