-- channel::claims::claims meets its contract. The invariant: the phases below s have their holds, and what they make is counted.
use Rattle.std.proofs.Common.{refl, arith}
use Rattle.numbers.specs.Sum.{sum}
use Rattle.channel.specs.Phases.{listed_more}
use Rattle.channel.specs.Bounds.{claiming_early, is_phase, fit_here, next_here}
use Rattle.channel.proofs.claims.claims.Goals as goal

pub loop-s-init : goal.loop-s-init
unfolding sum
loop-s-init c = record { holds = refl; made = refl }

pub plus-made-requires : goal.plus-made-requires
plus-made-requires c = fit_here _ c.requires.0.proper c.rates-rate-items.ensures _ c.loop-s-test.true c.loop-s.invariant.made c.moved.ensures

pub claiming-requires : goal.claiming-requires
claiming-requires c =
    let l = is_phase _ c.requires.0.proper c.rates-rate-items.ensures _ c.loop-s-test.true in
    let made = next_here _ c.requires.0.proper c.rates-rate-items.ensures _ c.loop-s-test.true c.loop-s.invariant.made c.moved.ensures c.plus-made.ensures in
    rw (c.plus-by.ensures, c.begins.ensures, c.phases.ensures, made) (c.requires.2, claiming_early c.args.producer c.loop-s.s c.requires.0 l c.args.start c.requires.1)

pub loop-s-preserved : goal.loop-s-preserved
loop-s-preserved c =
    let l = is_phase _ c.requires.0.proper c.rates-rate-items.ensures _ c.loop-s-test.true in
    let made = next_here _ c.requires.0.proper c.rates-rate-items.ensures _ c.loop-s-test.true c.loop-s.invariant.made c.moved.ensures c.plus-made.ensures in
    record {
      holds = listed_more _ _ _ _ (omega (arith, l)) (rw (c.claiming.ensures, c.plus-by.ensures, c.begins.ensures, c.phases.ensures, made)) c.loop-s.invariant.holds;
      made = made;
    }
