-- schedule::starts::at_depth meets its contract. The invariant: the starts are least for the channels below k to this depth.
use Rattle.std.proofs.Common.{◌<◌, arith}
use native.Mathlib.Nat.{mul-le-mul_right}
use Rattle.units.specs.Bounds.{MOST_WAIT}
use Rattle.tables.specs.Stored.{mode_of}
use Rattle.schedule.proofs.Finding.{read_aside, read_asked, reached_depth}
use Rattle.schedule.proofs.starts.at_depth.Goals.{else-depths-to, then-depths-to}
use Rattle.schedule.proofs.starts.at_depth.Goals as goal

pub least_start-start-requires : goal.least_start-start-requires
least_start-start-requires c =
    let l = c.loop-k in let ready = c.requires.0 in let from = c.channel-channel.result.from in
    let h : l.k < (mode_of c.args.mode.now).count = omega arith in (
      rw (c.end_of-producer.ensures, c.end_of-consumer.ensures, c.actor.ensures, c.actor-then-depths-to.ensures, c.channel-channel.ensures.is) (ready.paced l.k h),
      omega (arith, l.invariant.within from, mul-le-mul_right MOST_WAIT.0 (ready.below from)),
    )

pub loop-k-preserved : goal.loop-k-preserved
loop-k-preserved c =
    let l = c.loop-k in let is = c.channel-channel.ensures.is in
    let h : l.k < (mode_of c.args.mode.now).count = omega arith in
    elim c.if-depths-to.branch [
      | then-depths-to w ↦
          rw w.starts-is
          (read_asked _ _ _ c.requires.0 _ l.k l.starts h l.invariant _ is w.least_start-start.result _ w.if-depths-to.true
          (rw (w.end_of-producer.ensures, w.end_of-consumer.ensures, w.actor.ensures, w.actor-then-depths-to.ensures, is) at w.least_start-start.ensures)
          w.greater.ensures)
      | else-depths-to w ↦ rw w.starts-is (read_aside _ _ _ c.requires.0 _ l.k l.starts h l.invariant _ is w.if-depths-to.false)
    ]

pub returns : goal.returns
returns c = reached_depth _ _ _ c.requires.0 _ c.loop-k.k _ (omega arith) c.loop-k.invariant
