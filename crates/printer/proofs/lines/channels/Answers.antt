-- printer::lines::channels meets its contract. The invariant: the lines of the first k are laid.
use Prim.Native.Nat.{◌<◌}
use native.Mathlib.Omega.{arith}
use Rattle.units.specs.Limits.{CHANNELS}
use Rattle.layout.specs.Read.{mode_of}
use Rattle.printer.proofs.Held.{count_held, from_held, to_held, channel_held_law}
use Rattle.printer.proofs.Laying.{laid_first, laid_next, laid_last, laid_as, room_next, room_as}
use Rattle.printer.proofs.lines.channels.Goals as goal

pub loop-k-init : goal.loop-k-init
loop-k-init c =
    record { few = omega (arith, count_held c.args.words.now _ c.head_of-head.ensures, c.requires.3.count); laid = laid_first _ _ _ }

pub channel-at-requires : goal.channel-at-requires
channel-at-requires c =
    let l = c.loop-k in let words = c.args.words.now in let e = c.link_of.ensures in
    let h : l.k < CHANNELS = omega arith in
    let g : l.k < (mode_of words).count = omega (arith, count_held words _ c.head_of-head.ensures) in (
      room_as (channel_held_law words l.k _ h e c.args.m) (room_next _ l.k _ g c.requires.0 l.invariant.laid),
      c.requires.1,
      omega (arith, from_held words l.k _ h e, c.requires.3.from l.k g),
      omega (arith, to_held words l.k _ h e, c.requires.3.to l.k g),
    )

pub loop-k-preserved : goal.loop-k-preserved
loop-k-preserved c =
    let l = c.loop-k in record {
      few = l.invariant.few;
      laid = laid_next _ l.k l.invariant.laid (laid_as (channel_held_law c.args.words.now l.k _ (omega arith) c.link_of.ensures c.args.m) c.channel-at.ensures);
    }

pub returns : goal.returns
returns c =
    let n = count_held c.args.words.now _ c.head_of-head.ensures in
    laid_last _ c.loop-k.k _ (omega (arith, n)) (omega (arith, n)) c.loop-k.invariant.laid
