-- layout::store::put_actors meets its contract. The invariant: what is planned of the actors below i is written.
use Prim.Native.Nat.{◌+◌}
use native.Mathlib.Omega.{arith}
use Rattle.layout.proofs.Laying.{timed_none, timed_next, timed_long, timed_all}
use Rattle.layout.proofs.store.put_actors.Goals as goal

pub loop-i-preserved : goal.loop-i-preserved
loop-i-preserved c =
    let l = c.loop-i in let a = c.args in let t = timed_next a.words.now a.part l.words c.put_times.new.words l.i (omega arith) l.invariant.1 c.put_times.ensures in
    (timed_long a.words.now a.part _ (l.i + 1) t, t)

pub loop-i-init : goal.loop-i-init
loop-i-init c = (c.requires, timed_none _ c.args.part c.requires)

pub returns : goal.returns
returns c = timed_all _ c.args.part _ _ (omega arith) c.loop-i.invariant.1
