-- graph::balance::entries_of meets its contract. The invariant: the channels below k are left.
use mathlib.Core.Path.{◌≡◌, sym, ◌∙◌}
use native.Mathlib.Omega.{arith}
use Rattle.graph.specs.Counts.{entries_from}
use Rattle.graph.proofs.Entries.{entries_next}
use Rattle.graph.proofs.balance.entries_of.Goals as goal

pub loop-k-preserved : goal.loop-k-preserved
loop-k-preserved c = c.loop-k.invariant ∙ entries_next _ c.loop-k.k c.loop-k.entries _ (omega arith) c.channel-channel.ensures.is

pub returns : goal.returns
unfolding entries_from
returns c = let e : c.loop-k.k ≡ 0 = omega arith in sym (rw e at c.loop-k.invariant)
