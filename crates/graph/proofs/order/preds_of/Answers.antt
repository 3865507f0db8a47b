-- graph::order::preds_of meets its contract. The invariant: the sets are those of the first k channels.
use mathlib.Core.Path.{◌≡◌, refl, ap, ◌∙◌}
use native.Mathlib.Omega.{arith}
use Rattle.numbers.specs.Bits.{with_is}
use Rattle.tables.specs.Stored.{mode_of}
use Rattle.graph.specs.Rounds.{preds_from}
use Rattle.graph.proofs.Sorted.{preds_next}
use Rattle.graph.proofs.order.preds_of.Goals as goal

pub loop-k-init : goal.loop-k-init
unfolding preds_from
loop-k-init c = refl

pub loop-k-preserved : goal.loop-k-preserved
loop-k-preserved c = preds_next _ _ _ _ _ c.loop-k.invariant c.channel-channel.ensures.is (with_is _ _ c.with.ensures)

pub returns : goal.returns
returns c = let e : c.loop-k.k ≡ (mode_of c.args.mode.now).count = omega arith in c.loop-k.invariant ∙ ap (preds_from _) e
