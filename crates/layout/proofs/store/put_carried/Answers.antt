-- layout::store::put_carried meets its contract. The invariant: what is planned of the channels below k is written.
use mathlib.Core.Path.{refl}
use native.Mathlib.Omega.{arith}
use Rattle.numbers.proofs.Laid.{begun_none, begun_put, begun_all}
use Rattle.units.specs.Limits.{CHANNELS}
use Rattle.layout.proofs.store.put_carried.Goals as goal

pub loop-k-preserved : goal.loop-k-preserved
loop-k-preserved c =
    let l = c.loop-k in begun_put 2 _ (λ j. refl) CHANNELS _ _ l.k (omega arith) c.put_pair.ensures l.invariant

pub loop-k-init : goal.loop-k-init
loop-k-init c = begun_none 2 _ (λ j. refl) CHANNELS _ c.requires

pub returns : goal.returns
returns c = begun_all 2 _ (λ j. refl) CHANNELS _ _ (omega arith) c.loop-k.invariant
