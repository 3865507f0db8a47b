-- layout::store::put_channels meets its contract. The invariant: the channels below k are written.
use mathlib.Core.Path.{ap₂, ◌∙◌}
use mathlib.Core.List.{◌++◌}
use native.Mathlib.Omega.{arith}
use Rattle.numbers.proofs.Laid.{begun_none, begun_put, begun_all, part_stretch}
use Rattle.units.specs.Limits.{CHANNELS}
use Rattle.tables.specs.Memory.{CHANNEL_BYTES}
use Rattle.layout.specs.Words.{CHANNEL_WORDS}
use Rattle.layout.proofs.Laying.{length_channel_laid}
use Rattle.layout.proofs.store.put_channels.Goals as goal

pub loop-k-init : goal.loop-k-init
loop-k-init c =
    begun_none CHANNEL_WORDS _ (length_channel_laid c.args.channels.now c.args.carried.now) c.args.count _ c.requires.3

pub loop-k-preserved : goal.loop-k-preserved
loop-k-preserved c =
    let l = c.loop-k in let k = l.k in
    let laid = c.put_channel.ensures
    ∙ ap₂ ◌++◌ (part_stretch CHANNEL_BYTES CHANNELS k c.args.channels.now c.requires.1 (omega arith)) (part_stretch 2 CHANNELS k c.args.carried.now c.requires.2 (omega arith)) in
    begun_put CHANNEL_WORDS _ (length_channel_laid c.args.channels.now c.args.carried.now) c.args.count _ _ k (omega arith) laid l.invariant

pub returns : goal.returns
returns c =
    begun_all CHANNEL_WORDS _ (length_channel_laid c.args.channels.now c.args.carried.now) c.args.count _ _ (omega arith) c.loop-k.invariant
