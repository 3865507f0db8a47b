-- tables::memory::put_channel meets its contract.
use mathlib.Core.Path.{ap₂, ◌∙◌}
use mathlib.Core.List.{List}
use Prim.Native.Nat.{ℕ, ◌+◌}
use borrow.Rule.Slice.PartMut.{put_mid}
use lib.ListN.{set}
use Rattle.units.specs.Limits.{PHASES}
use Rattle.tables.proofs.Shape.{channel_shape}
use Rattle.tables.proofs.Remembered.{channel_stored}
use Rattle.tables.proofs.memory.put_channel.Goals as goal

pub returns : goal.returns
returns c =
    let k = c.args.channel in let shape = channel_shape k _ c.well_formed.0 in
    ap₂ (λ (x y : List ℕ). set (set (put_mid (2 + PHASES) PHASES (put_mid 2 PHASES c.args.bytes.now x) y) 0 k.from) 1 k.to) c.copy_from_slice.ensures.after c.copy_from_slice-2.ensures.after
    ∙ channel_stored c.args.bytes.now k c.requires.0 shape.production.long shape.consumption.long
