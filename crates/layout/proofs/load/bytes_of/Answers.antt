-- layout::load::bytes_of meets its contract. The invariant: the bytes below k are read.
use Rattle.std.proofs.Common.{arith}
use Rattle.numbers.specs.Tab.{is_tab}
use Rattle.tables.specs.Memory.{CHANNEL_BYTES}
use Rattle.layout.proofs.load.bytes_of.Goals as goal

pub returns : goal.returns
returns c = is_tab CHANNEL_BYTES _ _ 0 c.loop-k.invariant.long (λ j h. c.loop-k.invariant.done j (omega arith))
