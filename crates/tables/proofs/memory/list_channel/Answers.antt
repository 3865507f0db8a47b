-- tables::memory::list_channel meets its contract.
use mathlib.Core.Path.{refl}
use lib.ListN.{get_or}
use Rattle.tables.proofs.Remembered.{channels_listed}
use Rattle.tables.proofs.memory.list_channel.Goals as goal

pub returns : goal.returns
returns c =
    (refl, channels_listed c.args.channels.now c.requires.1 (get_or c.args.front.now 1 0) c.args.channel c.put_channel.new.bytes c.requires.2 c.put_channel.ensures)
