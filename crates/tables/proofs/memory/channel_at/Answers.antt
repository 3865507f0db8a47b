-- tables::memory::channel_at meets its contract.
use Rattle.tables.proofs.Remembered.{channel_read}
use Rattle.tables.proofs.memory.channel_at.Goals as goal

pub returns : goal.returns
returns c =
    channel_read c.args.channels.now c.args.k _ _ c.requires.0 c.requires.1 c.rates_of-production.ensures c.rates_of-consumption.ensures
