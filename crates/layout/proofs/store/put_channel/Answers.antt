-- layout::store::put_channel meets its contract.
use Rattle.numbers.proofs.Laid.{put_two}
use Rattle.tables.specs.Memory.{CHANNEL_BYTES}
use Rattle.layout.proofs.store.put_channel.Goals as goal

pub returns : goal.returns
returns c =
    put_two CHANNEL_BYTES 2 _ _ c.args.words.now _ _ c.requires.2 c.requires.0 c.requires.1 c.put_bytes.ensures c.copy_from_slice.ensures.after
