-- schedule::sizes::tokens_at meets its contract.
use Rattle.std.proofs.Common.{◌<◌, arith}
use borrow.Author.Tests.{lt-ltb}
use Rattle.tables.specs.Stored.{mode_of}
use Rattle.schedule.proofs.sizes.tokens_at.Goals as goal

pub returns : goal.returns
returns c =
    let h : c.args.k < (mode_of c.args.mode.now).count = omega arith in
    rw (lt-ltb _ _ h, c.tokens.ensures, c.actor-actor.ensures, c.channel-channel.ensures.is)
