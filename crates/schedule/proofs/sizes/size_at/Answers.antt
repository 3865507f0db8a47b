-- schedule::sizes::size_at meets its contract.
use Rattle.std.proofs.Common.{◌<◌, arith}
use Rattle.tables.specs.Stored.{mode_of}
use Rattle.schedule.proofs.sizes.size_at.Goals as goal

pub size-requires : goal.size-requires
size-requires c =
    let h : c.args.k < (mode_of c.args.mode.now).count = omega arith in
    rw (c.end_of-producer.ensures, c.end_of-consumer.ensures, c.actor.ensures, c.actor-2.ensures, c.channel-channel.ensures.is)
    (c.requires.paced _ h, c.requires.fed _ h, c.requires.within _, c.requires.within _)

pub returns : goal.returns
returns c = (
  (λ _. rw (c.end_of-producer.ensures, c.end_of-consumer.ensures, c.actor.ensures, c.actor-2.ensures, c.channel-channel.ensures.is) at c.size.ensures),
  (λ l. absurd (omega arith)),
)
