-- graph::balance::flow_at meets its contract.
use Rattle.tables.proofs.Stored.{proper_of}
use Rattle.graph.proofs.balance.flow_at.Goals as goal

pub cycle_tokens-requires : goal.cycle_tokens-requires
cycle_tokens-requires c =
    let p = c.channel-channel.ensures.proper in (rw c.actor-maker.ensures ((proper_of c.args.mode.now).actor _ p.from p.from_active).phases, p.production.long)

pub cycle_tokens-requires-2 : goal.cycle_tokens-requires-2
cycle_tokens-requires-2 c =
    let p = c.channel-channel.ensures.proper in (rw c.actor-taker.ensures ((proper_of c.args.mode.now).actor _ p.to p.to_active).phases, p.consumption.long)

pub returns : goal.returns
returns c = rw (c.cycle_tokens.ensures, c.cycle_tokens-2.ensures, c.actor-maker.ensures, c.actor-taker.ensures, c.channel-channel.ensures.is)
