use Rattle.numbers.proofs.Laid.{Begun}
use Rattle.layout.specs.Words.{CHANNEL_WORDS}
use Rattle.layout.specs.Blocks.{channel_laid}
use Rattle.layout.proofs.store.put_channels.Given as goal

abbrev pub invariant-loop-k : goal.invariant-loop-k
invariant-loop-k l = Begun CHANNEL_WORDS (channel_laid l.channels l.carried) l.count l.words l.k
