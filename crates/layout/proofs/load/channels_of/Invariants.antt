use Rattle.numbers.specs.Joined.{part}
use Rattle.numbers.proofs.Laid.{Begun}
use Rattle.units.specs.Limits.{CHANNELS}
use Rattle.tables.specs.Memory.{CHANNEL_BYTES}
use Rattle.layout.specs.Words.{CHANNEL_WORDS}
use Rattle.layout.specs.Read.{cut_bytes}
use Rattle.layout.proofs.load.channels_of.Given as goal

abbrev pub invariant-loop-k : goal.invariant-loop-k
invariant-loop-k l = Begun CHANNEL_BYTES (λ j. cut_bytes (part CHANNEL_WORDS j l.words)) CHANNELS l.channels l.k
