use Rattle.numbers.proofs.Laid.{Begun}
use Rattle.units.specs.Limits.{CHANNELS}
use Rattle.layout.specs.Blocks.{carried_at}
use Rattle.layout.proofs.store.put_carried.Given as goal

abbrev pub invariant-loop-k : goal.invariant-loop-k
invariant-loop-k l = Begun 2 (carried_at l.part) CHANNELS l.words l.k
