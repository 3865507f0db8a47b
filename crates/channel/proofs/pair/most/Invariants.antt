use Rattle.std.proofs.Common.{◌≡◌, take}
use Rattle.channel.specs.Phases.{most_of_pairs}
use Rattle.channel.proofs.pair.most.Given as goal

abbrev pub invariant-loop-phase : goal.invariant-loop-phase
invariant-loop-phase g l = l.most ≡ most_of_pairs g.A.Number.number g.A.Number.count g.B.Number.number (take l.phase-index l.phases) l.unit l.other
