use Rattle.numbers.proofs.Laid.{Begun}
use Rattle.units.specs.Limits.{MODES}
use Rattle.layout.specs.Words.{MODE_WORDS}
use Rattle.planner.specs.Modes.{laid_at}
use Rattle.planner.proofs.modes.put_modes.Given as goal

abbrev pub invariant-loop-m : goal.invariant-loop-m
invariant-loop-m l = Begun MODE_WORDS (laid_at l.fronts l.channels l.carried) MODES l.words l.m
