use Rattle.numbers.proofs.Laid.{Begun}
use Rattle.layout.specs.Words.{CHANGES, CHANGE_WORDS}
use Rattle.planner.proofs.Timing.{change_in}
use Rattle.planner.proofs.changes.put_changes.Given as goal

abbrev pub invariant-loop-n : goal.invariant-loop-n
invariant-loop-n l = Begun CHANGE_WORDS (change_in l.modes) CHANGES l.behind l.n
