use mathlib.Core.Path.{◌≡◌}
use Rattle.numbers.specs.Extreme.{most_of}
use Rattle.units.specs.Limits.{limit_of}
use Rattle.units.specs.Ticks.{tick, greater_tick}
use Rattle.change.specs.Running.{running_in}
use Rattle.change.specs.Waits.{wait_on}
use Rattle.change.proofs.wait.waits.Given as goal

abbrev pub invariant-loop-j : goal.invariant-loop-j
invariant-loop-j l = l.most ≡ greater_tick l.initial.most (tick (most_of (wait_on limit_of l.processor l.left (running_in l.new.front.now)) l.j))
