use mathlib.Core.Path.{◌≡◌}
use Rattle.numbers.specs.Extreme.{most_of}
use Rattle.units.specs.Limits.{limit_of}
use Rattle.units.specs.Ticks.{tick, greater_tick}
use Rattle.change.specs.Running.{running_in}
use Rattle.change.specs.Waits.{waits_for}
use Rattle.change.proofs.wait.offset_of.Given as goal

abbrev pub invariant-loop-i : goal.invariant-loop-i
invariant-loop-i l = l.most ≡ greater_tick l.initial.most (tick (most_of (waits_for limit_of (running_in l.old.front.now) (running_in l.new.front.now)) l.i))
