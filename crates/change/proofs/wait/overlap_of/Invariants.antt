use mathlib.Core.Path.{◌≡◌}
use Rattle.numbers.specs.Extreme.{most_of}
use Rattle.units.specs.Ticks.{tick}
use Rattle.change.specs.Running.{running_in}
use Rattle.change.specs.Waits.{lead_of}
use Rattle.change.proofs.wait.overlap_of.Given as goal

abbrev pub invariant-loop-i : goal.invariant-loop-i
invariant-loop-i l = l.most ≡ tick (most_of (lead_of (running_in l.old) (running_in l.new)) l.i)
