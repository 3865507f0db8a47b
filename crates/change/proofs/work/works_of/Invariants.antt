use mathlib.Core.Path.{◌≡◌}
use Rattle.change.specs.Running.{running_in}
use Rattle.change.proofs.Loads.{work_on}
use Rattle.change.proofs.Fronts.{starts_since, starts_until}
use Rattle.change.proofs.work.works_of.Given as goal

abbrev pub invariant-loop-k : goal.invariant-loop-k
invariant-loop-k l =
    (l.since ≡ work_on (running_in l.front) l.processor (starts_since l.front l.start) l.k) × (l.until ≡ work_on (running_in l.front) l.processor (starts_until l.front l.start) l.k)
