use Rattle.std.proofs.Common.{◌-◌, length}
use Rattle.reader.proofs.Progress.{Progress}
use Rattle.reader.proofs.rows.Given as goal

abbrev pub invariant-loop-at : goal.invariant-loop-at
invariant-loop-at l = Progress l.text l.fronts l.channels l.homes l.at l.row

abbrev pub decreases-loop-at : goal.decreases-loop-at
decreases-loop-at l = length l.text - l.at
