use mathlib.Core.Path.{◌≡◌}
use Rattle.std.specs.Prelude.{Some}
use Rattle.tables.specs.Stored.{mode_of}
use Rattle.graph.specs.Counts.{counts_from}
use Rattle.graph.proofs.balance.counts_of.Given as goal

abbrev pub invariant-loop-n : goal.invariant-loop-n
invariant-loop-n l = counts_from (mode_of l.mode) l.entries l.depths l.source l.n ≡ Some l.counts
