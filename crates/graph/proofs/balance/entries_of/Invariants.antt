use mathlib.Core.Path.{◌≡◌}
use Rattle.tables.specs.Stored.{mode_of}
use Rattle.graph.specs.Counts.{entries_from, entries_of}
use Rattle.graph.proofs.balance.entries_of.Given as goal

abbrev pub invariant-loop-k : goal.invariant-loop-k
invariant-loop-k l = entries_of (mode_of l.mode) ≡ entries_from (mode_of l.mode) l.k l.entries
