use mathlib.Core.Path.{◌≡◌}
use Rattle.std.specs.Prelude.{Some}
use Rattle.graph.specs.Lengths.{common_from}
use Rattle.graph.proofs.iteration.common_of.Given as goal

abbrev pub invariant-loop-i : goal.invariant-loop-i
invariant-loop-i l = common_from l.fn.firings l.active l.i ≡ Some l.multiple
