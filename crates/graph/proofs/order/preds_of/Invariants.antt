use mathlib.Core.Path.{◌≡◌}
use Rattle.tables.specs.Stored.{mode_of}
use Rattle.graph.specs.Rounds.{preds_from}
use Rattle.graph.proofs.order.preds_of.Given as goal

abbrev pub invariant-loop-k : goal.invariant-loop-k
invariant-loop-k l = l.preds ≡ preds_from (mode_of l.mode) l.k
