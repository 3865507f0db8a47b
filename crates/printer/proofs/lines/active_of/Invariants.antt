use Rattle.std.proofs.Common.{◌≡◌, ℕ, ◌<◌, length, get_or}
use Rattle.units.specs.Limits.{MODES}
use Rattle.tables.specs.Shape.{mode_at}
use Rattle.layout.specs.Read.{graph_of}
use Rattle.printer.proofs.lines.active_of.Given as goal

abbrev pub invariant-loop-m : goal.invariant-loop-m
invariant-loop-m l = record {
  long : length l.active-items ≡ MODES;
  done : (k : ℕ) → k < l.m → get_or l.active-items k 0 ≡ (mode_at (graph_of l.words) k).active;
}
