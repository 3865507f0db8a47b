use mathlib.Core.Path.{◌≡◌}
use Prim.Native.Nat.{◌*◌}
use lib.ListN.{length}
use Rattle.units.specs.Limits.{MODES}
use Rattle.tables.specs.Memory.{TABLE_WORDS, TABLE_BYTES, table_in}
use Rattle.layout.specs.Blocks.{CARRIED_WORDS}
use Rattle.planner.proofs.Coming.{Coming}
use Rattle.planner.proofs.modes.plan_modes.Given as goal

abbrev pub invariant-loop-m : goal.invariant-loop-m
invariant-loop-m l =
    (length l.initial.fronts ≡ TABLE_WORDS) × (length l.channels ≡ TABLE_BYTES) × (length l.initial.carried ≡ CARRIED_WORDS * MODES) × Coming (table_in l.initial.fronts l.channels) l.channels l.fronts l.carried l.m
