use mathlib.Core.Path.{◌≡◌}
use Prim.Native.Nat.{◌*◌}
use lib.ListN.{length}
use Rattle.units.specs.Limits.{ACTORS}
use Rattle.tables.specs.Memory.{ACTOR_WORDS}
use Rattle.layout.proofs.Laying.{Timed}
use Rattle.layout.proofs.store.put_actors.Given as goal

abbrev pub invariant-loop-i : goal.invariant-loop-i
invariant-loop-i l = (length l.words ≡ ACTOR_WORDS * ACTORS) × Timed l.initial.words l.part l.words l.i
