-- What holds of the starts of every mode that its judgement does not refuse. Assumes nothing.
use mathlib.Core.Path.{subst}
use Prim.Native.Nat.{ℕ, ◌≤◌}
use native.Mathlib.Nat.{mul-le-mul_right}
use native.Mathlib.Omega.{arith}
use Rattle.units.specs.Bounds.{MOST_WAIT, MOST_START}
use Rattle.units.specs.Limits.{ACTORS}
use Rattle.units.specs.declared.Tick.{Tick}
use Rattle.tables.specs.Shape.{Mode}
use Rattle.tables.specs.Proper.{ProperMode}
use Rattle.std.specs.Prelude.{Ok}
use Rattle.graph.specs.declared.Judgement.{Judgement}
use Rattle.graph.specs.Judged.{Judged}
use Rattle.schedule.specs.Starts.{Starts}
use Rattle.schedule.specs.Reached.{start_at, Reached}
use Rattle.schedule.specs.Model.{starts_of}
use Rattle.schedule.proofs.Finding.{reached_starts}
use Rattle.schedule.proofs.Unique.{starts_unique}
use Rattle.schedule.proofs.Modelled.{ready, starts_found}

module _ (m : Mode) (j : Judgement) (proper : ProperMode m) (judged : Judged m (Ok j)) where
  found : Reached m j.periods j.depths ACTORS 0 (starts_of m j.periods j.depths)
  found = starts_found m j.periods j.depths (ready m j proper judged)

  -- there are such starts
  pub starts_exist : Starts m j.periods (start_at (starts_of m j.periods j.depths))
  starts_exist = reached_starts m j.periods j.depths (ready m j proper judged) _ found

  module _ (s : ℕ → Tick) (starts : Starts m j.periods s) where
    of_found : (P : (ℕ → Tick) → Type 0) → P (start_at (starts_of m j.periods j.depths)) → P s
    of_found P = subst P (starts_unique m j.periods starts_exist starts)

    -- no start is later than two iterations of the longest kind for each channel on the longest path
    pub starts_within : (i : ℕ) → (s i).0 ≤ MOST_START.0
    starts_within i =
        of_found (λ t. (t i).0 ≤ MOST_START.0)
        (omega (arith, found.within i, mul-le-mul_right MOST_WAIT.0 ((ready m j proper judged).below i)))
