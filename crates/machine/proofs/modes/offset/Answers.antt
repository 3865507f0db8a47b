-- machine::modes::offset meets its contract.
use mathlib.Core.Path.{ap₂, ◌∙◌}
use Prim.Native.Nat.{ℕ}
use native.Mathlib.Omega.{arith}
use Rattle.planning.specs.Plan.{change_at}
use Rattle.machine.proofs.Words.{stored_long, offset_told}
use Rattle.machine.proofs.modes.offset.Goals as goal

pub slice_bounds-offset_of-end : goal.slice_bounds-offset_of-end
slice_bounds-offset_of-end c = omega (arith, stored_long c.requires.0)

pub returns : goal.returns
returns c =
    λ t w l. c.offset_of.ensures ∙ offset_told l _ _ (omega (arith, c.place_of.ensures, c.requires)) (omega (arith, c.place_of-2.ensures, c.requires))
    ∙ ap₂ (λ (o n : ℕ). (change_at w o n).offset) c.place_of.ensures c.place_of-2.ensures
