-- machine::modes::pace_at meets its contract.
use mathlib.Core.Path.{◌∙◌}
use native.Mathlib.Omega.{arith}
use lib.ListN.{length-take, length-drop}
use Rattle.machine.proofs.Words.{stored_long, stored_sink, pace_told}
use Rattle.machine.proofs.modes.pace_at.Goals as goal

pub slice_bounds-pace_of-end : goal.slice_bounds-pace_of-end
slice_bounds-pace_of-end c = omega (arith, stored_long c.requires.0)

pub pace_of-requires : goal.pace_of-requires
pace_of-requires c =
    (simp (length-take, length-drop) (omega (arith, stored_long c.requires.0)), stored_sink c.args.words.now c.requires.0 c.args.place c.requires.1)

pub returns : goal.returns
returns c = λ t w l. c.pace_of.ensures ∙ pace_told l c.args.place c.requires.1
