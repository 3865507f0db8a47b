-- machine::modes::pace meets its contract.
use mathlib.Core.Path.{ap, ◌∙◌}
use native.Mathlib.Omega.{arith}
use Rattle.machine.specs.Steps.{pace_at}
use Rattle.machine.proofs.Steps.{pace_within}
use Rattle.machine.proofs.modes.pace.Goals as goal

pub returns : goal.returns
returns c = λ t w l. c.pace_at.ensures t w l ∙ ap (pace_at t w) c.place_of.ensures ∙ pace_within t w c.args.mode (grind arith) (grind arith)
