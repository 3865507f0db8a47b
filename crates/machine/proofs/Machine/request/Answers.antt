-- machine::Machine::request meets its contract.
use Rattle.std.specs.Prelude.{refl}
use Rattle.machine.proofs.Steps.{near, accepts}
use Rattle.machine.proofs.Machine.request.Goals as goal

pub change-requires : goal.change-requires
change-requires c = let (t, w, l, h, e) = c.in-Ok.ensures in near l c.args.mode h e

pub returns-in-Ok : goal.returns-in-Ok
returns-in-Ok c = let (t, w, l, h, e) = c.in-Ok.ensures in rw c.change.ensures (accepts l h e refl refl)
