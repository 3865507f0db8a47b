-- calls::plan meets its contract.
use native.Mathlib.Omega.{arith}
use Rattle.calls.specs.Prints.{refused}
use Rattle.calls.specs.Fills.{PlanFills}
use Rattle.calls.proofs.Telling.{prints_fills}
use Rattle.calls.proofs.plan.Goals as goal

pub returns-then-out-ne-PRINTED : goal.returns-then-out-ne-PRINTED
returns-then-out-ne-PRINTED c = rw c.nowhere.ensures (PlanFills.no_room c.if-out-ne-PRINTED.true)

pub returns-in-Ok : goal.returns-in-Ok
returns-in-Ok c = prints_fills (omega arith) c.in-Ok.ensures c.print.ensures

pub returns-in-Err : goal.returns-in-Err
returns-in-Err c = PlanFills.fills (omega arith) (refused c.in-Err.ensures) c.print_refusal.ensures
