-- calls::ask meets its contract.
use native.Mathlib.Omega.{arith}
use Rattle.calls.specs.Fills.{AskFills}
use Rattle.calls.proofs.ask.Goals as goal

pub returns-then-out-arguments : goal.returns-then-out-arguments
returns-then-out-arguments c = rw c.nowhere.ensures (AskFills.no_room (λ e. absurd (omega (arith, e, c.if-out-arguments.true))))

pub returns : goal.returns
returns c = AskFills.fills (omega (arith, c.if-out-arguments.false)) c.answer.ensures
