-- arguments::request_of meets its contract.
use Rattle.arguments.proofs.Reading.{unparted, no_mode, no_clock, read_request}
use Rattle.arguments.proofs.request_of.Goals as goal

pub returns-in_err-sign : goal.returns-in_err-sign
returns-in_err-sign c = rw c.from_residual.ensures (unparted _ c.in_err-sign.ensures)

pub returns-in_err-mode : goal.returns-in_err-mode
returns-in_err-mode c = rw c.from_residual-in_err-mode.ensures (no_mode _ c.in_ok-sign.ensures c.in_err-mode.ensures)

pub returns-in_err-clock : goal.returns-in_err-clock
returns-in_err-clock c = rw c.from_residual-in_err-clock.ensures (no_clock _ c.in_ok-sign.ensures c.in_err-clock.ensures)

pub returns : goal.returns
returns c = rw c.of.ensures (read_request _ c.in_ok-sign.ensures c.in_ok-mode.ensures c.in_ok-clock.ensures)
