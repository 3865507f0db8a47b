-- reader::line::channel_line meets its contract.
use Rattle.reader.proofs.Fields.{no_number, no_rates, at_place, no_channel, a_channel}
use Rattle.reader.proofs.line.channel_line.Goals as goal

pub returns-in_err-mode : goal.returns-in_err-mode
returns-in_err-mode c = rw c.from_residual.ensures (no_channel (λ r i e. no_number c.in_err-mode.ensures r.mode i.mode (at_place 0 e)))

pub returns-in_err-from : goal.returns-in_err-from
returns-in_err-from c = rw c.from_residual-in_err-from.ensures (no_channel (λ r i e. no_number c.in_err-from.ensures r.from i.from (at_place 1 e)))

pub returns-in_err-to : goal.returns-in_err-to
returns-in_err-to c = rw c.from_residual-in_err-to.ensures (no_channel (λ r i e. no_number c.in_err-to.ensures r.to i.to (at_place 2 e)))

pub returns-in_err-production : goal.returns-in_err-production
returns-in_err-production c = rw c.from_residual-in_err-production.ensures (no_channel (λ r i e. no_rates c.in_err-production.ensures r.production i.production (at_place 3 e)))

pub returns-in_err-consumption : goal.returns-in_err-consumption
returns-in_err-consumption c = rw c.from_residual-in_err-consumption.ensures (no_channel (λ r i e. no_rates c.in_err-consumption.ensures r.consumption i.consumption (at_place 4 e)))

pub returns : goal.returns
returns c =
    rw (c.place_of.ensures, c.place_of-2.ensures, c.place_of-3.ensures)
    (a_channel _ c.in_ok-mode.ensures c.in_ok-from.ensures c.in_ok-to.ensures c.in_ok-production.ensures c.in_ok-consumption.ensures)
