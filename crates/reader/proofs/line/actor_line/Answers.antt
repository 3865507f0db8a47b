-- reader::line::actor_line meets its contract.
use Rattle.reader.proofs.Fields.{no_number, at_place, no_actor, an_actor}
use Rattle.reader.proofs.line.actor_line.Goals as goal

pub returns-in_err-mode : goal.returns-in_err-mode
returns-in_err-mode c = rw c.from_residual.ensures (no_actor (λ r i e. no_number c.in_err-mode.ensures r.mode i.mode (at_place 0 e)))

pub returns-in_err-actor : goal.returns-in_err-actor
returns-in_err-actor c = rw c.from_residual-in_err-actor.ensures (no_actor (λ r i e. no_number c.in_err-actor.ensures r.actor i.actor (at_place 1 e)))

pub returns-in_err-phases : goal.returns-in_err-phases
returns-in_err-phases c = rw c.from_residual-in_err-phases.ensures (no_actor (λ r i e. no_number c.in_err-phases.ensures r.is.phases i.phases (at_place 2 e)))

pub returns-in_err-wcet : goal.returns-in_err-wcet
returns-in_err-wcet c = rw c.from_residual-in_err-wcet.ensures (no_actor (λ r i e. no_number (rw c.ticks.ensures at c.in_err-wcet.ensures) r.is.wcet.0 i.wcet (at_place 3 e)))

pub returns-in_err-processor : goal.returns-in_err-processor
returns-in_err-processor c = rw c.from_residual-in_err-processor.ensures (no_actor (λ r i e. no_number c.in_err-processor.ensures r.is.processor i.processor (at_place 4 e)))

pub returns : goal.returns
returns c =
    rw (c.of.ensures, c.place_of.ensures, c.place_of-place.ensures)
    (an_actor _ c.in_ok-mode.ensures c.in_ok-actor.ensures c.in_ok-phases.ensures (rw c.ticks.ensures at c.in_ok-wcet.ensures) c.in_ok-processor.ensures)
