-- planning::modes::plan_mode meets its contract.
use Rattle.planning.proofs.Told.{judged_refuses, scheduled_refuses, scheduled_planned}
use Rattle.planning.proofs.modes.plan_mode.Goals as goal

pub returns-in-Err : goal.returns-in-Err
returns-in-Err c = rw c.refusal_by.ensures (judged_refuses _ c.in-Err.ensures)

pub returns-in-Err-schedule : goal.returns-in-Err-schedule
returns-in-Err-schedule c = rw c.number_of.ensures (scheduled_refuses _ c.in-Ok.ensures c.in-Err-schedule.ensures)

pub returns-in-Ok-schedule : goal.returns-in-Ok-schedule
returns-in-Ok-schedule c = rw c.part_of.ensures (scheduled_planned c.in-Ok.ensures c.in-Ok-schedule.ensures)
