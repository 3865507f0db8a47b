-- The plan lies in the front of the buffer.
use Rattle.console.proofs.Counting.{plan_counts}
use Rattle.console.proofs.plan.Goals as goal

pub slice_bounds-out-end : goal.slice_bounds-out-end
slice_bounds-out-end g c = (plan_counts c.in-Ok.ensures).0

pub slice_bounds-write-end : goal.slice_bounds-write-end
slice_bounds-write-end g c = (plan_counts c.in-Ok.ensures).1
