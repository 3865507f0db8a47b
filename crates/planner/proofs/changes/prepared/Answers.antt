-- planner::changes::prepared meets its contract.
use Rattle.planner.proofs.Timing.{kept_none, kept_some}
use Rattle.planner.proofs.changes.prepared.Goals as goal

pub returns-in_err-works : goal.returns-in_err-works
returns-in_err-works c =
    rw c.from_residual.ensures (kept_none c.args.words.now c.requires.0 c.requires.1 c.args.m c.requires.2 (rw c.in_err-works.was at c.as_ref.ensures.value))

pub returns : goal.returns
returns c =
    kept_some c.args.words.now c.requires.0 c.requires.1 c.args.m c.requires.2 _ c.front_at.ensures.0 c.front_at.ensures.1 (rw c.in_ok-works.was at c.as_ref.ensures.value)
