-- planner::print meets its contract.
use Rattle.numbers.specs.Decides.{decides_true, decides_false}
use Rattle.layout.specs.Read.{graph_of, plan_of}
use Rattle.planner.specs.Plans.{Leaves, no_room, not_stored, printed}
use Rattle.planner.proofs.Leaving.{leaves_proper, leaves_long, stored_whole}
use Rattle.planner.proofs.Answering.{small_printed}
use Rattle.planner.proofs.print.Goals.{then-out-ne-PRINTED-via-then-out-ne-PRINTED, then-out-ne-PRINTED-via-else-out-ne-PRINTED+then-not-is_plan}
use Rattle.planner.proofs.print.Goals as goal

pub returns-then-out-ne-PRINTED : goal.returns-then-out-ne-PRINTED
returns-then-out-ne-PRINTED c =
    rw c.nowhere.ensures
    (elim c.then-out-ne-PRINTED.branch [
      | then-out-ne-PRINTED-via-then-out-ne-PRINTED w ↦ no_room w.if-out-ne-PRINTED.true
      | then-out-ne-PRINTED-via-else-out-ne-PRINTED+then-not-is_plan w ↦
          not_stored w.if-out-ne-PRINTED.false (decides_false {r = w.is_plan.result} w.is_plan.ensures w.if-not-is_plan.true)
    ])

pub print-requires : goal.print-requires
print-requires c =
    let leaves : Leaves (graph_of c.args.words.now) (plan_of c.args.words.now) c.args.words.now = stored_whole _ (decides_true {r = c.is_plan.result} c.is_plan.ensures c.if-not-is_plan.false) in
    (leaves_long leaves, c.if-out-ne-PRINTED.false, small_printed _ _ (leaves_proper leaves) leaves.planned)

pub returns : goal.returns
returns c = printed c.if-out-ne-PRINTED.false (stored_whole _ (decides_true {r = c.is_plan.result} c.is_plan.ensures c.if-not-is_plan.false)) c.print.ensures
