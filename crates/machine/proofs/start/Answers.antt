-- machine::start meets its contract.
use mathlib.Core.Path.{sym, ap, subst}
use lib.Dec.{T}
use Rattle.layout.specs.declared.load.Pace.{Pace}
use Rattle.numbers.specs.Decides.{decides_true, decides_false}
use Rattle.planner.proofs.Leaving.{stored_leaves}
use Rattle.machine.specs.Answers.{Begins}
use Rattle.machine.proofs.Steps.{no_pace, some_pace, begins}
use Rattle.machine.proofs.start.Goals as goal

pub returns-then-not-is_plan : goal.returns-then-not-is_plan
returns-then-not-is_plan c = rw c.nowhere.ensures (Begins.not_stored (decides_false {r = c.is_plan.result} c.is_plan.ensures c.if-not-is_plan.true))

pub returns-in_default : goal.returns-in_default
returns-in_default c =
    let (t, w, l) = stored_leaves _ (decides_true {r = c.is_plan.result} c.is_plan.ensures c.if-not-is_plan.false) in
    rw c.nowhere-in_default.ensures
    (Begins.not_listed l (c.meant-mode.ensures t w l) (λ h. subst T (no_pace t w c.meant-mode.result (sym (c.in_default.ensures t w l))) h))

pub returns : goal.returns
returns c =
    let (t, w, l) = stored_leaves _ (decides_true {r = c.is_plan.result} c.is_plan.ensures c.if-not-is_plan.false) in
    let (h, e) = some_pace t w c.meant-mode.result _ (c.in-Some.ensures t w l) in
    rw c.startup.ensures (begins l (c.meant-mode.ensures t w l) h (ap (λ (p : Pace). p.sink_start) e))
