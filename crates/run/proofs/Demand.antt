-- Demand 3, of every plan that the planner shows to be sound. Assumes nothing.
use Prim.Native.Nat.{ℕ}
use mathlib.Core.List.{List}
use native.Mathlib.Omega.{arith}
use Rattle.numbers.specs.Every.{Every, every_from}
use Rattle.run.specs.Plan.{RunPlan}
use Rattle.run.specs.Machine.{Request, stays, Visit, visit, visits, begin, run}
use Rattle.run.specs.Demand.{EveryRun, Timely, RightRuns}
use Rattle.run.specs.Firing.{EndTimes, InPeriod, earliest, latest}
use Rattle.run.proofs.Sound.{Sound}
use Rattle.run.proofs.Links.{linked, all_good, others_closed}
use Rattle.run.proofs.Buffers as Buffers
use Rattle.run.proofs.Processors as Processors

pub demand_3 : (p : RunPlan) → Sound p → RightRuns p
demand_3 p ok = record {
  no_missing = λ e m start rs timely k c t i. Buffers.no_missing p ok e k c t i (visits (run p (begin p m) rs)) (fine e m start rs timely);
  no_borrowing = λ e m start rs timely c t. Buffers.no_borrowing p ok e c t (visits (run p (begin p m) rs)) (fine e m start rs timely);
  no_overflow = λ e m start rs timely k c t i. Buffers.no_overflow p ok e k c t i (linked p ok m start rs) (fine e m start rs timely);
  no_excess = λ e m start rs timely k c t i. Buffers.no_excess p ok e k c t i (linked p ok m start rs) (fine e m start rs timely);
  no_overload = λ m start rs proc t. Processors.no_overload p ok proc t (linked p ok m start rs);
  left_empty = λ e m start rs timely k c t i z. Buffers.left_empty p ok e k c t i (visits (run p (begin p m) rs)) (fine e m start rs timely) z;
  others_ended = λ m start rs k t other h. others_closed p t k (linked p ok m start rs) other h;
  can_end = λ m start rs. (ended m rs (earliest p) (λ v i n _ _. (omega arith, omega arith)), ended m rs (latest p) (λ v i n _ _. (omega arith, omega arith)));
}
  where
    fine : (e : EndTimes) → EveryRun p (λ s. Every (InPeriod p e) (visits s) → Every (Buffers.Fine p e) (visits s))
    fine e m start rs timely = Buffers.all_fine p e (visits (run p (begin p m) rs)) (all_good p (linked p ok m start rs)) timely

    ended : (m : ℕ) (rs : List Request) (e : EndTimes) → ((v : Visit) → InPeriod p e v) → Every (InPeriod p e) (visits (run p (begin p m) rs))
    ended m rs e h = every_from (InPeriod p e) (visit (begin p m).now stays) (visits (run p (begin p m) rs)) (λ k _. h _)

-- What holds if each firing ends within its period does hold where each ends as it begins, and where each ends as its period does.
pub holds_of_ends : (p : RunPlan) → Sound p → (Q : EndTimes → List Visit → Type 0) → Timely p Q → EveryRun p (λ s. Q (earliest p) (visits s) × Q (latest p) (visits s))
holds_of_ends p ok Q h m start rs = let (a, b) = (demand_3 p ok).can_end m start rs in (h (earliest p) m start rs a, h (latest p) m start rs b)
