use Rattle.std.proofs.Common.{◌≡◌, ℕ, ◌<◌, ◌≤◌, length, get_or, None}
use Rattle.units.specs.Limits.{MODES}
use Rattle.planner.specs.Changes.{front_at, works_listed}
use Rattle.planner.proofs.changes.all_works.Given as goal

abbrev pub invariant-loop-m : goal.invariant-loop-m
invariant-loop-m l = record {
  long : length l.works ≡ MODES;
  done : (k : ℕ) → k < l.m → get_or l.works k None ≡ works_listed (front_at l.words k);
  left : (k : ℕ) → l.m ≤ k → get_or l.works k None ≡ None;
}
