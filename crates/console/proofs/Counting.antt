-- What lies in the front of a buffer. Assumes nothing.
use mathlib.Core.Path.{◌≡◌, sym, ap, ◌∙◌}
use mathlib.Core.List.{List}
use Prim.Native.Nat.{ℕ, ◌-◌, ◌≤◌}
use native.Mathlib.Nat.{min-eq_left}
use native.Mathlib.Omega.{arith}
use lib.ListN.{length, replicate, take, drop, length-append, length-take, length-drop}
use Rattle.console.specs.Counts.{IsPrefixLen}
use Rattle.rfc4180.proofs.Laying.{laid_length}
use Rattle.printer.specs.Printed.{PRINTED}
use Rattle.std.specs.Prelude.{Ok}
use Rattle.calls.specs.Fills.{PlanFills, AskFills}

pub counts : (n : ℕ) (l : List ℕ) → n ≤ length l → IsPrefixLen n l
counts n l h = (h, sym (length-take n l ∙ min-eq_left h))

-- the bytes from a place on
pub rest_length : (at : ℕ) (l : List ℕ) → length (take (length l - at) (drop at l)) ≡ length l - at
rest_length at l = length-take (length l - at) (drop at l) ∙ min-eq_left (omega (arith, length-drop at l))

-- what was printed lies in the front of its buffer
pub plan_counts : {text before after : List ℕ} {n : ℕ} → PlanFills text before (Ok n) after → IsPrefixLen n after
plan_counts (PlanFills.fills {printed} {after} {n} l p s) = counts n after (omega (arith, s.long, ap length s.is ∙ length-append printed (replicate (PRINTED - n) 0)))

pub ask_counts : {text arguments before after : List ℕ} {n : ℕ} → AskFills text arguments before (Ok n) after → IsPrefixLen n after
ask_counts (AskFills.fills {after} {n} l p) = counts n after (omega (arith, p.fits, laid_length p.laid))
