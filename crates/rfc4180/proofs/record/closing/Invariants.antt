use Rattle.std.proofs.Common.{ℕ, ◌-◌, length}
use Rattle.std.specs.Prelude.{Option}
use Rattle.rfc4180.specs.Records.{ClosedAt}
use Rattle.rfc4180.proofs.record.closing.Given as goal

abbrev pub invariant-loop-i : goal.invariant-loop-i
invariant-loop-i l = (r : Option ℕ) → ClosedAt l.text l.i r → ClosedAt l.text l.from r

abbrev pub decreases-loop-i : goal.decreases-loop-i
decreases-loop-i l = length l.text - l.i
