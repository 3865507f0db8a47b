use Rattle.std.proofs.Common.{length, ◌≡◌, ◌≤◌}
use Rattle.console.proofs.gather.Given as goal

abbrev pub invariant-loop-i : goal.invariant-loop-i
invariant-loop-i g l = (l.at ≤ length l.buffer) × (length l.buffer ≡ length l.initial.buffer)
