use Rattle.std.proofs.Common.{◌+◌}
use Rattle.rfc4180.specs.Digits.{Stands}
use Rattle.rfc4180.proofs.decimal.run_at.Given as goal

abbrev pub invariant-loop-i : goal.invariant-loop-i
invariant-loop-i l = Stands l.s l.at l.most l.value (l.second + l.i)
