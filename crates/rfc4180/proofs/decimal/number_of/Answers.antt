-- rfc4180::decimal::number_of meets its contract.
use Rattle.std.proofs.Common.{arith}
use Rattle.rfc4180.proofs.Runs.{number_is}
use Rattle.rfc4180.proofs.decimal.number_of.Goals.{else-end-s-via-then-end-s+else-least-value, else-end-s-via-else-end-s}
use Rattle.rfc4180.proofs.decimal.number_of.Goals as goal

pub returns-else-end-s : goal.returns-else-end-s
returns-else-end-s c =
    λ n b w. elim c.else-end-s.branch [
      | else-end-s-via-then-end-s+else-least-value v ↦ omega (arith, v, b.0, number_is c.in_ok-value.ensures b w)
      | else-end-s-via-else-end-s v ↦ omega (arith, v, number_is c.in_ok-value.ensures b w)
    ]
