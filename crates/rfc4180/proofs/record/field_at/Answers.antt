-- rfc4180::record::field_at meets its contract.
use Rattle.std.proofs.Common.{◌+◌, arith}
use Rattle.rfc4180.proofs.Scanning.{closed_within, field_plain, field_quoted, field_broken}
use Rattle.rfc4180.proofs.record.field_at.Goals as goal

pub returns-in_err-end : goal.returns-in_err-end
returns-in_err-end c = rw c.from_residual.ensures (field_broken _ _ (c.if-stands.ensures.0 tt) c.in_err-end.ensures)

pub overflow_add-result : goal.overflow_add-result
overflow_add-result c = omega (arith, closed_within c.args.text.now (c.args.at + 1) c.in_ok-end.ensures)

pub returns-then-stands : goal.returns-then-stands
returns-then-stands c = field_quoted _ _ (c.if-stands.ensures.0 tt) c.in_ok-end.ensures

pub returns : goal.returns
returns c = field_plain _ _ c.if-stands.ensures.1 c.plain_end-end.ensures
