-- rfc4180::record::closing meets its contract. The loop's invariant: the quote that closes the field from i on closes it from the start on.
use Rattle.std.proofs.Common.{None, Some}
use Rattle.rfc4180.proofs.Scanning.{inner_of, closed_more, closed_over, closed_other, closed_here, closed_pair}
use Rattle.rfc4180.proofs.record.closing.Goals as goal

pub returns-in_err-class_at : goal.returns-in_err-class_at
returns-in_err-class_at c = rw c.from_residual.ensures (c.loop-i.invariant None (closed_over _ _ c.in_err-class_at.ensures))

pub loop-i-preserved-then-stands : goal.loop-i-preserved-then-stands
loop-i-preserved-then-stands c = λ r p. c.loop-i.invariant r (closed_pair _ _ c.in_ok-class_at.ensures c.in-Quote.is (c.if-stands.ensures.0 tt) p)

pub returns-in-Quote-2 : goal.returns-in-Quote-2
returns-in-Quote-2 c = c.loop-i.invariant (Some c.loop-i.i) (closed_here _ _ c.in_ok-class_at.ensures c.in-Quote-2.is c.if-stands.ensures.1)

pub returns-in-Other : goal.returns-in-Other
returns-in-Other c = c.loop-i.invariant None (closed_other _ _ c.in_ok-class_at.ensures c.in-Other.is)

pub loop-i-preserved : goal.loop-i-preserved
loop-i-preserved c = λ r p. c.loop-i.invariant r (closed_more _ _ c.in_ok-class_at.ensures (inner_of _ c.in_default.not-Quote c.in_default.not-Other) p)
