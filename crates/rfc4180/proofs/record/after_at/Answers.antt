-- rfc4180::record::after_at meets its contract.
use Rattle.std.proofs.Common.{rules}
use Rattle.rfc4180.proofs.Scanning.{after_comma, after_over, after_crlf, after_neither}
use Rattle.rfc4180.proofs.record.after_at.Goals as goal

pub returns-in_default : goal.returns-in_default
returns-in_default c = after_over _ _ c.in_default.ensures

pub returns-in-Comma : goal.returns-in-Comma
returns-in-Comma c = after_comma _ _ c.in-Some.ensures c.in-Comma.is

pub returns-in-Return : goal.returns-in-Return
returns-in-Return c = after_crlf _ _ c.in-Some.ensures c.in-Return.is (c.if-stands.ensures.0 tt)

pub returns-in_default-class : goal.returns-in_default-class
returns-in_default-class c = after_neither _ _ c.in-Some.ensures c.in_default-class.not-Comma (λ e f. c.if-stands.ensures.1 f)

pub returns-in_default-class-2 : goal.returns-in_default-class-2
returns-in_default-class-2 c = after_neither _ _ c.in-Some.ensures c.in_default-class.not-Comma (λ e f. search rules)
