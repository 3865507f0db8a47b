-- rfc4180::decimal::run_at meets its contract. The invariant: the digits up to the end write the value, which is at most the most.
use Rattle.std.proofs.Common.{arith, ◌≡◌, ◌+◌}
use Rattle.rfc4180.proofs.Runs.{run_none, run_first, run_more, stands_first, stands_more, digit_behind}
use Rattle.rfc4180.proofs.decimal.run_at.Goals as goal

pub returns-in_err-value : goal.returns-in_err-value
returns-in_err-value c = rw c.from_residual.ensures (λ n end r. run_none c.in_err-value.ensures r)

pub returns-then-most-value : goal.returns-then-most-value
returns-then-most-value c = λ n end r. omega (arith, run_first c.in_ok-value.ensures r, r.0.small)

pub loop-i-init : goal.loop-i-init
loop-i-init c = let e : c.args.at + 1 + 0 ≡ c.args.at + 1 = omega arith in rw e (stands_first c.in_ok-value.ensures c.if-most-value.false)

pub returns-then-value-eq0 : goal.returns-then-value-eq0
returns-then-value-eq0 c = λ n end r. omega (arith, run_more (digit_behind _ _ _ c.loop-i-test.true c.in-Some.ensures) r c.loop-i.invariant)

pub returns-then-tenth-value : goal.returns-then-tenth-value
returns-then-tenth-value c = λ n end r. omega (arith, r.0.small, run_more (digit_behind _ _ _ c.loop-i-test.true c.in-Some.ensures) r c.loop-i.invariant)

pub returns-then-most-tens : goal.returns-then-most-tens
returns-then-most-tens c = λ n end r. omega (arith, r.0.small, run_more (digit_behind _ _ _ c.loop-i-test.true c.in-Some.ensures) r c.loop-i.invariant)

pub loop-i-preserved : goal.loop-i-preserved
loop-i-preserved c =
    let e : c.args.at + 1 + (c.loop-i.i + 1) ≡ c.args.at + 1 + c.loop-i.i + 1 = omega arith in
    rw e (stands_more (digit_behind _ _ _ c.loop-i-test.true c.in-Some.ensures) c.loop-i.invariant (omega arith) (omega arith))
