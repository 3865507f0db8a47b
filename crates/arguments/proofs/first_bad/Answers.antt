-- arguments::first_bad meets its contract. The invariant: as many requests stand before the place, and what is found from there on is the answer.
use Rattle.std.proofs.Common.{List, ℕ, ◌≡◌, ◌+◌, ◌-◌, ◌<◌, length, drop, take, add-one, arith, Option, Some, None, true, false}
use Rattle.std.specs.Option.{is_some}
use Rattle.arguments.specs.declared.Request.{Request}
use Rattle.arguments.specs.Argument.{arguments_of, first_of, RequestOf, FirstBad, none, here, later}
use Rattle.arguments.proofs.Parting.{end_within, argument_then, arguments_none}
use Rattle.arguments.proofs.first_bad.Goals as goal

-- what the test of an answer says of it
no_request : {bytes : List ℕ} (r : Option Request) → is_some r ≡ false → RequestOf bytes r → RequestOf bytes None
no_request None e p = p
no_request (Some r) e p = cc

a_request : {bytes : List ℕ} (r : Option Request) → is_some r ≡ true → RequestOf bytes r → (q : Request) × RequestOf bytes (Some q)
a_request None e p = cc
a_request (Some r) e p = (r, p)

-- what is found behind a request is the answer
module _ (s : List ℕ) (at end : ℕ) (e : end ≡ at + length (first_of (arguments_of (drop at s)))) (l : at < length s) where
  stopped : {k : ℕ} → RequestOf (take (end - at) (drop at s)) None → FirstBad k (arguments_of (drop at s)) (Some k)
  stopped p = rw (argument_then s at end e l) (here p)

  passed : {k : ℕ} {n : Option ℕ} {r : Request} → RequestOf (take (end - at) (drop at s)) (Some r) → FirstBad (k + 1) (arguments_of (drop (end + 1) s)) n
      → FirstBad k (arguments_of (drop at s)) n
  passed {k} p h = rw (argument_then s at end e l) (later p (rw add-one at h))

pub slice_bounds-request_of-end : goal.slice_bounds-request_of-end
slice_bounds-request_of-end c = end_within c.args.bytes.now _ _ c.end_of-end.ensures c.loop-at-test.true

pub returns-then-is_none : goal.returns-then-is_none
returns-then-is_none c =
    c.loop-at.invariant.1 _ (stopped _ _ _ c.end_of-end.ensures c.loop-at-test.true (no_request _ c.if-is_none.ensures c.request_of.ensures))

pub loop-at-preserved : goal.loop-at-preserved
loop-at-preserved c = (
  omega (arith, c.end_of-end.ensures),
  λ n h. c.loop-at.invariant.1 n (passed _ _ _ c.end_of-end.ensures c.loop-at-test.true (a_request _ c.if-is_none.ensures c.request_of.ensures).1 h),
)

pub returns : goal.returns
returns c = c.loop-at.invariant.1 None (rw (arguments_none c.args.bytes.now c.loop-at.at c.loop-at-test.false) none)
