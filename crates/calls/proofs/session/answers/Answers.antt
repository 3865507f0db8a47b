-- calls::session::answers meets its contract. The invariant: the lines so far, and behind them those of the requests that are left, are those of all.
use mathlib.Core.Path.{refl, sym, subst}
use native.Mathlib.Omega.{arith}
use Rattle.std.specs.Prelude.{IsSome}
use Rattle.arguments.proofs.Parting.{end_within}
use Rattle.calls.proofs.Asking.{sofar_none, is_request, sofar_next, sofar_all}
use Rattle.calls.proofs.session.answers.Goals as goal

pub loop-place-init : goal.loop-place-init
loop-place-init c = sofar_none _ _ _ _ _ _ c.requires.room c.requires.good

pub unwrap-request-requires : goal.unwrap-request-requires
unwrap-request-requires c = subst IsSome (sym (is_request c.loop-place.invariant c.loop-place-test.true c.end_of-end.ensures c.request_of.ensures)) refl

pub loop-place-preserved : goal.loop-place-preserved
loop-place-preserved c =
    sofar_next c.loop-place.invariant c.loop-place-test.true c.end_of-end.ensures (rw c.unwrap-request.ensures at c.request_of.ensures) c.answered-reached.ensures

pub returns : goal.returns
returns c = sofar_all c.loop-place.invariant (omega (arith, c.loop-place-test.false))

pub slice_bounds-request_of-end : goal.slice_bounds-request_of-end
slice_bounds-request_of-end c = end_within c.args.arguments.now _ _ c.end_of-end.ensures c.loop-place-test.true
