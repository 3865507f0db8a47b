-- calls::answer meets its contract.
use mathlib.Core.Path.{sym, ◌∙◌}
use native.Mathlib.Nat.{min-eq_left}
use Prim.Native.Nat.{◌+◌}
use native.Mathlib.Omega.{arith}
use lib.ListN.{length-take}
use Rattle.arguments.proofs.Parting.{first_within, bad_within}
use Rattle.calls.proofs.Telling.{bad_mode, bad_request, says_refused, says_asked}
use Rattle.calls.proofs.answer.Goals as goal

pub slice_bounds-number_of-end : goal.slice_bounds-number_of-end
slice_bounds-number_of-end c = sym (length-take c.end_of-end.result c.args.arguments.now ∙ min-eq_left (omega (arith, c.end_of-end.ensures, first_within c.args.arguments.now)))

pub overflow_add-end : goal.overflow_add-end
overflow_add-end c = omega (arith, c.end_of-end.ensures, first_within c.args.arguments.now, c.requires)

pub overflow_add-end-in-Ok : goal.overflow_add-end-in-Ok
overflow_add-end-in-Ok c = omega (arith, c.end_of-end.ensures, first_within c.args.arguments.now, c.requires)

pub overflow_add-number : goal.overflow_add-number
overflow_add-number c = omega (arith, bad_within c.args.arguments.now (c.end_of-end.result + 1) c.in-Some-first_bad.ensures, c.requires)

pub returns-in_default : goal.returns-in_default
returns-in_default c = record {
  text = _;
  meets = bad_mode _ c.args.arguments.now _ c.end_of-end.ensures c.in_default.ensures;
  laid = c.bad.ensures.laid;
  fits = omega (arith, c.bad.ensures.short, c.requires);
}

pub returns-in-Some-first_bad : goal.returns-in-Some-first_bad
returns-in-Some-first_bad c =
    let b = c.bad-in-Some-first_bad.ensures in record {
      text = _;
      meets = bad_request _ c.args.arguments.now _ c.end_of-end.ensures c.in-Some.ensures _ c.in-Some-first_bad.ensures;
      laid = b.laid;
      fits = omega (arith, b.short, c.requires);
    }

pub returns-in-Err : goal.returns-in-Err
returns-in-Err c =
    record {
      text = _;
      meets = says_refused _ c.args.arguments.now _ c.end_of-end.ensures c.in-Some.ensures c.in_default-first_bad.ensures c.in-Err.ensures;
      laid = c.refused.ensures.laid;
      fits = omega (arith, c.refused.ensures.short, c.requires);
    }

pub returns-in-Ok : goal.returns-in-Ok
returns-in-Ok c =
    let s = c.session.ensures in record {
      text = s.text;
      meets = says_asked _ c.args.arguments.now _ c.end_of-end.ensures c.in-Some.ensures c.in_default-first_bad.ensures c.in-Ok.ensures s.meets;
      laid = s.laid;
      fits = s.fits;
    }
