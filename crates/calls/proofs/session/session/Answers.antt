-- calls::session::session meets its contract.
use mathlib.Core.Path.{subst}
use mathlib.Core.List.{◌++◌}
use native.Mathlib.Omega.{arith}
use Rattle.rfc4180.proofs.Laying.{laid_length, laid_then}
use Rattle.machine.specs.Answers.{Begins}
use Rattle.calls.specs.Prints.{machine_text, begun, not_begun_law}
use Rattle.calls.proofs.session.session.Goals as goal

pub answers-requires : goal.answers-requires
answers-requires c =
    let p = c.requires in
    let b = c.begun-at.ensures in record {
      enough = omega (arith, p.enough, laid_length b.laid);
      room = omega (arith, p.enough, p.from, b.short, laid_length b.laid);
      good = p.good;
    }

pub returns-in-Ok : goal.returns-in-Ok
returns-in-Ok c =
    let b = c.begun-at.ensures in let a = c.answers.ensures in let e = c.args in record {
      text = machine_text c.in-Ok.machine ++ a.text;
      meets = begun (subst (Begins e.words.now e.mode) c.in-Ok.is c.start.ensures) a.meets;
      laid = laid_then b.laid a.laid;
      fits = omega (arith, a.fits, laid_length b.laid);
    }

pub returns-in-Err : goal.returns-in-Err
returns-in-Err c =
    let e = c.args in record {
      text = _;
      meets = not_begun_law (subst (Begins e.words.now e.mode) c.in-Err.is c.start.ensures);
      laid = c.refused.ensures.laid;
      fits = omega (arith, c.refused.ensures.short, c.requires.enough);
    }
