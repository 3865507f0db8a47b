-- reader::judge meets its contract.
use Rattle.std.proofs.Common.{Ok, Err, arith, length-take, length-drop}
use Rattle.std.proofs.lemmas.Result.{err_from_is_err_and}
use Rattle.reader.specs.Checks.{no_line, stops, goes}
use Rattle.reader.proofs.Progress.{line_places, by_part}
use Rattle.reader.proofs.judge.Goals as goal

pub returns-in_err-line : goal.returns-in_err-line
returns-in_err-line c = let p = err_from_is_err_and c.from_residual.result c.from_residual.ensures.1 in rw (p.1, p.2) (no_line c.in_err-line.ensures)

pub returns-in_err-check_in : goal.returns-in_err-check_in
returns-in_err-check_in c =
    let p = err_from_is_err_and c.from_residual-in_err-check_in.result c.from_residual-in_err-check_in.ensures.1 in
    rw (p.1, p.2) (stops c.in_ok-line.ensures (by_part c.args.fronts.now c.args.homes.now c.in_ok-line.line (Err c.in_err-check_in.field-0.0) c.in_err-check_in.ensures))

pub returns : goal.returns
returns c = goes c.in_ok-line.ensures (by_part c.args.fronts.now c.args.homes.now c.in_ok-line.line (Ok tt) c.in_ok-check_in.ensures)

-- the front of the row's mode
pub check_in-requires : goal.check_in-requires
check_in-requires c =
    let (m, placed) = line_places c.in_ok-line.ensures in (simp (length-take, length-drop) (omega (arith, m, c.requires.0)), c.requires.1, placed)
