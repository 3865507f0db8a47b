-- calls::lines::begun meets its contract.
use Rattle.std.proofs.Common.{arith, rules}
use Rattle.calls.proofs.Laying.{line_room, line_laid}
use Rattle.calls.proofs.lines.begun.Goals as goal

pub line-requires : goal.line-requires
line-requires c = line_room _ _ (omega arith) (search rules) c.requires

pub returns : goal.returns
returns c = rw (← c.ticks.ensures, ← c.ticks-2.ensures) (line_laid _ _ (omega arith) (search rules) c.line.ensures)
