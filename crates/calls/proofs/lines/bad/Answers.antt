-- calls::lines::bad meets its contract.
use Rattle.std.proofs.Common.{arith, rules}
use Rattle.calls.proofs.Laying.{line_room, line_laid}
use Rattle.calls.proofs.lines.bad.Goals as goal

pub line-requires : goal.line-requires
line-requires c = line_room _ _ (omega arith) (search rules) c.requires

pub returns : goal.returns
returns c = line_laid _ _ (omega arith) (search rules) c.line.ensures
