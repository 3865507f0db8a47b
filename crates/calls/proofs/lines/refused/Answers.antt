-- calls::lines::refused meets its contract.
use Rattle.std.proofs.Common.{arith, rules}
use Rattle.terms.specs.Refusal.{five}
use Rattle.calls.proofs.Laying.{line_room, line_laid}
use Rattle.calls.proofs.lines.refused.Goals as goal

pub line-requires : goal.line-requires
line-requires c = rw c.five.ensures (line_room _ (five c.printed.result) (omega arith) (search rules) c.requires)

pub returns : goal.returns
returns c = rw (← c.printed.ensures) (line_laid _ (five c.printed.result) (omega arith) (search rules) (rw c.five.ensures at c.line.ensures))
