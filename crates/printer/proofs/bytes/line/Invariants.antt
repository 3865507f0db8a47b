use Rattle.std.proofs.Common.{◌++◌, take}
use Rattle.rfc4180.specs.Laid.{Laid}
use Rattle.printer.proofs.Fitting.{fields}
use Rattle.printer.proofs.bytes.line.Given as goal

abbrev pub invariant-loop-number : goal.invariant-loop-number
invariant-loop-number l = Laid l.fn.out l.at (l.text ++ fields (take l.number-index l.numbers)) l.out l.end
