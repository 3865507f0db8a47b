use Rattle.rfc4180.specs.Laid.{Laid}
use Rattle.layout.specs.Read.{plan_of}
use Rattle.printer.specs.Texts.{texts}
use Rattle.printer.specs.Printed.{from_text}
use Rattle.printer.proofs.lines.changes.Given as goal

abbrev pub invariant-loop-o : goal.invariant-loop-o
invariant-loop-o l = Laid l.initial.out l.from (texts (λ o. from_text l.active (plan_of l.words).changes o) l.o) l.out l.at
