use lib.ListN.{get_or}
use Rattle.rfc4180.specs.Laid.{Laid}
use Rattle.layout.specs.Read.{plan_of}
use Rattle.printer.specs.Texts.{texts}
use Rattle.printer.specs.Printed.{change_text, change_in}
use Rattle.printer.proofs.lines.changes_from.Given as goal

abbrev pub invariant-loop-n : goal.invariant-loop-n
invariant-loop-n l = Laid l.initial.out l.from (texts (λ n. change_text l.o n (get_or l.active l.o 0) (get_or l.active n 0) (change_in (plan_of l.words).changes l.o n)) l.n) l.out l.at
