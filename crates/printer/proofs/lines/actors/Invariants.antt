use Rattle.rfc4180.specs.Laid.{Laid}
use Rattle.layout.specs.Read.{mode_of, part_of}
use Rattle.printer.specs.Texts.{texts}
use Rattle.printer.specs.Printed.{actor_text, firings_at, period_at, start_at}
use Rattle.printer.proofs.lines.actors.Given as goal

abbrev pub invariant-loop-i : goal.invariant-loop-i
invariant-loop-i l = Laid l.initial.out l.from (texts (λ i. actor_text l.m (mode_of l.words).active i (firings_at (part_of l.words) i) (period_at (part_of l.words) i) (start_at (part_of l.words) i)) l.i) l.out l.at
