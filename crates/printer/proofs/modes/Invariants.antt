use Rattle.tables.specs.Shape.{mode_at}
use Rattle.planning.specs.Plan.{part_at}
use Rattle.rfc4180.specs.Laid.{Laid}
use Rattle.layout.specs.Read.{graph_of, plan_of}
use Rattle.printer.specs.Texts.{texts}
use Rattle.printer.specs.Printed.{mode_text}
use Rattle.printer.proofs.modes.Given as goal

abbrev pub invariant-loop-m : goal.invariant-loop-m
invariant-loop-m l = Laid l.initial.out 0 (texts (λ m. mode_text m (mode_at (graph_of l.words) m) (part_at (plan_of l.words) m)) l.m) l.out l.at
