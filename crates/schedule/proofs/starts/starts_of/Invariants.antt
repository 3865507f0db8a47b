use Rattle.tables.specs.Stored.{mode_of}
use Rattle.schedule.specs.Reached.{Reached}
use Rattle.schedule.proofs.starts.starts_of.Given as goal

abbrev pub invariant-loop-depth : goal.invariant-loop-depth
invariant-loop-depth l = Reached (mode_of l.mode) l.periods l.depths l.depth 0 l.starts
