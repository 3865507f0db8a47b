use Rattle.tables.specs.Stored.{mode_of}
use Rattle.schedule.specs.Reached.{Reached}
use Rattle.schedule.proofs.starts.at_depth.Given as goal

abbrev pub invariant-loop-k : goal.invariant-loop-k
invariant-loop-k l = Reached (mode_of l.mode) l.periods l.depths l.depth l.k l.starts
