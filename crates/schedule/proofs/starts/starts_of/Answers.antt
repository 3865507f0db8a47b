-- schedule::starts::starts_of meets its contract. The invariant: the starts are least for the channels to the depths before this one.
use Rattle.std.proofs.Common.{arith}
use Rattle.schedule.proofs.Finding.{reached_all}
use Rattle.schedule.proofs.starts.starts_of.Goals as goal

pub returns : goal.returns
returns c = reached_all _ _ _ c.requires _ c.greatest-last.result _ c.greatest-last.ensures (omega arith) c.loop-depth.invariant

pub returns-2 : goal.returns-2
returns-2 c = reached_all _ _ _ c.requires _ c.greatest-last.result _ c.greatest-last.ensures (omega arith) c.at_depth-next.ensures
