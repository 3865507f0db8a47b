-- graph::iteration::length_of meets its contract.
use mathlib.Core.Path.{sym}
use Rattle.period.proofs.Lengths.{iteration_is}
use Rattle.graph.proofs.Lasting.{common_pos}
use Rattle.graph.proofs.iteration.length_of.Goals as goal

pub iteration-requires : goal.iteration-requires
iteration-requires c = common_pos _ _ c.requires (sym c.in_ok-common_of.ensures)

pub returns : goal.returns
returns c = rw (← c.in_ok-common_of.ensures, ← c.most_of.ensures) (iteration_is _ _ _ _ (common_pos _ _ c.requires (sym c.in_ok-common_of.ensures)) c.iteration.ensures)
