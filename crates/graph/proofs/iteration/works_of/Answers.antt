-- graph::iteration::works_of meets its contract.
use Rattle.std.proofs.Common.{rules}
use Rattle.units.specs.Limits.{ACTORS}
use lib.ListN.{get_or}
use Rattle.units.specs.Firings.{firing}
use Rattle.units.specs.Ticks.{tick}
use Rattle.period.specs.Period.{work_of}
use Rattle.tables.specs.Shape.{no_actor}
use Rattle.graph.proofs.Made.{made}
use Rattle.graph.proofs.iteration.works_of.Goals as goal

pub returns : goal.returns
returns c = made _ _ (λ i. work_of (get_or c.args.actors i no_actor).wcet (get_or c.args.firings i (firing 0))) (λ k y q e. search rules) _ ACTORS (tick 0) c.from_fn.ensures.items
