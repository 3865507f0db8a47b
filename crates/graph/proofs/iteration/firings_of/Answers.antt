-- graph::iteration::firings_of meets its contract.
use Rattle.std.proofs.Common.{rules}
use Rattle.units.specs.Limits.{ACTORS}
use lib.ListN.{get_or}
use Rattle.units.specs.Firings.{firing}
use Rattle.rate.specs.Rate.{cycles_of}
use Rattle.tables.specs.Shape.{no_actor}
use Rattle.graph.proofs.Made.{made}
use Rattle.graph.proofs.iteration.firings_of.Goals as goal

pub returns : goal.returns
returns c = made _ _ (λ i. cycles_of (get_or c.args.actors i no_actor).phases (get_or c.args.counts i 0)) (λ k y q e. search rules) _ ACTORS (firing 0) c.from_fn.ensures.items
