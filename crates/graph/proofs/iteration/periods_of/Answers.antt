-- graph::iteration::periods_of meets its contract.
use Rattle.std.proofs.Common.{rules}
use Rattle.units.specs.Limits.{ACTORS}
use lib.ListN.{get_or}
use mathlib.Core.Bool.{cond}
use Rattle.numbers.specs.Bits.{hasb, has_is}
use Rattle.units.specs.Firings.{firing}
use Rattle.units.specs.Ticks.{tick}
use Rattle.period.specs.Period.{period_of}
use Rattle.graph.proofs.Made.{made}
use Rattle.graph.proofs.iteration.periods_of.Goals as goal

pub returns : goal.returns
returns c = made _ _ (λ i. cond (hasb c.args.active i) (period_of c.args.iteration (get_or c.args.firings i (firing 0))) (tick 0)) (λ k y q e. search (rules, has_is)) _ ACTORS (tick 0) c.from_fn.ensures.items
