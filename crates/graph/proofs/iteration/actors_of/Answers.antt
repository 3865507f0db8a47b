-- graph::iteration::actors_of meets its contract.
use Rattle.std.proofs.Common.{rules, refl, sym, ◌∙◌}
use Rattle.numbers.specs.Tab.{is_tab}
use Rattle.units.specs.Limits.{ACTORS}
use Rattle.tables.specs.Shape.{no_actor, actor_at}
use Rattle.tables.specs.Stored.{mode_of}
use Rattle.tables.proofs.Stored.{proper_of}
use Rattle.graph.proofs.Made.{made}
use Rattle.graph.proofs.iteration.actors_of.Goals as goal

pub returns : goal.returns
returns c =
    made _ _ (actor_at (mode_of c.args.mode.now)) (λ k y q e. search rules) _ ACTORS no_actor c.from_fn.ensures.items
    ∙ sym (is_tab ACTORS _ _ no_actor (proper_of c.args.mode.now).actors_long (λ k h. refl))
