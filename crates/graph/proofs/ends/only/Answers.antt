-- graph::ends::only meets its contract.
use mathlib.Core.Path.{refl, sym, ◌∙◌}
use Rattle.std.proofs.Common.{rules}
use Rattle.std.proofs.lemmas.Iterator.Adapters.{option_map_id}
use borrow.Author.Tests.{eq-eqb}
use Rattle.std.proofs.lemmas.Iterator.{YieldsList-from_range}
use Rattle.std.proofs.lemmas.Iterator.Search.{find_from_yields_List}
use Rattle.numbers.specs.Bits.{hasb, has_is}
use Rattle.units.specs.Limits.{ACTORS}
use Rattle.graph.proofs.ends.only.Goals as goal

pub returns-then-size-eq1 : goal.returns-then-size-eq1
returns-then-size-eq1 c =
    let size = rw c.size.ensures at c.if-size-eq1.true in
    rw (eq-eqb _ _ size)
    (sym (option_map_id c.find.result)
    ∙ find_from_yields_List (hasb c.args.set) _ _ c.find.result c.find.ensures.ran (YieldsList-from_range 0 ACTORS ACTORS refl refl) (λ x b q k. search (rules, has_is)))
