-- graph::balance::balances meets its contract.
use Rattle.std.proofs.Common.{refl, ◌∙◌, arith, rules}
use Rattle.std.proofs.lemmas.Iterator.{YieldsList-from_range}
use Rattle.std.proofs.lemmas.Iterator.Search.{all_from_yields_List}
use Rattle.tables.specs.Stored.{mode_of}
use Rattle.graph.specs.Counts.{evenb}
use Rattle.graph.proofs.Flows.{balances_ranged}
use Rattle.graph.proofs.balance.balances.Goals as goal

pub returns : goal.returns
returns c =
    all_from_yields_List (evenb (mode_of c.args.mode.now) c.args.counts) _ _ c.all.result c.all.ensures.ran (YieldsList-from_range 0 c.count.result c.count.result refl (omega arith)) (λ x b q k. search rules)
    ∙ rw c.count.ensures (balances_ranged _ _ _)
