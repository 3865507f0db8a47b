-- tables::actors::proper_actors meets its contract.
use Rattle.std.proofs.Common.{refl, ℕ, [], arith, rules, tests}
use mathlib.Core.Logic.Iff
use Rattle.std.proofs.lemmas.Iterator.{cases_from_all, YieldsList-from_range}
use Rattle.units.specs.Limits.{ACTORS}
use Rattle.tables.specs.Memory.{mode_in}
use Rattle.tables.specs.Parts.{ActorStands}
use Rattle.tables.proofs.Ranged.{decides_range}
use Rattle.tables.proofs.actors.proper_actors.Goals as goal

pub returns : goal.returns
returns c =
    let P : ℕ → Type 0 = ActorStands (mode_in c.args.front.now []) in
    Iff.trans (decides_range P c.all.result 0 ACTORS
    (cases_from_all _ _ c.all.result P (λ i. P i → ⊥) c.all.ensures.ran (YieldsList-from_range 0 ACTORS ACTORS refl refl) (λ x q k. search (rules, tests)) (λ x q k. search (rules, tests)))) (
      (λ w i h. w i (omega arith) (omega arith)),
      (λ w i o h. w i (omega arith)),
    )
