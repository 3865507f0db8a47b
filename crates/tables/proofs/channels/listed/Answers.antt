-- tables::channels::listed meets its contract.
use Rattle.std.proofs.Common.{refl, ap, ℕ, ◌-◌, arith, rules, tests}
use mathlib.Core.Logic.Iff
use Rattle.std.proofs.lemmas.Iterator.{cases_from_all, YieldsList-from_range}
use Rattle.tables.specs.declared.memory.Head.{Head}
use Rattle.tables.specs.Memory.{mode_in}
use Rattle.tables.specs.Parts.{ChannelStands}
use Rattle.tables.proofs.Ranged.{decides_range}
use Rattle.tables.proofs.channels.listed.Goals as goal

pub returns : goal.returns
returns c =
    let n = c.head_of-head.result.count in
    let P : ℕ → Type 0 = ChannelStands (mode_in c.args.front.now c.args.channels.now) in
    let count = ap (λ (h : Head). h.count) c.head_of-head.ensures in
    Iff.trans (decides_range P c.all.result 0 n
    (cases_from_all _ _ c.all.result P (λ k. P k → ⊥) c.all.ensures.ran (YieldsList-from_range 0 n (n - 0) refl refl) (λ x q k. search (rules, tests)) (λ x q k. search (rules, tests)))) (
      (λ w i h. w i (omega arith) (omega (arith, count))),
      (λ w i o h. w i (omega (arith, count))),
    )
