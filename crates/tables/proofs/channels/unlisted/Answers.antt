-- tables::channels::unlisted meets its contract.
use Rattle.std.proofs.Common.{◌≡◌, refl, sym, ap, ◌∙◌, ℕ, ◌-◌, arith, rules, tests}
use mathlib.Core.Logic.Iff
use Rattle.std.proofs.lemmas.Iterator.{cases_from_all, YieldsList-from_range}
use Rattle.units.specs.Limits.{CHANNELS}
use Rattle.tables.specs.declared.memory.Head.{Head}
use Rattle.tables.specs.Shape.{empty_channel}
use Rattle.tables.specs.Memory.{channel_in}
use Rattle.tables.proofs.Ranged.{decides_range}
use Rattle.tables.proofs.Remembered.{channel_in_law}
use Rattle.tables.proofs.channels.unlisted.Goals as goal

pub returns : goal.returns
returns c =
    let a = c.head_of-head.result.count in
    let l = c.args.channels.now in
    let P : ℕ → Type 0 = λ k. channel_in l k ≡ empty_channel in
    let count = ap (λ (h : Head). h.count) c.head_of-head.ensures in
    Iff.trans (decides_range P c.all.result a CHANNELS
    (cases_from_all _ _ c.all.result P (λ k. P k → ⊥) c.all.ensures.ran (YieldsList-from_range a CHANNELS (CHANNELS - a) refl refl) (λ x q k. search (rules, tests)) (λ x q k. search (rules, tests)))) (
      (λ w i h o. channel_in_law c.args.front.now l i h ∙ w i (omega (arith, count)) (omega (arith, count))),
      (λ w i o h. sym (channel_in_law c.args.front.now l i (omega arith)) ∙ w i (omega arith) (omega (arith, count))),
    )
