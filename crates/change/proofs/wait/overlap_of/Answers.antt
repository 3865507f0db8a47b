-- change::wait::overlap_of meets its contract. The invariant: the greatest is that of the actors below i.
use mathlib.Core.Path.{◌≡◌, refl, sym, ap, ap₂, ◌∙◌}
use native.Mathlib.Omega.{arith}
use lib.Bits.{bit_and}
use Rattle.numbers.specs.Bits.{has_is, hasb}
use Rattle.numbers.specs.Extreme.{most_of}
use Rattle.units.specs.Ticks.{tick, minus_ticks, greater_tick}
use Rattle.tables.specs.declared.memory.Head.{Head}
use Rattle.change.specs.Running.{running_in}
use Rattle.change.proofs.Fronts.{start_read}
use Rattle.change.proofs.Offsets.{lead_both, lead_other}
use Rattle.change.proofs.wait.overlap_of.Goals.{else-has, then-has}
use Rattle.change.proofs.wait.overlap_of.Goals as goal

pub loop-i-init : goal.loop-i-init
unfolding most_of
loop-i-init c = refl

pub loop-i-preserved : goal.loop-i-preserved
loop-i-preserved c =
    let s = c.args in let o = s.old.now in
    let n = s.new.now in
    let has : hasb (bit_and (running_in o).active (running_in n).active) c.loop-i.i ≡ c.has.result
    = ap₂ (λ (x y : Head). hasb (bit_and x.active y.active) c.loop-i.i) (sym c.head_of.ensures) (sym c.head_of-2.ensures) ∙ has_is _ _ _ c.has.ensures in
    elim c.if-has.branch [
      | then-has w ↦ w.most-is ∙ w.greater-most.ensures
          ∙ ap₂ greater_tick c.loop-i.invariant (w.minus-lead.ensures ∙ ap₂ minus_ticks (start_read o c.loop-i.i (omega arith) w.times_at.ensures) (start_read n c.loop-i.i (omega arith) w.times_at-then-has.ensures))
          ∙ ap tick (sym (lead_both (running_in o) (running_in n) c.loop-i.i (has ∙ w.if-has.true)))
      | else-has w ↦ w.most-is ∙ c.loop-i.invariant ∙ ap tick (sym (lead_other (running_in o) (running_in n) c.loop-i.i (has ∙ w.if-has.false)))
    ]
