-- graph::iteration::common_of meets its contract. The invariant: the multiple is that of the actors below i.
use mathlib.Core.Path.{refl, sym, ap, ◌∙◌}
use Prim.Native.Nat.{◌+◌}
use native.Mathlib.Omega.{arith}
use Rattle.std.specs.Prelude.{Some}
use Rattle.numbers.specs.Bits.{has_is}
use Rattle.units.specs.Limits.{ACTORS}
use Rattle.graph.specs.Lengths.{common_from}
use Rattle.graph.proofs.Lasting.{common_next, common_stays, common_taken}
use Rattle.graph.proofs.iteration.common_of.Goals.{else-has, then-has+in_ok-multiple}
use Rattle.graph.proofs.iteration.common_of.Goals as goal

pub loop-i-init : goal.loop-i-init
unfolding common_from
loop-i-init c = refl

pub returns-in_err-multiple : goal.returns-in_err-multiple
returns-in_err-multiple c =
    let l = c.loop-i in
    rw c.from_residual.ensures
    (sym (common_stays _ _ (l.i + 1) ACTORS (omega arith)
    (common_taken _ _ c.requires l.i l.multiple _ (omega arith) (has_is _ _ _ c.has.ensures ∙ c.if-has.true) l.invariant c.in_err-multiple.ensures)))

pub loop-i-preserved : goal.loop-i-preserved
loop-i-preserved c =
    let l = c.loop-i in let has = has_is _ _ _ c.has.ensures in
    elim c.if-has.branch [
      | then-has+in_ok-multiple w ↦ common_taken _ _ c.requires l.i l.multiple _ (omega arith) (has ∙ w.if-has.true) l.invariant w.in_ok-multiple.ensures ∙ ap Some (sym w.multiple-is)
      | else-has w ↦ common_next _ _ l.i ∙ rw (has ∙ w.if-has.false) (l.invariant ∙ ap Some (sym w.multiple-is))
    ]
