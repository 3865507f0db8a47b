-- printer::lines::active_of meets its contract. The invariant: the sets of the modes below m are set.
use Rattle.std.proofs.Common.{◌∙◌, length-set, arith}
use Rattle.numbers.specs.Tab.{is_tab, filled_more}
use Rattle.units.specs.Limits.{MODES}
use Rattle.printer.proofs.Held.{active_held}
use Rattle.printer.proofs.lines.active_of.Goals as goal

pub loop-m-preserved : goal.loop-m-preserved
loop-m-preserved c =
    let l = c.loop-m in record {
      long = length-set _ _ _ ∙ l.invariant.long;
      done = filled_more _ l.active-items l.m _ 0 (omega (arith, l.invariant.long)) (active_held c.args.words.now l.m _ c.loop-m-test.true c.head_of-head.ensures) l.invariant.done;
    }

pub returns : goal.returns
returns c = is_tab MODES _ _ 0 c.loop-m.invariant.long (λ i h. c.loop-m.invariant.done i (omega arith))
