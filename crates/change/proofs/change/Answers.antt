-- change::change meets its contract.
use mathlib.Core.Path.{◌≡◌, ap, ◌∙◌}
use mathlib.Core.List.{List}
use Prim.Native.Nat.{ℕ}
use native.Mathlib.Omega.{arith}
use Rattle.units.specs.declared.Tick.{Tick}
use Rattle.tables.specs.declared.memory.Head.{Head}
use Rattle.tables.specs.declared.memory.Times.{Times}
use Rattle.tables.specs.Memory.{head_in, times_in}
use Rattle.change.specs.Running.{running_in}
use Rattle.change.proofs.Offsets.{found}
use Rattle.change.proofs.change.Goals as goal

-- the sink's start
sink : (f : List ℕ) {h : Head} {t : Times} → h ≡ head_in f → t ≡ times_in f h.sink → t.start ≡ (running_in f).sink_start
sink f e g = ap (λ (t : Times). t.start) g ∙ ap (λ (h : Head). (times_in f h.sink).start) e

pub plus-requires : goal.plus-requires
plus-requires c =
    let (p, q) = c.requires in
    let offset = (found _ _ p.ready q.ready c.overlap_of-overlap.ensures c.offset_of-offset.ensures).1 in
    omega (arith, offset.holds.1, p.ready.startup, q.ready.sink_start_law, ap (λ (t : Tick). t.0) (sink c.args.new.front.now c.head_of.ensures c.times_at-sink.ensures))

pub plus-requires-2 : goal.plus-requires-2
plus-requires-2 c =
    let (p, q) = c.requires in
    let offset = (found _ _ p.ready q.ready c.overlap_of-overlap.ensures c.offset_of-offset.ensures).1 in
    omega (
      arith,
      offset.holds.1,
      p.ready.startup,
      q.ready.sink_start_law,
      p.ready.iteration,
      ap (λ (t : Tick). t.0) (sink c.args.new.front.now c.head_of.ensures c.times_at-sink.ensures),
      ap (λ (t : Tick). t.0) c.plus.ensures,
      ap (λ (h : Head). h.iteration.0) c.head_of-before.ensures,
    )

pub returns : goal.returns
returns c =
    let (p, q) = c.requires in
    let (overlap, offset) = found _ _ p.ready q.ready c.overlap_of-overlap.ensures c.offset_of-offset.ensures in
    record {
      overlap = overlap;
      offset = offset;
      worst = c.minus.ensures ∙ rw (c.plus-2.ensures, c.plus.ensures, sink c.args.new.front.now c.head_of.ensures c.times_at-sink.ensures, c.head_of-before.ensures);
    }
