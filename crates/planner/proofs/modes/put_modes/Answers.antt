-- planner::modes::put_modes meets its contract. The invariant: the modes below m are written.
use mathlib.Core.Path.{sym, transport, ◌∙◌}
use native.Mathlib.Omega.{arith}
use lib.ListN.{length-take, length-drop}
use Rattle.numbers.proofs.Laid.{begun_none, begun_put, begun_all, part_stretch}
use Rattle.units.specs.Limits.{MODES}
use Rattle.tables.specs.Memory.{FRONT_WORDS, CHANNELS_BYTES}
use Rattle.layout.specs.Words.{MODE_WORDS}
use Rattle.layout.specs.Blocks.{CARRIED_WORDS, mode_laid}
use Rattle.planner.specs.Modes.{Whole}
use Rattle.planner.proofs.Coming.{length_laid_at}
use Rattle.planner.proofs.modes.put_modes.Goals as goal

pub loop-m-init : goal.loop-m-init
loop-m-init c =
    begun_none MODE_WORDS _ (length_laid_at c.args.fronts.now c.args.channels.now c.args.carried.now) MODES _ c.requires.3

pub put_planned-requires : goal.put_planned-requires
put_planned-requires c =
    let m = c.loop-m.m in let fe = part_stretch FRONT_WORDS MODES m c.args.fronts.now c.requires.0 (omega arith) in
    let ne = part_stretch CHANNELS_BYTES MODES m c.args.channels.now c.requires.1 (omega arith) in
    let ke = part_stretch CARRIED_WORDS MODES m c.args.carried.now c.requires.2 (omega arith) in (
      simp (length-take, length-drop) (omega arith),
      simp (length-take, length-drop) (omega arith),
      simp (length-take, length-drop) (omega arith),
      simp (length-take, length-drop) (omega arith),
      transport (λ i. Whole (sym fe i) (sym ne i) (sym ke i)) (c.requires.4 m (omega arith)),
    )

pub loop-m-preserved : goal.loop-m-preserved
loop-m-preserved c =
    let l = c.loop-m in let m = l.m in
    let f = c.args.fronts.now in let n = c.args.channels.now in let k = c.args.carried.now in let fe = part_stretch FRONT_WORDS MODES m f c.requires.0 (omega arith) in
    let ne = part_stretch CHANNELS_BYTES MODES m n c.requires.1 (omega arith) in
    let ke = part_stretch CARRIED_WORDS MODES m k c.requires.2 (omega arith) in
    begun_put MODE_WORDS _ (length_laid_at f n k) MODES _ _ m (omega arith) (c.put_planned.ensures ∙ λ i. mode_laid (fe i) (ne i) (ke i)) l.invariant

pub returns : goal.returns
returns c =
    begun_all MODE_WORDS _ (length_laid_at c.args.fronts.now c.args.channels.now c.args.carried.now) MODES _ _ (omega arith) c.loop-m.invariant
