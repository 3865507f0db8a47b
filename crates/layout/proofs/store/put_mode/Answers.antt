-- layout::store::put_mode meets its contract.
use Rattle.std.proofs.Common.{◌≡◌, ap, ◌≤◌, List, ℕ, arith, length-take, length-drop}
use Rattle.units.specs.Limits.{CHANNELS}
use Rattle.tables.specs.declared.memory.Head.{Head}
use Rattle.tables.specs.Memory.{head_in}
use Rattle.layout.specs.Blocks.{Closed}
use Rattle.layout.proofs.Laying.{mode_put}
use Rattle.layout.proofs.store.put_mode.Goals as goal

-- the mode counts no more channels than there can be
few : {f l c : List ℕ} {h : Head} → Closed f l c → h ≡ head_in f → h.count ≤ CHANNELS
few closed e = omega (arith, closed.count, ap (λ (h : Head). h.count) e)

pub put_channels-requires : goal.put_channels-requires
put_channels-requires c =
    let n = few c.requires.4 c.head_of-head.ensures in (n, c.requires.1, c.requires.2, simp (length-take, length-drop) (omega (arith, n)))

pub returns : goal.returns
returns c =
    mode_put _ _ _ c.requires.4 _ (ap (λ (h : Head). h.count) c.head_of-head.ensures) c.args.words.now _ _ _ c.requires.3 c.requires.0
    c.put_words.ensures c.put_channels.ensures c.clear.ensures

pub overflow_mul-end : goal.overflow_mul-end
overflow_mul-end c = omega (arith, few c.requires.4 c.head_of-head.ensures)

pub overflow_add-end : goal.overflow_add-end
overflow_add-end c = omega (arith, few c.requires.4 c.head_of-head.ensures)

pub slice_bounds-put_channels-end : goal.slice_bounds-put_channels-end
slice_bounds-put_channels-end c = omega (arith, few c.requires.4 c.head_of-head.ensures)

pub offset_bounds-words-end : goal.offset_bounds-words-end
offset_bounds-words-end c = omega (arith, few c.requires.4 c.head_of-head.ensures)

pub slice_bounds-clear-count : goal.slice_bounds-clear-count
slice_bounds-clear-count c = omega (arith, few c.requires.4 c.head_of-head.ensures)

pub slice_bounds-clear-start : goal.slice_bounds-clear-start
slice_bounds-clear-start c = omega (arith, few c.requires.4 c.head_of-head.ensures)
