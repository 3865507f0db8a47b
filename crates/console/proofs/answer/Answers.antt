-- The answers lie in the front of the buffer.
use Rattle.std.proofs.Common.{ℕ, ◌+◌, ◌*◌, sym}
use Rattle.std.proofs.lemmas.List.{length-replicate}
use Rattle.calls.specs.Fills.{LINE}
use Rattle.console.proofs.Counting.{ask_counts}
use Rattle.console.proofs.answer.Goals as goal

pub slice_bounds-ask-end : goal.slice_bounds-ask-end
slice_bounds-ask-end g c = sym (length-replicate {A = ℕ} (LINE * (32768 + 1)) 0)

pub slice_bounds-out-end : goal.slice_bounds-out-end
slice_bounds-out-end g c = (ask_counts c.in-Ok.ensures).0

pub slice_bounds-write-end : goal.slice_bounds-write-end
slice_bounds-write-end g c = (ask_counts c.in-Ok.ensures).1
