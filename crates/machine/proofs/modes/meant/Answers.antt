-- machine::modes::meant meets its contract.
use Rattle.planner.proofs.Leaving.{stored_leaves}
use Rattle.machine.proofs.Steps.{meant_named, some_and}
use Rattle.machine.proofs.modes.meant.Goals as goal

pub returns-then-mode-ne0 : goal.returns-then-mode-ne0
returns-then-mode-ne0 c = λ t w l. meant_named t c.args.mode c.if-mode-ne0.true

pub unwrap-requires : goal.unwrap-requires
unwrap-requires c = let (t, w, l) = stored_leaves _ c.requires in some_and _ _ (c.lowest.ensures t w l)

pub returns : goal.returns
returns c = λ t w l. rw c.if-mode-ne0.false (rw c.unwrap.ensures at (c.lowest.ensures t w l))
