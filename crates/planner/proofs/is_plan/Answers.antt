-- planner::is_plan meets its contract.
use mathlib.Core.Bool.{Bool, true}
use mathlib.Core.List.{List}
use mathlib.Core.Path.{◌≡◌, ◌∙◌}
use Prim.Native.Nat.{ℕ}
use native.Mathlib.Omega.{arith}
use lib.ListN.{length, take, length-take}
use Rattle.numbers.specs.Decides.{Decides, decides_no, decides_true, decides_false}
use Rattle.layout.specs.Words.{WORDS}
use Rattle.planner.specs.Held.{HeldModes}
use Rattle.planner.specs.Changes.{MODES_WORDS, Runs}
use Rattle.planner.proofs.Leaving.{stored_leaves, leaves_long}
use Rattle.planner.proofs.Holding.{held_runs, stored_modes, held_decides}
use Rattle.planner.proofs.is_plan.Goals.{then-words-ne-WORDS-via-then-words-ne-WORDS, then-words-ne-WORDS-via-else-words-ne-WORDS+then-not-modes_hold}
use Rattle.planner.proofs.is_plan.Goals as goal

-- what can be summed of the modes that words hold
runs : (words : List ℕ) {b : Bool} → length words ≡ WORDS → Decides (HeldModes (take MODES_WORDS words)) b → b ≡ true → Runs (take MODES_WORDS words)
runs words long held e = held_runs _ (decides_true held e) (length-take MODES_WORDS words ∙ omega arith)

pub returns-then-words-ne-WORDS : goal.returns-then-words-ne-WORDS
returns-then-words-ne-WORDS c =
    decides_no (λ s. elim c.then-words-ne-WORDS.branch [
      | then-words-ne-WORDS-via-then-words-ne-WORDS w ↦ w.if-words-ne-WORDS.true (leaves_long (stored_leaves _ s).2)
      | then-words-ne-WORDS-via-else-words-ne-WORDS+then-not-modes_hold w ↦ decides_false {r = w.modes_hold.result} w.modes_hold.ensures w.if-not-modes_hold.true (stored_modes _ s)
    ])

pub returns : goal.returns
returns c =
    let (cs, found, decides) = c.changes_hold.ensures in
    held_decides c.args.words.now c.if-words-ne-WORDS.false (decides_true {r = c.modes_hold.result} c.modes_hold.ensures c.if-not-modes_hold.false) cs found c.changes_hold.result decides

pub changes_hold-requires : goal.changes_hold-requires
changes_hold-requires c = (c.if-words-ne-WORDS.false, runs c.args.words.now c.if-words-ne-WORDS.false c.modes_hold.ensures c.if-not-modes_hold.false)
