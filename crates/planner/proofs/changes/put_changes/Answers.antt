-- planner::changes::put_changes meets its contract. The invariant: behind the modes stand the changes below n.
use mathlib.Core.Path.{refl}
use native.Mathlib.Omega.{arith}
use Rattle.numbers.proofs.Laid.{begun_none, begun_put}
use Rattle.layout.specs.Words.{CHANGES, CHANGE_WORDS}
use Rattle.planner.specs.Changes.{Runs}
use Rattle.planner.proofs.Timing.{words_found, changes_put}
use Rattle.planner.proofs.changes.put_changes.Goals as goal

pub loop-n-init : goal.loop-n-init
loop-n-init c = begun_none CHANGE_WORDS _ (λ k. refl) CHANGES _ (omega (arith, c.split_at_mut-modes.ensures.back_len))

pub loop-n-preserved : goal.loop-n-preserved
loop-n-preserved c =
    let runs : Runs c.split_at_mut-modes.result.0.now = rw c.split_at_mut-modes.ensures.front c.requires.1 in
    begun_put CHANGE_WORDS _ (λ k. refl) CHANGES _ _ c.loop-n.n (omega arith) (words_found _ runs c.loop-n.n (omega arith) c.put_change_at.ensures) c.loop-n.invariant

pub returns : goal.returns
returns c =
    let runs : Runs c.split_at_mut-modes.result.0.now = rw c.split_at_mut-modes.ensures.front c.requires.1 in
    rw (← c.split_at_mut-modes.ensures.front) (changes_put _ runs c.loop-n.behind c.loop-n.n (omega arith) c.loop-n.invariant)
