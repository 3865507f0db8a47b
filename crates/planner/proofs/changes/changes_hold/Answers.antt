-- planner::changes::changes_hold meets its contract. The invariant: behind the modes stand the changes below n.
use mathlib.Core.Path.{sym, subst₂, ◌∙◌}
use mathlib.Core.Bool.{true, false}
use mathlib.Core.List.{List}
use Prim.Native.Nat.{ℕ}
use native.Mathlib.Omega.{arith}
use borrow.Author.Count.{below_more}
use Rattle.numbers.specs.Decides.{decides_true, decides_false}
use Rattle.numbers.proofs.Laid.{part_is}
use Rattle.layout.specs.Words.{CHANGE_WORDS}
use Rattle.planner.specs.Changes.{Runs}
use Rattle.planner.proofs.Timing.{Stand, words_found, all_stand, other_stands}
use Rattle.planner.proofs.changes.changes_hold.Goals as goal

pub returns-then-not-change_holds_at : goal.returns-then-not-change_holds_at
returns-then-not-change_holds_at c =
    let runs : Runs c.split_at.result.0.now = rw c.split_at.ensures.front c.requires.1 in
    subst₂ (λ (m b : List ℕ). Stand m b false) c.split_at.ensures.front c.split_at.ensures.back
    (other_stands _ runs c.split_at.result.1.now c.loop-n.n (omega arith)
    (λ e. decides_false c.change_holds_at.ensures.2 c.if-not-change_holds_at.true
    (part_is CHANGE_WORDS c.loop-n.n c.split_at.result.1.now ∙ e ∙ sym (words_found _ runs c.loop-n.n (omega arith) c.change_holds_at.ensures.1))))

pub loop-n-preserved : goal.loop-n-preserved
loop-n-preserved c =
    let runs : Runs c.split_at.result.0.now = rw c.split_at.ensures.front c.requires.1 in
    below_more _ c.loop-n.n c.loop-n.invariant
    (sym (part_is CHANGE_WORDS c.loop-n.n c.split_at.result.1.now)
    ∙ decides_true c.change_holds_at.ensures.2 c.if-not-change_holds_at.false ∙ words_found _ runs c.loop-n.n (omega arith) c.change_holds_at.ensures.1)

pub returns : goal.returns
returns c =
    let runs : Runs c.split_at.result.0.now = rw c.split_at.ensures.front c.requires.1 in
    subst₂ (λ (m b : List ℕ). Stand m b true) c.split_at.ensures.front c.split_at.ensures.back
    (all_stand _ runs c.split_at.result.1.now (omega (arith, c.split_at.ensures.back_len)) (λ k h. c.loop-n.invariant k (omega arith)))
