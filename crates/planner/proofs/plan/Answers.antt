-- planner::plan meets its contract.
use Rattle.std.proofs.lemmas.Result.{err_from_is_err_and}
use borrow.Author.Rules.{rules}
use mathlib.Core.Path.{refl}
use Rattle.planner.specs.Plans.{wrong_length, not_read}
use Rattle.planner.proofs.Answering.{told_refused}
use Rattle.planner.proofs.Accepting.{memory_fresh, memory_refused, memory_whole, memory_long, memory_runs, memory_accepted}
use Rattle.planner.proofs.plan.Goals as goal

pub returns-then-words-ne-WORDS : goal.returns-then-words-ne-WORDS
returns-then-words-ne-WORDS c = rw c.nowhere.ensures (wrong_length c.if-words-ne-WORDS.true)

pub returns-in_err-read : goal.returns-in_err-read
returns-in_err-read c = let p = err_from_is_err_and c.from_residual.result c.from_residual.ensures.1 in rw (p.1, p.2) (not_read c.if-words-ne-WORDS.false (told_refused c.in_err-read.ensures.told))

pub returns-in_err-plan_modes : goal.returns-in_err-plan_modes
returns-in_err-plan_modes c =
    let p = err_from_is_err_and c.from_residual-in_err-plan_modes.result c.from_residual-in_err-plan_modes.ensures.1 in rw (p.1, p.2) (memory_refused c.in_ok-read.ensures _ c.if-words-ne-WORDS.false _ c.in_err-plan_modes.ensures)

pub put_modes-requires : goal.put_modes-requires
put_modes-requires c =
    (search rules, search rules, search rules, search rules, memory_whole c.in_ok-read.ensures _ c.if-words-ne-WORDS.false _ _ c.in_ok-plan_modes.ensures)

pub returns : goal.returns
returns c = memory_accepted c.in_ok-read.ensures _ c.if-words-ne-WORDS.false _ _ c.in_ok-plan_modes.ensures _ c.put_modes.ensures _ c.put_changes.ensures

pub plan_modes-requires : goal.plan_modes-requires
plan_modes-requires c = memory_fresh c.in_ok-read.ensures _ refl

pub put_changes-requires : goal.put_changes-requires
put_changes-requires c = (
  memory_long c.in_ok-read.ensures c.args.words.now c.if-words-ne-WORDS.false _ _ c.in_ok-plan_modes.ensures _ c.put_modes.ensures,
  memory_runs c.in_ok-read.ensures c.args.words.now c.if-words-ne-WORDS.false _ _ c.in_ok-plan_modes.ensures _ c.put_modes.ensures,
)
